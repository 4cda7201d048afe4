-- Big fonts on the small server (document 02, Wish 10): a subset call whose work slice is one bit per glyph, rounded up to words, beside the bits
-- of Wish 7. Proved in Theorem.
use Rattle.std.specs.Prelude.{ℕ, ◌+◌, ◌≤◌, ◌≡◌, Bool, List, length, Ok}
use Rattle.bits.specs.Bits.{words_for}
use Rattle.cff.specs.Font.{Program, read_font}
use Rattle.cff.specs.Find.{locals_words, work_size}
use Rattle.subset.specs.Cut.{Outcome, cut_of, cut_with}

-- its W: a bit for each glyph, each global subroutine and each local one of an FD
abbrev pub small_size : Program → ℕ
small_size p = words_for (length p.charstrings) + words_for (length p.globals) + locals_words p.privates

-- its outcome: refusal 9 goes by its own W
abbrev pub cut_small : Bool → Bool → List ℕ → List ℕ → List ℕ → List ℕ → ℕ → ℕ → ℕ → Outcome
cut_small cid ask font name keep rec flag words room = cut_with small_size cid ask font name keep rec flag words room

-- words that are enough for what a call asks for; a font that reading refuses asks for none
abbrev pub Enough : (Program → ℕ) → List ℕ → ℕ → Type 0
Enough size font words = (p : Program) → read_font font ≡ Ok p → size p ≤ words

-- on every input, with work words lent to each that are enough for its own W, number, way, length and bytes are those of the larger call
abbrev pub SameAsLarge : Type 0
SameAsLarge =
    (cid ask : Bool) (font name keep rec : List ℕ) (flag words words' room : ℕ) → Enough work_size font words → Enough small_size font words'
    → cut_small cid ask font name keep rec flag words' room ≡ cut_of cid ask font name keep rec flag words room
