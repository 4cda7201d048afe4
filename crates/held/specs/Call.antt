-- Demand 3 over a call (document 01, 'Plain glyphs': finding is run on the output bytes up to the length): what `Faithful` says of the
-- outcome's bytes holds of the front of the output after a call that was not refused, so long as it answered; and so does what `KeepsCodes` says
-- (document 02, Wish 4).
use Rattle.std.specs.Prelude.{ℕ, ◌+◌, ◌≡◌, Bool, true, false, List, length, take, Ok}
use Rattle.std.proofs.Common.{sym, ap, ◌∙◌, subst, arith}
use Rattle.octets.specs.Octets.{put}
use Rattle.octets.specs.PutLaws.{take_put}
use Rattle.unfold.specs.Unfold.{Tok, Row, plain}
use Rattle.dict.specs.Lookup.{cid_keyed}
use Rattle.cff.specs.Font.{Program, read_font}
use Rattle.subset.specs.Cut.{Outcome, refused, subset, leaves_out, cut_with}
use Rattle.faithful.specs.Faithful.{unfolded, IsKept, Recorded, Holds, Faithful}
use Rattle.faithful.specs.Codes.{CodesKept, KeepsCodes}
use Rattle.outcome.specs.Entry.{a_cut, answer_of, CutsWith}
use Rattle.outcome.specs.declared.Subsetted.{Subsetted}
use Rattle.subset.specs.declared.Way.{Way}

-- what is written in front stands in front
front-put : (out bs : List ℕ) → take (length bs) (put out 0 bs) ≡ bs
front-put out bs =
    let e : length bs ≡ 0 + length bs = omega arith in ap (λ (n : ℕ). take n (put out 0 bs)) e ∙ take_put out 0 bs (omega arith)

module _ (font keep rec : List ℕ) (flag : ℕ) (way : Way) (len : ℕ) (out out' : List ℕ) where
  -- every plain kept glyph that the record covers is found in the first len bytes of the output, and unfolds there to the same tokens
  abbrev pub HoldsAll : Type 0
  HoldsAll =
      (p : Program) → read_font font ≡ Ok p → (g : ℕ) → IsKept p keep g → (ts : List Tok) (met : List Row) → unfolded p g ≡ plain ts met
      → Recorded rec flag met → Holds p g ts (take len out')

  -- the outcome's bytes are those bytes
  front_is : (bs : List ℕ) → len ≡ length bs → out' ≡ put out 0 bs → bs ≡ take len out'
  front_is bs size output = sym (ap (λ (n : ℕ). take n out') size ∙ ap (λ (l : List ℕ). take (length bs) l) output ∙ front-put out bs)

  -- the length that was answered is theirs
  size_is : (w : Way) (bs : List ℕ) → a_cut way len ≡ a_cut w (length bs) → len ≡ length bs
  size_is w bs e =
      let s : ◌≡◌ {A = Subsetted} (record { way = way; len = len }) (record { way = w; len = length bs }) = cc in ap (λ (x : Subsetted). x.len) s

  outcome-holds : (o : Outcome) → a_cut way len ≡ answer_of o → out' ≡ leaves_out o out → Faithful font keep rec flag o → HoldsAll
  outcome-holds (refused n) answers output f = let z : ◌≡◌ {A = ℕ} 0 1 = cc in absurd (omega (arith, z))
  outcome-holds (subset w bs) answers output f =
      λ p reads g kept ts met plainly recorded. subst (λ (l : List ℕ). Holds p g ts l) (front_is bs (size_is w bs answers) output) (f p reads g kept ts met plainly recorded)

  -- THE CALL: what it leaves, where it answered a way and a length
  pub call_holds : (size : Program → ℕ) (cid ask : Bool) (name work work' : List ℕ) → CutsWith size cid ask font name keep rec flag work out work' out' (a_cut way len) → HoldsAll
  call_holds size cid ask name work work' c = outcome-holds (cut_with size cid ask font name keep rec flag (length work) (length out)) c.answers c.output c.faithful

  -- the first len bytes of the output are a font in which each code means what it meant, where its glyph is kept, and no other code any
  abbrev pub HoldsCodes : Bool → Type 0
  HoldsCodes ask =
      ask ≡ true → (p : Program) → read_font font ≡ Ok p → cid_keyed p.top ≡ false → (q : Program) × (read_font (take len out') ≡ Ok q) × CodesKept p keep q

  outcome-codes : (ask : Bool) (o : Outcome) → a_cut way len ≡ answer_of o → out' ≡ leaves_out o out → KeepsCodes ask font keep o → HoldsCodes ask
  outcome-codes ask (refused n) answers output f = let z : ◌≡◌ {A = ℕ} 0 1 = cc in absurd (omega (arith, z))
  outcome-codes ask (subset w bs) answers output f =
      λ asked p reads named. subst (λ (l : List ℕ). (q : Program) × (read_font l ≡ Ok q) × CodesKept p keep q) (front_is bs (size_is w bs answers) output) (f asked p reads named)

  pub call_codes : (size : Program → ℕ) (cid ask : Bool) (name work work' : List ℕ) → CutsWith size cid ask font name keep rec flag work out work' out' (a_cut way len) → HoldsCodes ask
  call_codes size cid ask name work work' c = outcome-codes ask (cut_with size cid ask font name keep rec flag (length work) (length out)) c.answers c.output c.codes
