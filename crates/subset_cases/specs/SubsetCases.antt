-- The answers of stored cases S and D (tools/compare/README.md, 'Stored subsets'), over the outcome of a call.
use Rattle.std.specs.Prelude.{ℕ, ◌+◌, ◌*◌, Bool, true, false, List, [], ◌∷◌, ltb, eqb, length, take, drop, get_or, None, Option, Some}
use Rattle.octets.specs.Pick.{pick}
use Rattle.octets.specs.Octets.{num_at}
use Rattle.cases.specs.Inputs.{font_input, over}
use Rattle.refusal.specs.Refusal.{number_of}
use Rattle.sheet.specs.Sheet.{pairs}
use Rattle.subset.specs.Cut.{Outcome, refused, subset, cut_of}
use Rattle.subset.specs.Way.{way_number}

-- the refusal; or none, the way and the subset
abbrev pub outcome_bytes : Outcome → List ℕ
outcome_bytes (refused n) = number_of n ∷ []
outcome_bytes (subset way bs) = 0 ∷ way_number way ∷ bs

-- the flag, how many words and bytes are lent, of each at most what there is here, and the record
unfoldable pub lent_answer : Bool → List ℕ → List ℕ → List ℕ → List ℕ → Option (List ℕ)
lent_answer cid font name keep s =
    pick (ltb (length s) 5) None
    (pick (ltb 1024 (num_at s 1 2)) None
    (pick (ltb 4094 (num_at s 3 2)) None
    (Some (outcome_bytes (cut_of cid false font name keep (drop 5 s) (get_or s 0 0) (num_at s 1 2) (num_at s 3 2))))))

-- how many numbers are kept, at most 256, and the numbers
unfoldable pub kept_answer : Bool → List ℕ → List ℕ → List ℕ → Option (List ℕ)
kept_answer cid font name s =
    pick (ltb (length s) 2) None
    (pick (ltb 256 (num_at s 0 2)) None
    (pick (ltb (length s) (2 + 2 * num_at s 0 2)) None
    (lent_answer cid font name (pairs (take (2 * num_at s 0 2) (drop 2 s))) (drop (2 + 2 * num_at s 0 2) s))))

-- the name's length in one byte, and the name
unfoldable pub named_answer : Bool → List ℕ → List ℕ → Option (List ℕ)
named_answer cid font s =
    pick (ltb (length s) 1) None
    (pick (ltb (length s) (1 + get_or s 0 0)) None (kept_answer cid font (take (get_or s 0 0) (drop 1 s)) (drop (1 + get_or s 0 0) s)))

-- the kinds' letters: S, D
abbrev pub kinds : List ℕ
kinds = 83 ∷ 68 ∷ []

-- by the kind's letter: the entry for name-keyed fonts, and the one for CID-keyed
unfoldable pub asked_answer : ℕ → List ℕ → List ℕ → Option (List ℕ)
asked_answer kind font asked = pick (eqb kind 83) (named_answer false font asked) (pick (eqb kind 68) (named_answer true font asked) None)

-- an input: the font's length in two bytes, the font, and what is asked of it
unfoldable pub subset_answer : ℕ → List ℕ → Option (List ℕ)
subset_answer kind s = over (asked_answer kind) (font_input s)
