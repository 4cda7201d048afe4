-- What the entries for C answer (document 01, 'Entries and their refusals'): a refusal, which writes nothing, or what is written to the
-- start of the lent words or bytes. 11 stands for too little room, and comes after every other refusal.
use Rattle.std.specs.Prelude.{ℕ, ◌≡◌, List, [], ◌∷◌, ltb, eqb, length, None, Option, Some, Result, Ok, Err}
use Rattle.octets.specs.Pick.{pick}
use Rattle.octets.specs.Octets.{put}
use Rattle.refusal.specs.Refusal.{number_of, number_or_0}
use Rattle.refusal.specs.declared.Refusal.{Refusal}
use Rattle.refusal.specs.declared.Refusal.TheVariants.{NoSuchNumber}
use Rattle.cff.specs.Font.{Program}
use Rattle.cff.specs.Find.{item_refusal_lem, item_of}
use Rattle.cff.specs.declared.Counts.{Counts}
use Rattle.cff_entries.specs.Kinds.{kind_of}

-- an answer: the number of a refusal, or what is written
pub data Answer : Type 0 where
  refused : ℕ → Answer
  given : List ℕ → Answer

-- a call whose result Is tells of, and the number that C is given of it
pub record ForC (Is : Result Unit Refusal → Type 0) (r : ℕ) : Type 0 where
  pub result : Result Unit Refusal
  pub number : r ≡ number_or_0 result
  pub is : Is result

-- the five words of reading: glyphs, global subroutines, strings, 1 where the font is CID-keyed, W
abbrev pub count_words : Counts → List ℕ
count_words c = c.glyphs ∷ c.globals ∷ c.strings ∷ pick c.cid 1 0 ∷ c.work ∷ []

-- the answer of reading
abbrev pub read_answer : Result Counts Refusal → Answer
read_answer (Err n) = refused (number_of n)
read_answer (Ok c) = given (count_words c)

-- the answer of finding: the glyph, 65536 where it is absent
abbrev pub found_answer : Result (Option ℕ) Refusal → Answer
found_answer (Err n) = refused (number_of n)
found_answer (Ok None) = given (65536 ∷ [])
found_answer (Ok (Some g)) = given (g ∷ [])

-- the answer of two words
abbrev pub two_answer : Result (ℕ × ℕ) Refusal → Answer
two_answer (Err n) = refused (number_of n)
two_answer (Ok w) = given (w.0 ∷ w.1 ∷ [])

-- the number that a call returns, by the room that is lent: 0 where the answer is written
abbrev pub answer_number : Answer → ℕ → ℕ
answer_number (refused n) room = n
answer_number (given ws) room = pick (ltb room (length ws)) 11 0

-- what is lent, after the call
abbrev pub afterwards : Answer → List ℕ → List ℕ
afterwards (refused n) old = old
afterwards (given ws) old = pick (ltb (length old) (length ws)) old (put old 0 ws)

-- a call's number, and what was lent to it before and after
pub record Answers (a : Answer) (old new : List ℕ) (r : ℕ) : Type 0 where
  pub number : r ≡ answer_number a (length old)
  pub written : new ≡ afterwards a old

-- ---- items

-- a kind above 2 has no items: reading's refusal, then 6
abbrev pub no_kind_lem : Result Program Refusal → Refusal
no_kind_lem (Err n) = n
no_kind_lem (Ok p) = NoSuchNumber

-- the refusal of a lookup, if it is refused
unfoldable pub lookup_refusal : Result Program Refusal → ℕ → ℕ → Result Unit Refusal
lookup_refusal g kind number = pick (ltb kind 3) (item_refusal_lem g (kind_of kind) number) (Err (no_kind_lem g))

-- the answer of a lookup: the item's bytes
abbrev pub looked_up : Result Unit Refusal → List ℕ → Answer
looked_up (Err n) bs = refused (number_of n)
looked_up (Ok u) bs = given bs

unfoldable pub item_answer : Result Program Refusal → ℕ → ℕ → Answer
item_answer g kind number = looked_up (lookup_refusal g kind number) (item_of g (kind_of kind) number)

-- the number that a lookup returns, by the bytes and the words that are lent
abbrev pub item_number : Answer → ℕ → ℕ → ℕ
item_number (refused n) bytes words = n
item_number (given bs) bytes words = pick (ltb bytes (length bs)) 11 (pick (ltb words 1) 11 0)

-- a lent slice, into which ws goes where the number returned is 0, after the call
abbrev pub written_if : ℕ → List ℕ → List ℕ → List ℕ
written_if r old ws = pick (eqb r 0) (put old 0 ws) old

-- the bytes of an answer
abbrev pub bytes_given : Answer → List ℕ
bytes_given (refused n) = []
bytes_given (given bs) = bs

-- a lookup's number, and the lent bytes and words before and after: the item, and its length
pub record AnswersItem (a : Answer) (out out' size size' : List ℕ) (r : ℕ) : Type 0 where
  pub number : r ≡ item_number a (length out) (length size)
  pub item : out' ≡ written_if r out (bytes_given a)
  pub measured : size' ≡ written_if r size (length (bytes_given a) ∷ [])
