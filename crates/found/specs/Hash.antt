-- Marks of names (document 01, refusal 7): each name has a hash and each hash two places among 131,072 bits. Names of the same bytes have
-- the same places, so a name with a place that is not marked is none of those that were marked.
use Rattle.std.specs.Prelude.{ℕ, ◌+◌, ◌*◌, ◌/◌, ◌%◌, ◌<◌, ◌≡◌, Bool, true, false, not, List, [], ◌∷◌, eqb, length, get_or}
use Rattle.octets.specs.Pick.{pick}
use Rattle.strings.specs.Strings.{string_text}
use Rattle.bits.specs.Bits.{bit_in}
use Rattle.found.specs.declared.Told.{Told}
use Rattle.found.specs.declared.Told.TheVariants.{Yes, No, Open}

-- the hash of a text behind bytes whose hash is h
unfoldable pub hash_from : ℕ → List ℕ → ℕ
hash_from h [] = h
hash_from h (b ∷ bs) = hash_from ((h + b) * 16777619 % 4294967296) bs

abbrev pub hash_of_lem : List ℕ → ℕ
hash_of_lem text = hash_from 0 text

-- its two places: one for each half of the hash
abbrev pub low_place : ℕ → ℕ
low_place h = h % 65536

abbrev pub high_place : ℕ → ℕ
high_place h = 65536 + h / 65536

-- one of the places is not marked
abbrev pub is_new : (ℕ → Bool) → ℕ → Bool
is_new marks h = pick (marks (low_place h)) (not (marks (high_place h))) true

-- both are, and the other marks stay
abbrev pub with_hash : (ℕ → Bool) → ℕ → ℕ → Bool
with_hash marks h j = pick (eqb j (high_place h)) true (pick (eqb j (low_place h)) true (marks j))

-- the places of a hash asked, and marked
pub record Marked (old : List ℕ) (h : ℕ) (new : List ℕ) (r : Bool) : Type 0 where
  pub size : length new ≡ length old
  pub is : r ≡ is_new (bit_in old 0) h
  pub bits : (j : ℕ) → bit_in new 0 j ≡ with_hash (bit_in old 0) h j

-- a text is among the marked ones
pub record Met (marks : ℕ → Bool) (text : List ℕ) : Type 0 where
  pub low : marks (low_place (hash_of_lem text)) ≡ true
  pub high : marks (high_place (hash_of_lem text)) ≡ true

-- the names of the first g glyphs are marked
pub record MetNames (strings : List (List ℕ)) (ids : List ℕ) (g : ℕ) (marks : ℕ → Bool) : Type 0 where
  pub all : (k : ℕ) → k < g → Met marks (string_text strings (get_or ids k 0))

-- what a pass over the names tells, and where it leaves it open, what is so
abbrev pub told : Told → Bool → Bool
told Yes so = true
told No so = false
told Open so = so
