-- An encoding of supplements alone that was written reads back: format 0 without codes of its own, a count, and a code and the two bytes of a
-- string id for each. Stated over any list whose elements have a code and an id.
use Rattle.std.specs.Prelude.{ℕ, ◌+◌, ◌*◌, ◌≤◌, ◌<◌, ◌≡◌, take, Ok}
use Rattle.std.proofs.Math.Path.{refl, sym, ap}
use Rattle.std.proofs.Common.{◌∙◌, arith, drop-drop}
use Rattle.std.proofs.Math.Bool.{false}
use mathlib.Core.List.{List, [], ◌∷◌, ◌++◌, append_assoc}
use borrow.Author.Tests.{le-ltb}
use Rattle.std.proofs.Math.Dec.{ltb}
use Rattle.std.proofs.Math.ListN.{length, drop, get_or, length-append}
use Rattle.octets.specs.Octets.{be, bytes_of}
use Rattle.octets.specs.OctetsLaws.{length-bytes, be-front, drop-front}
use Rattle.octets.specs.ListLaws.{lies_at, lies_first}
use Rattle.charset.specs.Encoding.{encoding_at}
use Rattle.charset.specs.Codes.{Naming, by_string, supplied_from, codes_from, namings_by, namings_at}

-- the bytes of the elements, and what they say
unfoldable pub supplement_bytes : {A : Type 0} → (A → ℕ) → (A → ℕ) → List A → List ℕ
supplement_bytes code id [] = []
supplement_bytes code id (x ∷ xs) = code x ∷ (bytes_of 2 (id x) ++ supplement_bytes code id xs)

unfoldable pub supplied : {A : Type 0} → (A → ℕ) → (A → ℕ) → List A → List Naming
supplied code id [] = []
supplied code id (x ∷ xs) = by_string (code x) (id x) ∷ supplied code id xs

-- their ids are of two bytes
pub data Small {A : Type 0} (id : A → ℕ) : List A → Type 0 where
  small-none : Small id []
  small-more : {x : A} {xs : List A} → id x < 65536 → Small id xs → Small id (x ∷ xs)

module _ {A : Type 0} (code id : A → ℕ) where
  supplements-length : (xs : List A) → length (supplement_bytes code id xs) ≡ length xs * 3
  unfolding supplement_bytes
  supplements-length [] = refl
  supplements-length (x ∷ xs) = rw length-append (omega (arith, length-bytes 2 (id x), supplements-length xs))

  supplements-back : (xs : List A) (post : List ℕ) → Small id xs → supplied_from (length xs) (supplement_bytes code id xs ++ post) ≡ supplied code id xs
  unfolding supplied_from supplement_bytes supplied
  supplements-back [] post s = refl
  supplements-back (x ∷ xs) post (small-more h s) =
      let a = append_assoc (bytes_of 2 (id x)) (supplement_bytes code id xs) post in
      let f : be 0 (take 2 (bytes_of 2 (id x) ++ (supplement_bytes code id xs ++ post))) ≡ id x = be-front 2 (id x) (supplement_bytes code id xs ++ post) h in
      let d : drop 2 (bytes_of 2 (id x) ++ (supplement_bytes code id xs ++ post)) ≡ supplement_bytes code id xs ++ post = drop-front 2 (id x) (supplement_bytes code id xs ++ post) in
      simp (a, f, d, supplements-back xs post s)

  module _ (b : List ℕ) (at : ℕ) (xs : List A) (post : List ℕ) (lies : drop at b ≡ (0x80 ∷ 0x00 ∷ length xs ∷ supplement_bytes code id xs) ++ post) where
    -- it passes the checks
    pub encoding-passes : encoding_at b at ≡ Ok tt
    unfolding encoding_at
    encoding-passes =
        let l : length xs * 3 ≤ length (supplement_bytes code id xs ++ post) = rw length-append (omega (arith, supplements-length xs)) in
        let none : ltb (length (length xs ∷ (supplement_bytes code id xs ++ post))) 0 ≡ false = le-ltb (length (length xs ∷ (supplement_bytes code id xs ++ post))) 0 (omega arith) in
        rw lies (simp (none, le-ltb (length (supplement_bytes code id xs ++ post)) (length xs * 3) l))

    -- and says what was written
    pub encoding-back : Small id xs → namings_at b at ≡ supplied code id xs
    unfolding namings_at namings_by codes_from
    encoding-back s =
        let format : get_or b at 0 ≡ 0x80 = lies_first b at _ lies in
        let count : get_or b (at + 1) 0 ≡ 0 = lies_at b at _ lies 1 in
        let rest : drop (at + 2) b ≡ length xs ∷ (supplement_bytes code id xs ++ post) = sym (drop-drop 2 at b) ∙ ap (drop 2) lies in
        rw (format, count, rest) (supplements-back xs post s)
