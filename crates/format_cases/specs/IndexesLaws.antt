-- Laws of the answers of an INDEX, by the code's ways out.
use Prim.Native.Nat.{ℕ, zero, suc, ◌+◌, ◌-◌, ◌*◌, ◌≤◌, ◌<◌}
use Rattle.std.specs.Prelude.{◌≡◌, List, [], ◌∷◌, ◌++◌, length, take, drop, None, Some, Result, Ok, Err}
use Rattle.std.proofs.Math.Path.{refl, ap}
use Rattle.std.proofs.Common.{sym, ◌∙◌, length-drop, take_all, lt-ltb, le-ltb}
use native.Mathlib.Omega.{arith}
use Rattle.std.proofs.Math.ListN.{length-append}
use Rattle.octets.specs.Octets.{num_at, bytes_of}
use Rattle.octets.specs.OctetsLaws.{length-bytes}
use Rattle.index.specs.Index.{index_at}
use Rattle.index.specs.Good.{offset_of}
use Rattle.index.specs.declared.Index.{Index}
use Rattle.format_cases.specs.Indexes.{item_bytes, items_bytes, head_bytes, index_found, index_answer}
use Rattle.refusal.specs.declared.Refusal.{Refusal}
use Rattle.refusal.specs.Refusal.{number_of}

module _ (b : List ℕ) (ix : Index) where
  pub item-length : (k : ℕ) → length (item_bytes b ix k) ≡ 6
  unfolding item_bytes
  item-length k =
      rw length-append (omega (arith, length-bytes 4 (ix.base + offset_of b ix k), length-bytes 2 (offset_of b ix (k + 1) - offset_of b ix k)))

  -- by the code's offsets
  pub item_is : (k s e : ℕ) → s ≡ offset_of b ix k → e ≡ offset_of b ix (k + 1) → bytes_of 4 (ix.base + s) ++ bytes_of 2 (e - s) ≡ item_bytes b ix k
  unfolding item_bytes
  item_is k s e p q = rw (p, q)

  pub items-length : (k n : ℕ) → length (items_bytes b ix k n) ≡ 6 * n
  unfolding items_bytes
  items-length k zero = refl
  items-length k (suc n) = rw length-append (omega (arith, item-length k, items-length (k + 1) n))

  pub items-next : (k n : ℕ) → k < n → items_bytes b ix k (n - k) ≡ item_bytes b ix k ++ items_bytes b ix (k + 1) (n - (k + 1))
  unfolding items_bytes
  items-next k n h = let m : n - k ≡ suc (n - (k + 1)) = omega arith in ap (items_bytes b ix k) m

  pub items-none : (k n : ℕ) → n ≤ k → items_bytes b ix k (n - k) ≡ []
  unfolding items_bytes
  items-none k n h = let m : n - k ≡ 0 = omega arith in ap (items_bytes b ix k) m

pub head-length : (ix : Index) → length (head_bytes ix) ≡ 7
unfolding head_bytes
head-length ix = rw length-append (omega (arith, length-bytes 4 ix.end, length-bytes 2 ix.count))

-- ---- the ways out

module _ (b : List ℕ) (q r : Result Index Refusal) (e : r ≡ q) where
  pub found_refused : (n : Refusal) → r ≡ Err n → index_found b q ≡ Some (number_of n ∷ [])
  found_refused n f = ap (index_found b) (sym e ∙ f)

  pub found_many : (ix : Index) → r ≡ Ok ix → 600 < ix.count → index_found b q ≡ None
  found_many ix f h = ap (index_found b) (sym e ∙ f) ∙ rw (lt-ltb 600 ix.count h)

  pub found-index : (ix : Index) → r ≡ Ok ix → ix.count ≤ 600 → index_found b q ≡ Some (head_bytes ix ++ items_bytes b ix 0 ix.count)
  found-index ix f h = ap (index_found b) (sym e ∙ f) ∙ rw (le-ltb 600 ix.count h)

-- the font behind the fields of an input, as it is lent
pub rest-lent : (s : List ℕ) (k : ℕ) → k ≤ length s → take (length s - k) (drop k s) ≡ drop k s
rest-lent s k h = take_all (length s - k) (drop k s) (rw length-drop (omega arith))

module _ (s : List ℕ) where
  pub index_short : length s < 2 → index_answer s ≡ None
  unfolding index_answer
  index_short h = rw (lt-ltb (length s) 2 h)

  pub index-whole : 2 ≤ length s → (font : List ℕ) → font ≡ drop 2 s → (at : ℕ) → at ≡ num_at s 0 2 → index_answer s ≡ index_found font (index_at font at)
  unfolding index_answer
  index-whole h font e at f = rw (le-ltb (length s) 2 h, e, f)
