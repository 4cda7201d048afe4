-- Laws of a written charset: its length, and that the format and then one id behind the other give it.
use Rattle.std.specs.Prelude.{ℕ, ◌+◌, ◌*◌, ◌≤◌, ◌<◌, ◌≡◌, refl, List, [], ◌∷◌, ◌++◌, length, take, drop, get_or}
use Rattle.std.proofs.Common.{sym, ap, append_assoc, append-nil, add-one, arith, length-append, length-drop, take-suc, take_all, length-take-le}
use Rattle.std.proofs.lemmas.List.{drop-append-le}
use Rattle.octets.specs.Octets.{bytes_of, Wrote}
use Rattle.octets.specs.OctetsLaws.{length-bytes}
use Rattle.octets.specs.PutLaws.{wrote_then, wrote_as}
use Rattle.charset.specs.CharsetBytes.{id_bytes, charset_bytes, charset_len}

id_bytes-length : (ids : List ℕ) → length (id_bytes ids) ≡ 2 * length ids
unfolding id_bytes
id_bytes-length [] = refl
id_bytes-length (id ∷ ids) = rw length-append (omega (arith, length-bytes 2 id, id_bytes-length ids))

pub charset-length : (ids : List ℕ) → length (charset_bytes ids) ≡ charset_len (length ids)
unfolding charset_bytes
charset-length ids = omega (arith, id_bytes-length (drop 1 ids), length-drop 1 ids)

id_bytes-append : (ids more : List ℕ) → id_bytes (ids ++ more) ≡ id_bytes ids ++ id_bytes more
unfolding id_bytes
id_bytes-append [] more = refl
id_bytes-append (id ∷ ids) more = rw (id_bytes-append ids more) (sym (append_assoc (bytes_of 2 id) (id_bytes ids) (id_bytes more)))

one_id : (id : ℕ) → id_bytes (id ∷ []) ≡ bytes_of 2 id
unfolding id_bytes
one_id id = append-nil (bytes_of 2 id)

-- one id more
pub charset_snoc : (ids : List ℕ) (id : ℕ) → 0 < length ids → charset_bytes (ids ++ (id ∷ [])) ≡ charset_bytes ids ++ bytes_of 2 id
unfolding charset_bytes
charset_snoc ids id h = rw (drop-append-le 1 ids (id ∷ []) h, id_bytes-append (drop 1 ids) (id ∷ []), one_id id)

-- ---- written by a loop: the format with glyph 0, then the id of each glyph k

first_glyph : (ids : List ℕ) → charset_bytes (take 1 ids) ≡ 0 ∷ []
unfolding charset_bytes id_bytes
first_glyph [] = refl
first_glyph (id ∷ ids) = refl

module _ {old new : List ℕ} {at q : ℕ} (ids : List ℕ) where
  pub charset_begun : Wrote old at (0 ∷ []) new q → Wrote old at (charset_bytes (take 1 ids)) new q
  charset_begun w = wrote_as w (sym (first_glyph ids))

  pub charset-more : {mid : List ℕ} {p : ℕ} (k : ℕ) → at ≤ length old → 0 < k → k < length ids
      → Wrote old at (charset_bytes (take k ids)) mid p → Wrote mid p (bytes_of 2 (get_or ids k 0)) new q
      → Wrote old at (charset_bytes (take (k + 1) ids)) new q
  charset-more {mid} {p} k h some m v w =
      let n : 0 < length (take k ids) = omega (arith, length-take-le k ids (omega arith)) in
      let e : charset_bytes (take k ids) ++ bytes_of 2 (get_or ids k 0) ≡ charset_bytes (take (k + 1) ids)
      = rw (add-one, take-suc ids k 0 m) (sym (charset_snoc (take k ids) (get_or ids k 0) n)) in
      wrote_as (wrote_then h v w) e

  pub charset-finished : (k : ℕ) → length ids ≤ k → Wrote old at (charset_bytes (take k ids)) new q → Wrote old at (charset_bytes ids) new q
  charset-finished k h w = wrote_as w (ap charset_bytes (take_all k ids h))

  -- there is room for the next id
  pub charset-room : (k size : ℕ) → 0 < k → k < length ids → at + length (charset_bytes ids) ≤ size
      → Wrote old at (charset_bytes (take k ids)) new q → q + 2 ≤ size
  charset-room k size some h m w =
      omega (arith, charset-length ids, charset-length (take k ids), length-take-le k ids (omega arith), w.behind)
