-- The lengths of masks (document 01, 'Reach record') as the code asks for them: rows compared by one number, which their first eight bytes are.
use Rattle.std.specs.Prelude.{ℕ, ◌+◌, ◌*◌, ◌/◌, ◌≤◌, ◌<◌, Bool, true, false, ◌&&◌, not, List, [], ◌∷◌, ltb, eqb, length}
use Rattle.octets.specs.Pick.{pick}
use Rattle.charstring.specs.declared.MaskLen.{MaskLen}
use Rattle.charstring.specs.declared.MaskLen.TheVariants.{Own, Given}
use Rattle.unfold.specs.Unfold.{Row}
use Rattle.reach.specs.Reach.{key_of_lem, row_no}

-- the body that a row speaks of, as one number: kind, FD, number
abbrev pub body_of_lem : Row → ℕ
body_of_lem r = (r.kind * 256 + r.fd) * 65536 + r.number

-- no key falls below the one before, nor the first below m
unfoldable pub rises_from : ℕ → List Row → Bool
rises_from m [] = true
rises_from m (r ∷ rs) = pick (ltb (key_of_lem r) m) false (rises_from (key_of_lem r) rs)

-- the length of the first row that has a key
unfoldable pub len_at : ℕ → List Row → MaskLen
len_at key [] = Own
len_at key (r ∷ rs) = pick (eqb (key_of_lem r) key) (Given r.len) (len_at key rs)

-- a row has a key and another length; some row has
abbrev pub clashes : ℕ → ℕ → Row → Bool
clashes key len q = eqb key (key_of_lem q) && not (eqb len q.len)

unfoldable pub other_len_lem : ℕ → ℕ → List Row → Bool
other_len_lem key len [] = false
other_len_lem key len (q ∷ rs) = pick (clashes key len q) true (other_len_lem key len rs)

-- a row is of a body, and a later one has its key and another length
abbrev pub clash_at : ℕ → Row → List Row → Bool
clash_at body r rs = eqb (body_of_lem r) body && other_len_lem (key_of_lem r) r.len rs

-- two lengths at one offset of a body
unfoldable pub two_of : ℕ → List Row → Bool
two_of body [] = false
two_of body (r ∷ rs) = pick (clash_at body r rs) true (two_of body rs)

-- the first row whose key is not below a key, where all behind it are not either; or how many rows there are
pub record FirstAt (b : List ℕ) (key i : ℕ) : Type 0 where
  pub within : i ≤ length b / 10
  pub below : (j : ℕ) → j < i → key_of_lem (row_no b j) < key
  pub above : (j : ℕ) → i ≤ j → j < length b / 10 → key ≤ key_of_lem (row_no b j)
