-- Laws of a test on each row, and of a record whose rows are of their form: a row of a subroutine reached says no more than which.
use Rattle.std.specs.Prelude.{ℕ, ◌%◌, ◌≡◌, Bool, true, false, ◌&&◌, eqb, length}
use Rattle.std.proofs.Math.Path.{refl, ap}
use Rattle.std.proofs.Common.{sym, ◌∙◌, eqb-true}
use mathlib.Core.List.{List, [], ◌∷◌}
use Rattle.octets.specs.Pick.{pick}
use Rattle.octets.specs.PickLaws.{both_hold}
use Rattle.strings.proofs.TableLaws.{and_left, and_right}
use Rattle.unfold.specs.Unfold.{Row, local, global, entered}
use Rattle.record.specs.Record.{rows_of, takes_fd, row_fine_lem, rows_fine_lem, record_fine}
use Rattle.faithful.specs.RecordLaws.{row_is}
use Rattle.traced.specs.Has.{Has, here, there}
use Rattle.accepted.specs.Accepted.{each_row}

-- ---- a test on each row

module _ (test : Row → Bool) where
  -- what holds of each holds of one of them
  pub each_at : (rows : List Row) → each_row test rows ≡ true → (r : Row) → Has Row r rows → test r ≡ true
  unfolding each_row
  each_at [] e r x'' = elim x'' [ ]
  each_at (q ∷ rows) e r (here i) = ap test (sym i) ∙ (both_hold (test q) (each_row test rows) e).0
  each_at (q ∷ rows) e r (there h) = each_at rows (both_hold (test q) (each_row test rows) e).1 r h

  pub each_from : (rows : List Row) → ((r : Row) → Has Row r rows → test r ≡ true) → each_row test rows ≡ true
  unfolding each_row
  each_from [] f = refl
  each_from (r ∷ rows) f = rw (f r (here refl)) (each_from rows (λ q h. f q (there h)))

-- ---- rows of their form

fine_at : (cid : Bool) (rows : List Row) → rows_fine_lem cid rows ≡ true → (r : Row) → Has Row r rows → row_fine_lem cid r ≡ true
unfolding rows_fine_lem
fine_at cid [] e r x'' = elim x'' [ ]
fine_at cid (q ∷ rows) e r (here i) = ap (row_fine_lem cid) (sym i) ∙ and_left (row_fine_lem cid q) (rows_fine_lem cid rows) e
fine_at cid (q ∷ rows) e r (there h) = fine_at cid rows (and_right (row_fine_lem cid q) (rows_fine_lem cid rows) e) r h

-- each row of a record that is not refused by 8
pub record-row : (cid : Bool) (rec : List ℕ) (flag : ℕ) → record_fine cid rec flag ≡ true → (r : Row) → Has Row r (rows_of rec) → row_fine_lem cid r ≡ true
unfolding record_fine
record-row cid rec flag e r h =
    let form = pick (eqb flag 0) (eqb (length rec) 0) (eqb flag 1) in
    fine_at cid (rows_of rec) (and_left (rows_fine_lem cid (rows_of rec)) form (both_hold (eqb (length rec % 10) 0) (rows_fine_lem cid (rows_of rec) && form) e).1) r h

-- a row of a local subroutine reached, and of a global one
pub local_row : (cid : Bool) (r : Row) → r.kind ≡ 0 → row_fine_lem cid r ≡ true → r ≡ entered (local r.fd r.number)
local_row cid r k e =
    let f : (pick (takes_fd cid 0) true (eqb r.fd 0) && (eqb r.offset 0 && eqb r.len 0)) ≡ true = rw k at e in
    let z = and_right (pick (takes_fd cid 0) true (eqb r.fd 0)) (eqb r.offset 0 && eqb r.len 0) f in
    row_is r (entered (local r.fd r.number)) k refl refl
    (eqb-true r.offset 0 (and_left (eqb r.offset 0) (eqb r.len 0) z)) (eqb-true r.len 0 (and_right (eqb r.offset 0) (eqb r.len 0) z))

no_fd : (cid : Bool) → takes_fd cid 1 ≡ false
no_fd true = refl
no_fd false = refl

pub global_row : (cid : Bool) (r : Row) → r.kind ≡ 1 → row_fine_lem cid r ≡ true → r ≡ entered (global r.number)
global_row cid r k e =
    let f : (pick (takes_fd cid 1) true (eqb r.fd 0) && (eqb r.offset 0 && eqb r.len 0)) ≡ true = rw k at e in
    let g : (eqb r.fd 0 && (eqb r.offset 0 && eqb r.len 0)) ≡ true
    = ap (λ (t : Bool). pick t true (eqb r.fd 0) && (eqb r.offset 0 && eqb r.len 0)) (sym (no_fd cid)) ∙ f in
    let z = and_right (eqb r.fd 0) (eqb r.offset 0 && eqb r.len 0) g in
    row_is r (entered (global r.number)) k (eqb-true r.fd 0 (and_left (eqb r.fd 0) _ g)) refl
    (eqb-true r.offset 0 (and_left (eqb r.offset 0) (eqb r.len 0) z)) (eqb-true r.len 0 (and_right (eqb r.offset 0) (eqb r.len 0) z))
