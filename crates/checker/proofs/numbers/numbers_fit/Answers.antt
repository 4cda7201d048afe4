-- `numbers::numbers_fit` meets its contract: what `all` says of the numbers of the rows, `each_row` says of the rows.
use Rattle.std.proofs.Common.{Bool, List, ap, arith, false, length, refl, rules, true, zero, suc, ℕ, ◌&&◌, ◌+◌, ◌-◌, ◌/◌, ◌∙◌, ◌≡◌}
use Rattle.std.proofs.lemmas.Iterator.{YieldsList-from_range}
use Rattle.std.proofs.lemmas.Iterator.Search.{all_from_yields_List}
use Rattle.std.specs.List.{list_all, range_with_len}
use borrow.Author.Tests.{tests}
use Rattle.unfold.specs.Unfold.{Row}
use Rattle.reach.specs.Reach.{rest_of, row_no}
use Rattle.reach.specs.RowLaws.{rest_all}
use Rattle.accepted.specs.Accepted.{each_row}
use Rattle.checker.specs.Checking.{number_fits}
use Rattle.checker.specs.NumberLaws.{rows_stop, rows_go_on, rows_done}
use Rattle.checker.proofs.numbers.numbers_fit.Goals as goal

told : (test : Row → Bool) (b : List ℕ) (m i : ℕ) → i + m ≡ length b / 10 → list_all (λ k. test (row_no b k)) (range_with_len i m) ≡ each_row test (rest_of b i)
told test b zero i e = rows_done test b i (omega arith)
told test b (suc m) i e = by (told test b m (i + 1) (omega arith)) (test (row_no b i)) refl
  where
    others : Bool
    others = list_all (λ k. test (row_no b k)) (range_with_len (i + 1) m)

    by : others ≡ each_row test (rest_of b (i + 1)) → (t : Bool) → test (row_no b i) ≡ t → (test (row_no b i) && others) ≡ each_row test (rest_of b i)
    by h true q = ap (λ x. x && others) q ∙ h ∙ rows_go_on test b i (omega arith) q
    by h false q = ap (λ x. x && others) q ∙ rows_stop test b i (omega arith) q

pub returns : goal.returns
returns c =
    let b = c.args.rows.now in
    let n = length b / 10 in
    let test = number_fits c.args.globals c.args.limits.now in
    all_from_yields_List (λ i. test (row_no b i)) _ _ c.all.result c.all.ensures.ran (YieldsList-from_range 0 n (n - 0) refl refl) (λ i r q k. search (rules, tests))
    ∙ told test b (n - 0) 0 (omega arith)
    ∙ ap (each_row test) (rest_all b)
