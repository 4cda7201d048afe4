-- `index::table_at` meets its contract: at each return the tests that led there say which case of `table_at` holds.
use Rattle.std.proofs.Common.{ap, arith, le-ltb, lt-ltb, sym, ◌*◌, ◌+◌, ◌-◌, ◌∙◌, ◌≡◌, Err}
use Rattle.index.specs.Index.{judged, data_at, table_at}
use Rattle.index.specs.IndexLaws.{last_within, table-judged, first-bad, first_fine}
use Rattle.index.proofs.table_at.Goals as goal
use Rattle.index.proofs.table_at.Goals.{After-judge}

-- past the tests the run decides
full : (c : After-judge)
    → (let a = c.args in
    let base = a.table + (a.count + 1) * a.size - 1 in
    table_at a.font.now a.table a.count a.size ≡ judged a.count a.size a.table base c.judge.result)
full c =
    table-judged c.args.font.now c.args.table c.args.count c.args.size _ _ c.if-size-lt1.false
    c.if-size-gt4.false c.if-n-past.false c.num_at-first.ensures.0 (first_fine _ c.if-first-ne1.false) c.judge.ensures

pub returns-then-size-lt1 : goal.returns-then-size-lt1
unfolding table_at
returns-then-size-lt1 c = simp (lt-ltb _ _ c.if-size-lt1.true)

pub returns-then-size-gt4 : goal.returns-then-size-gt4
unfolding table_at
returns-then-size-gt4 c = simp (le-ltb _ _ c.if-size-lt1.false, lt-ltb _ _ c.if-size-gt4.true)

pub returns-then-n-past : goal.returns-then-n-past
unfolding table_at data_at
returns-then-n-past c = simp (le-ltb _ _ c.if-size-lt1.false, le-ltb _ _ c.if-size-gt4.false, lt-ltb _ _ c.if-n-past.true)

pub returns-then-first-ne1 : goal.returns-then-first-ne1
unfolding table_at data_at
returns-then-first-ne1 c =
    simp (
      le-ltb _ _ c.if-size-lt1.false,
      le-ltb _ _ c.if-size-gt4.false,
      le-ltb _ _ c.if-n-past.false,
      first-bad _ (λ e. c.if-first-ne1.true (c.num_at-first.ensures.0 ∙ e)),
    )

pub overflow_add-result : goal.overflow_add-result
overflow_add-result c =
    omega (arith, last_within _ _ c.args.count c.args.size _ _ c.requires.0 (sym c.judge.ensures ∙ c.in_ok-last.was))

pub returns-in_err-last : goal.returns-in_err-last
unfolding judged
returns-in_err-last c =
    let e : c.from_residual.result ≡ Err c.in_err-last.field-0.0 = grind arith in
    e ∙ sym (full (goal.at.returns-in_err-last c).After-judge ∙ ap (judged _ _ _ _) c.in_err-last.was)

pub returns : goal.returns
unfolding judged
returns c = sym (full (goal.at.returns c).After-judge ∙ ap (judged _ _ _ _) c.in_ok-last.was)
