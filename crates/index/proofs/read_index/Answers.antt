-- `index::read_index` meets its contract: at each return the tests that led there say which case of `index_at` holds.
use Rattle.std.proofs.Common.{arith, eq-eqb, le-ltb, length, lt-ltb, ne_eqb, sym, ◌+◌, ◌∙◌}
use Rattle.octets.specs.Octets.{num_at}
use Rattle.index.specs.Index.{index_at}
use Rattle.index.specs.IndexLaws.{index-table}
use Rattle.index.proofs.read_index.Goals as goal

pub returns-then-n-lt2 : goal.returns-then-n-lt2
unfolding index_at
returns-then-n-lt2 c =
    let a = c.args in
    simp (lt-ltb (length a.font.now) (a.at + 2) (omega arith))

pub returns-then-n-at : goal.returns-then-n-at
unfolding index_at
returns-then-n-at c =
    let a = c.args in
    simp (lt-ltb (length a.font.now) (a.at + 2) (omega arith))

pub returns-then-count-eq0 : goal.returns-then-count-eq0
unfolding index_at
returns-then-count-eq0 c =
    let a = c.args in
    simp (
      le-ltb (length a.font.now) (a.at + 2) (omega arith),
      eq-eqb (num_at a.font.now a.at 2) 0 (sym c.u16_at-count.ensures.0 ∙ c.if-count-eq0.true),
      c.empty_at.ensures,
    )

pub returns-then-n-at-2 : goal.returns-then-n-at-2
unfolding index_at
returns-then-n-at-2 c =
    let a = c.args in
    simp (
      le-ltb (length a.font.now) (a.at + 2) (omega arith),
      ne_eqb (num_at a.font.now a.at 2) 0 (λ e. c.if-count-eq0.false (c.u16_at-count.ensures.0 ∙ e)),
      lt-ltb (length a.font.now) (a.at + 3) (omega arith),
    )

pub returns : goal.returns
returns c =
    let a = c.args in
    c.table_at.ensures
    ∙ index-table a.font.now a.at _ _ (omega arith) c.u16_at-count.ensures.0 c.if-count-eq0.false c.u8_at-size.ensures.0
