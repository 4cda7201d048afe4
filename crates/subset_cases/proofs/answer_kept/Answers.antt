-- `answer_kept` meets its contract: the numbers are read into words of their own.
use Rattle.std.proofs.Common.{length, take, ◌≡◌, ◌≤◌, sym, ◌∙◌}
use Rattle.cases.specs.ReportLaws.{wrote_counts}
use Rattle.subset_cases.specs.SubsetCasesLaws.{kept-short, kept_many, kept-cut, kept-found, kept-room}
use Rattle.subset_cases.proofs.answer_kept.Goals as goal
use Rattle.subset_cases.proofs.answer_kept.Goals.{After-put_pairs-k}

-- the numbers that were written can be lent
written : (c : After-put_pairs-k) → (c.put_pairs-k.result ≤ length c.put_pairs-k.new.keep) × (c.put_pairs-k.result ≡ length (take c.put_pairs-k.result c.put_pairs-k.new.keep))
written c = wrote_counts c.put_pairs-k.ensures (kept-room c.u16_at-count.result c.args.asked.now c.if-count-gt256.false)

pub returns-then-n-lt2 : goal.returns-then-n-lt2
returns-then-n-lt2 c = sym (kept-short _ _ _ _ c.if-n-lt2.true)

pub returns-then-count-gt256 : goal.returns-then-count-gt256
returns-then-count-gt256 c = sym (kept_many _ _ _ _ c.if-n-lt2.false _ c.u16_at-count.ensures.0 c.if-count-gt256.true)

pub returns-then-n-end : goal.returns-then-n-end
returns-then-n-end c = sym (kept-cut _ _ _ _ c.if-n-lt2.false _ c.u16_at-count.ensures.0 c.if-count-gt256.false c.if-n-end.true)

pub slice_bounds-keep-end : goal.slice_bounds-keep-end
slice_bounds-keep-end c = (written (goal.at.slice_bounds-keep-end c).After-put_pairs-k).0

pub slice_bounds-answer_lent-end : goal.slice_bounds-answer_lent-end
slice_bounds-answer_lent-end c = (written (goal.at.slice_bounds-answer_lent-end c).After-put_pairs-k).1

pub returns : goal.returns
returns c = c.answer_lent.ensures ∙ sym (kept-found _ _ _ _ c.if-n-lt2.false _ c.u16_at-count.ensures.0 c.if-count-gt256.false c.if-n-end.false _ _ _ c.put_pairs-k.ensures)
