-- `blocking::culprit_in` meets its contract: the outcome of the whole list says whether there is a search.
use Rattle.std.proofs.Common.{ap, arith, length, subst, sym, true, Err, ◌≡◌, ◌∙◌}
use Rattle.octets.specs.Lists.{all_below}
use Rattle.index.specs.IndexLaws.{items-length}
use Rattle.cff.specs.Loaded.{program}
use Rattle.blocking.specs.Stays.{least_by}
use Rattle.blocking.specs.StaysLaws.{stays-then, over-stays}
use Rattle.blocking.specs.EntryLaws.{answers_refused, stubbed-below, answers_least, answers_none}
use Rattle.blocking.proofs.culprit_in.Goals as goal

pub least_culprit-requires : goal.least_culprit-requires
least_culprit-requires c =
    let s = c.args.search.now in
    subst (λ font. all_below font.loaded.f.charstrings.count c.args.keep.now ≡ true) (sym c.try_list.ensures.1.font)
    (ap (λ n. all_below n c.args.keep.now) (sym (items-length s.font.loaded.bytes.now s.font.loaded.f.charstrings))
    ∙ stubbed-below (program s.font.loaded) s.name.now c.args.keep.now (length s.words.now) (length s.slice.now) _ _ c.try_list.ensures.0 c.in_ok-c.was)

pub returns-then-eq : goal.returns-then-eq
returns-then-eq c =
    let s = c.args.search.now in (
      answers_least (program s.font.loaded) s.name.now c.args.keep.now (length s.words.now) (length s.slice.now) _ _ c.try_list.ensures.0 c.in_ok-c.was (sym c.eq.ensures ∙ c.if-eq.true) _
          (c.least_culprit.ensures.0 ∙ over-stays (least_by c.args.keep.now) s _ c.try_list.ensures.1),
      stays-then c.try_list.ensures.1 c.least_culprit.ensures.1,
    )

pub returns-in_err-c : goal.returns-in_err-c
returns-in_err-c c =
    let s = c.args.search.now in
    let e : c.from_residual.result ≡ Err c.in_err-c.field-0.0 = grind arith in
    (e ∙ answers_refused (program s.font.loaded) s.name.now c.args.keep.now (length s.words.now) (length s.slice.now) _ _ c.try_list.ensures.0 c.in_err-c.was, c.try_list.ensures.1)

pub returns : goal.returns
returns c =
    let s = c.args.search.now in
    (answers_none (program s.font.loaded) s.name.now c.args.keep.now (length s.words.now) (length s.slice.now) _ _ c.try_list.ensures.0 c.in_ok-c.was (sym c.eq.ensures ∙ c.if-eq.false), c.try_list.ensures.1)
