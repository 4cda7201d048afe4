-- `lines::replay` meets its contract.
use Rattle.std.proofs.Common.{ap, arith, length, sym, ◌∙◌, ◌+◌, ◌≡◌}
use Rattle.std.specs.Iterator.Adapters.{enumerate_count, enumerate_source}
use Rattle.cases.specs.Lines.{lines_of}
use Rattle.cases.specs.LinesLeft.{lines_left}
use Rattle.cases.specs.TallyLaws.{replaying_start, replaying_turn, replaying_end, counted-length}
use Rattle.replay.proofs.lines.replay.Goals as goal

pub loop-i-init : goal.loop-i-init
loop-i-init c =
    let s = c.into_iter-i-iterator.ensures.into_iter_gives in
    let e : lines_left (enumerate_source c.into_iter-i-iterator.result) ≡ lines_of c.args.text.now
    = ap (λ x. lines_left (enumerate_source x)) s ∙ ap lines_left c.enumerate-i-items.ensures.source ∙ c.of.ensures in
    let z : enumerate_count c.into_iter-i-iterator.result ≡ 0 = ap enumerate_count s ∙ c.enumerate-i-items.ensures.count in
    (c.requires.0, rw z (replaying_start _ _ _ _ _ e c.requires.1))

pub count_line-requires : goal.count_line-requires
count_line-requires c =
    let l = c.loop-i.invariant in
    let t = c.in-Some.ensures.steps in
    (l.0, λ k. omega (arith, l.1.below k, t.1, t.3))

pub loop-i-preserved : goal.loop-i-preserved
loop-i-preserved c =
    let l = c.loop-i.invariant in
    let t = c.in-Some.ensures.steps in
    let w = c.count_line.ensures in
    let f = rw t.1 at c.first_failed-first.ensures in (
      (let n = ap length w ∙ counted-length _ _ _ _ in omega (arith, n, l.0)),
      rw t.2 (replaying_turn _ _ _ _ l.1 _ _ t.0 l.0 _ c.agrees-agreed.ensures _ w _ f),
    )

pub returns : goal.returns
returns c = replaying_end _ _ _ _ c.loop-i.invariant.1 c.in-None.ensures.steps.0.0
