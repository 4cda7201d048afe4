-- `plan::rank_all` meets its contract: the bits of the globals stand behind those of the glyphs, those of the locals behind them.
use Rattle.std.proofs.Common.{Bool, ap, arith, false, sym, ◌∙◌, ◌≡◌}
use Rattle.octets.specs.Pick.{pick}
use Rattle.record.specs.Record.{rows_of}
use Rattle.bits.specs.Bits.{words_for}
use Rattle.index.specs.IndexLaws.{items-length}
use Rattle.cff.specs.Loaded.{program}
use Rattle.fds.specs.LocalsLaws.{ranks_by}
use Rattle.plan.specs.Ranked.{RanksAll}
use Rattle.plan.specs.RankedLaws.{locals-room, answer, ranks-all}
use Rattle.plan.proofs.rank_all.Goals as goal
use Rattle.plan.proofs.rank_all.Goals.{After-rank_locals-rest}

pub rank_locals-rest-requires : goal.rank_locals-rest-requires
rank_locals-rest-requires c =
    let g = c.args.fds.now.font.good in (
      omega (arith, g.glyphs.held.few, g.begun.globals-held.few, c.words_for.ensures.1),
      locals-room (rows_of c.args.rows.now) _ _ _ _ _ _ c.words_for.ensures.0 (omega (arith, c.requires.0, c.words_for-at.ensures.0)) c.rank_reached-r.ensures.0,
      c.requires.1,
    )

-- all are ranked, and whether each number is that of a subroutine is what both ranks tell
ranked : (x : After-rank_locals-rest) → (both : Bool) → both ≡ pick x.rank_reached-r.result.all x.rank_locals-rest.result false
    → RanksAll (program x.args.fds.now.font) (rows_of x.args.rows.now) x.args.fds.now.used.now x.args.words.now x.rank_locals-rest.new.words x.rank_locals-rest.new.table
    (answer (ranks_by x.words_for-at.result x.args.fds.now.font.f.globals.count x.rank_reached-r.result) both)
ranked x both e =
    let font = x.args.fds.now.font in
    let b = font.bytes.now in
    let f = font.f in
    ranks-all (program font) (rows_of x.args.rows.now) x.args.fds.now.used.now _ _ _ _ x.words_for-at.result f.globals.count _
    (x.words_for-at.ensures.0 ∙ ap words_for (sym (items-length b f.charstrings))) (sym (items-length b f.globals)) x.words_for.ensures.0 (omega (arith, x.requires.0, x.words_for-at.ensures.0)) _ x.rank_reached-r.ensures.0 x.rank_reached-r.ensures.1
    _ _ x.rank_locals-rest.ensures e

pub returns-then-r : goal.returns-then-r
returns-then-r c =
    ranked (goal.at.returns-then-r c).After-rank_locals-rest _ (sym (ap (λ (t : Bool). pick t c.rank_locals-rest.result false) c.if-r.true))

pub returns-else-r : goal.returns-else-r
returns-else-r c =
    ranked (goal.at.returns-else-r c).After-rank_locals-rest _ (c.if-r.false ∙ sym (ap (λ (t : Bool). pick t c.rank_locals-rest.result false) c.if-r.false))
