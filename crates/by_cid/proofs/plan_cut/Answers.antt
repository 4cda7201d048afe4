-- `by_cid::plan_cut` meets its contract: strings, the numbers of the FDs and the bodies, one after the other.
use Rattle.std.proofs.Common.{refl, rules, sym, subst, ◌≡◌, List, ℕ}
use Rattle.order_window.specs.Window.{Gathered}
use Rattle.subset.specs.Flag.{flag_of}
use Rattle.cid_parts.specs.CidPlacesLaws.{table-room}
use Rattle.by_cid.specs.CidKeptLaws.{plan_asked}
use Rattle.outcome.specs.Walked.{gathered-stays}
use Rattle.parts.specs.FlagLaws.{byte_is}
use Rattle.by_cid.specs.Prepares.{all_prepared}
use Rattle.by_cid.proofs.plan_cut.Goals as goal

pub plan_all-plan-requires : goal.plan_all-plan-requires
plan_all-plan-requires c =
    let a = c.args in
    let h = c.requires.0 in
    let k = c.rank_fds-count.ensures in
    let s = k.2.same in
    let w : c.window-1.given.0 ≡ c.rank_fds-count.new.kept.window.now = search (rules, s) in
    let g = subst (λ (l : List ℕ). Gathered a.font.now a.words.now l c.rank_fds-count.new.kept.o) (sym w) (gathered-stays _ _ k.2) in (
      plan_asked a.font.now a.o h.read a.words.now _ _ (table-room _ refl) k.0 c.rank_fds-count.new.kept.o k.2.f _ g h.room,
      search rules,
      search rules,
    )

pub returns : goal.returns
returns c =
    let a = c.args in
    let k = c.rank_fds-count.ensures in
    let p = c.plan_all-plan.ensures in
    all_prepared a.font.now a.asked.now.rows.now (flag_of a.asked.now.traced) a.o a.words.now _ c.requires.0 _ _ c.prepare_cid-own.ensures.0 c.prepare_cid-own.ensures.1 _ (table-room _ refl) _ k.0 _ k.1
    c.rank_fds-count.new.kept.o k.2.f k.2.count _ _ p.3 p.4 p.5 _ p.0 p.1 p.2 (rw (byte_is _ _ c.from.ensures) at p.6)
