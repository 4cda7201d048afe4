-- `by_name::plan_cut` meets its contract: the strings are prepared, then the encoding, and where names and pairs are few the bodies are planned.
use Rattle.std.proofs.Common.{arith, rules, sym, subst, length-set, ◌≡◌, List, ℕ}
use Rattle.std.specs.Prelude.{Option}
use Rattle.subset.specs.Flag.{flag_of}
use Rattle.named_parts.specs.Named.{first_fd}
use Rattle.order_window.specs.Stays.{stays-then}
use Rattle.order_window.specs.Window.{Gathered}
use Rattle.by_name.specs.NamedKeptLaws.{named_refused, names-rename, pairs_refused}
use Rattle.by_name.specs.NamedPlanLaws.{first-only}
use Rattle.outcome.specs.Walked.{gathered-stays}
use Rattle.parts.specs.FlagLaws.{byte_is}
use Rattle.by_name.specs.PrepareLaws.{rename-stays, codes-stay, plan-asked, all_prepared}
use Rattle.by_name.proofs.plan_cut.Goals as goal

pub returns-then-own-gt64609 : goal.returns-then-own-gt64609
returns-then-own-gt64609 c =
    let e = c.prepare_named-own.ensures in
    (named_refused c.args.ask _ c.args.asked.now.rows.now (flag_of c.args.asked.now.traced) _ _ _ c.requires.0 _ _ e.0 e.1 c.if-own-gt64609.true, λ l. l)

pub encode-encoding-requires : goal.encode-encoding-requires
encode-encoding-requires c =
    let e = c.prepare_named-own.ensures in
    (rename-stays _ _ e.2 _ (names-rename c.args.ask _ c.args.asked.now.rows.now (flag_of c.args.asked.now.traced) _ _ _ c.requires.0 _ _ e.0 e.1), omega (arith, c.requires.2, length-set {A = Option ℕ}))

pub returns-then-pairs-gt255 : goal.returns-then-pairs-gt255
returns-then-pairs-gt255 c =
    let e = c.prepare_named-own.ensures in (
      pairs_refused c.args.ask _ c.args.asked.now.rows.now (flag_of c.args.asked.now.traced) _ _ _ c.requires.0 _ _ e.0 e.1 c.if-own-gt64609.false _ _
          (codes-stay _ _ e.2 c.args.ask _ _ c.encode-encoding.ensures.0) (omega (arith, c.pairs.ensures, c.if-pairs-gt255.true)),
      c.encode-encoding.ensures.2,
    )

pub plan_all-plan-requires : goal.plan_all-plan-requires
plan_all-plan-requires c =
    let s = stays-then _ _ _ c.prepare_named-own.ensures.2 c.encode-encoding.ensures.1 in
    let w : c.window-2-1.given.0 ≡ c.encode-encoding.new.kept.window.now = search (rules, s.same) in
    let g = subst (λ (l : List ℕ). Gathered c.args.font.now c.args.words.now l c.encode-encoding.new.kept.o) (sym w) (gathered-stays _ _ s) in (
      plan-asked c.args.ask _ c.args.asked.now.rows.now (flag_of c.args.asked.now.traced) _ _ _ c.requires.0 _ _ s.f g first_fd first-only (omega arith),
      search rules,
      search rules,
    )

pub returns : goal.returns
returns c =
    let e = c.prepare_named-own.ensures in
    let s = stays-then _ _ _ e.2 c.encode-encoding.ensures.1 in
    let w : c.window-2-1.given.0 ≡ c.encode-encoding.new.kept.window.now = search (rules, s.same) in
    let g = subst (λ (l : List ℕ). Gathered c.args.font.now c.args.words.now l c.encode-encoding.new.kept.o) (sym w) (gathered-stays _ _ s) in
    let p = c.plan_all-plan.ensures in (
      all_prepared c.args.ask _ c.args.asked.now.rows.now (flag_of c.args.asked.now.traced) _ _ _ c.requires.0 _ _ s.f g _ _ e.0 e.1 c.if-own-gt64609.false _ _
          (codes-stay _ _ e.2 c.args.ask _ _ c.encode-encoding.ensures.0) (omega (arith, c.pairs.ensures, c.if-pairs-gt255.false)) _
          first-only _ _ p.3 p.4 p.5 _ p.0 p.1 p.2 (rw (byte_is _ _ c.from.ensures) at p.6),
      c.encode-encoding.ensures.2,
    )
