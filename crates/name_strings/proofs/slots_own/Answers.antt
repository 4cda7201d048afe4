-- `slots_own` meets its contract: a slot adds a string exactly where its id is the next.
use Rattle.std.proofs.Common.{arith, ap, sym, ℕ, ◌∙◌}
use Rattle.index.specs.Items.{items}
use Rattle.own_strings.specs.Slots.{counted}
use Rattle.own_strings.specs.IdsLaws.{given-long, sid_first, id_first}
use Rattle.name_strings.specs.SlotCountLaws.{counting-start, counting_asks, counting-none, counting-next}
use Rattle.own_strings.specs.Ready.{HasStrings}
use Rattle.name_strings.proofs.slots_own.Goals as goal
use Rattle.name_strings.proofs.slots_own.Goals.{Start, in-None, in-Some}

has : (s : Start) → (let x = s.args.slots.now.strings in HasStrings x.bytes.now x.ix)
has s = record { good = s.args.slots.now.strings.good; small = s.requires }

pub loop-j-init : goal.loop-j-init
loop-j-init c = counting-start _ _ (has (goal.at.loop-j-init c).Start) _ c.args.slots.now.given

pub bounds-slots-j : goal.bounds-slots-j
bounds-slots-j c = omega (arith, c.loop-j-test.true, given-long _ c.args.slots.now.slots.now c.args.slots.now.given)

pub count_one-own-requires : goal.count_one-own-requires
count_one-own-requires c =
    counting_asks _ _ (has (goal.at.count_one-own-requires c).Start) _ c.args.slots.now.given _ _ c.loop-j.invariant

pub loop-j-preserved : goal.loop-j-preserved
loop-j-preserved c =
    let h = has (goal.at.loop-j-preserved c).Start in
    let g = c.args.slots.now.given in
    elim c.match-slot.branch [
      | in-None w ↦ rw w.own-is (counting-none _ _ h _ g _ _ c.loop-j.invariant c.loop-j-test.true (sid_first _ _ c.loop-j-test.true _ w.in-None.is))
      | in-Some w ↦ rw w.own-is (counting-next _ _ h _ g _ _ c.loop-j.invariant c.loop-j-test.true _ (sid_first _ _ c.loop-j-test.true _ w.in-Some.is) _
          (w.count_one-own.ensures ∙ ap (λ (n : ℕ). counted (items c.args.slots.now.strings) c.loop-j.own w.in-Some.sid n) (sym (id_first c.args.slots.now.slots.now c.loop-j.j c.loop-j-test.true))))
    ]
