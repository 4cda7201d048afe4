-- `own_strings::put_slot_ids` meets its contract: each slot is given the id that its text has among the own strings in the end.
use Rattle.std.proofs.Common.{arith, length, refl, sym, ◌≤◌}
use Rattle.own_strings.specs.IdsLaws.{ids-start, ids_end, ids-bound, ids-none, ids-turn}
use Rattle.own_strings.specs.Ready.{HasStrings}
use Rattle.index.specs.declared.items.Items.{Items}
use Rattle.own_strings.proofs.put_slot_ids.Goals as goal
use Rattle.own_strings.proofs.put_slot_ids.Goals.{in-Some, in_default}

has : (s : Items) → length s.bytes.now ≤ 67108864 → HasStrings s.bytes.now s.ix
has s n = record { good = s.good; small = n }

pub loop-j-init : goal.loop-j-init
loop-j-init c = let s = c.args.strings.now in ids-start _ _ (has s c.requires.0) _ c.requires.1

pub given_id-id-requires : goal.given_id-id-requires
given_id-id-requires c = omega (arith, (ids-bound _ _ (has c.args.strings.now c.requires.0) _ c.requires.1 _ _ _ c.loop-j.invariant).0)

pub count_one-own-requires : goal.count_one-own-requires
count_one-own-requires c =
    let q = ids-bound _ _ (has c.args.strings.now c.requires.0) _ c.requires.1 _ _ _ c.loop-j.invariant in
    (omega (arith, q.0), omega (arith, q.1))

pub loop-j-preserved : goal.loop-j-preserved
loop-j-preserved c =
    let s = has c.args.strings.now c.requires.0 in
    let n = c.requires.1 in
    elim c.match-sid.branch [
      | in-Some w ↦ rw (w.sid-is, w.own-is, sym w.in-Some.is) (ids-turn _ _ s _ n _ _ _ c.loop-j.invariant c.loop-j-test.true _ refl _ refl _ c.given_id-id.ensures _ w.in-Some.is _ w.count_one-own.ensures)
      | in_default w ↦ rw (w.sid-is, w.own-is) (ids-none _ _ s _ n _ _ _ c.loop-j.invariant c.loop-j-test.true _ refl _ refl _ c.given_id-id.ensures w.in_default.is)
    ]

pub returns : goal.returns
returns c = ids_end _ _ (has c.args.strings.now c.requires.0) _ c.requires.1 _ _ _ c.loop-j.invariant c.loop-j-test.false
