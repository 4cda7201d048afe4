-- `found::names_met` meets its contract.
use Rattle.std.proofs.Common.{List, arith, get_or, get_or-take, length, length-take-le, sym, take, ℕ, ◌<◌, ◌∙◌, ◌≡◌}
use Rattle.bits.specs.Bits.{bit_in}
use Rattle.index.specs.Items.{items}
use Rattle.charset.specs.Ids.{ids}
use Rattle.charset.specs.AheadLaws.{passed-start, passed_all, passed_inside, passed_id, passed-next}
use Rattle.charset.specs.CharsetFound.{good_length}
use Rattle.kept.specs.Packed.{name_found}
use Rattle.first_glyphs.specs.FoundLaws.{all_start, all_stops, all-passed, seen_none, seen_next}
use Rattle.first_glyphs.specs.FirstLaws.{seen_not_named}
use Rattle.found.specs.HashLaws.{hash-by, met-none, new-found, met_next, met-again}
use Rattle.found.specs.FlagsLaws.{all-next, all-fails, all_ended}
use Rattle.found.proofs.names_met.Goals as goal
use Rattle.found.proofs.names_met.Goals.{In-Some, then-see+else-flag, else-see+else-looks-eq0+else-not-flagged_found}

many : (t : In-Some) → length (ids t.args.flagged.now.glyphs) ≡ t.args.flagged.now.glyphs.n
many t = good_length _ _ _ t.args.flagged.now.glyphs.good

below : (t : In-Some) → (t.loop-g.g < t.flags_end-end.result) × (t.loop-g.g < t.args.flagged.now.glyphs.n)
below t =
    let e = t.flags_end-end.ensures.0 in
    let i = passed_inside _ _ _ t.loop-g.invariant.0 _ _ t.in-Some.ensures.steps in
    let l = length-take-le t.flags_end-end.result (ids t.args.flagged.now.glyphs) (omega (arith, e, many t)) in
    (omega (arith, i, l), omega (arith, i, l, e))

inside : (t : In-Some) → t.loop-g.g < length (ids t.args.flagged.now.glyphs)
inside t = omega (arith, many t, (below t).1)

is : (t : In-Some) → t.in-Some.sid ≡ get_or (ids t.args.flagged.now.glyphs) t.loop-g.g 0
is t = passed_id _ _ _ t.loop-g.invariant.0 _ _ t.in-Some.ensures.steps ∙ get_or-take t.flags_end-end.result (ids t.args.flagged.now.glyphs) t.loop-g.g 0 (below t).0

pub loop-g-init : goal.loop-g-init
loop-g-init c =
    (passed-start _ _ (c.iter-sid-items.ensures.all ∙ c.first.ensures), met-none _ _ _, seen_none _ _ c.requires.1.none, omega arith, all_start _ _ _)

pub see-requires : goal.see-requires
see-requires c =
    let l = c.loop-g in
    let p = passed_id _ _ _ l.invariant.0 _ _ c.in-Some.ensures.steps in
    omega (arith, p, rw c.first.ensures at c.iter-sid-items.ensures.small l.g, l.auto.seen, c.requires.1.size)

pub returns-then-flag : goal.returns-then-flag
returns-then-flag c =
    let l = c.loop-g in
    let t = (goal.at.returns-then-flag c).In-Some in
    all_stops (name_found (items c.args.strings.now) (ids c.args.flagged.now.glyphs))
    (bit_in c.args.flagged.now.flags.now 0) c.args.flagged.now.glyphs.n l.g (below t).1 (sym c.has_bit-flag.ensures ∙ c.if-flag.true)
    (seen_not_named _ _ l.g _ l.invariant.2 _ (is t) (inside t) (sym c.see.ensures.was ∙ c.if-see.true)) ∙ l.invariant.4

pub flagged_found-requires : goal.flagged_found-requires
flagged_found-requires c =
    let l = c.loop-g in
    let t = (goal.at.flagged_found-requires c).In-Some in (
      (below t).1,
      λ e. new-found _ _ l.g _ l.invariant.1 _ (hash-by _ (ids c.args.flagged.now.glyphs) l.g c.in-Some.sid _ _ (is t) c.text_at-name.ensures c.hash_of.ensures.0) (inside t) (sym c.meet-new.ensures.is ∙ e),
    )

pub loop-g-preserved : goal.loop-g-preserved
loop-g-preserved c =
    let l = c.loop-g in
    let t = (goal.at.loop-g-preserved c).In-Some in
    let passed = passed-next _ _ _ l.invariant.0 _ _ c.in-Some.ensures.steps in
    let seen-then = seen_next _ l.g _ l.invariant.2 _ (is t) _ c.see.ensures.bits in
    elim c.if-see.branch [
      | then-see+else-flag w ↦ rw (w.marks-is, w.looks-is) (
        passed,
        met-again _ _ l.g _ l.invariant.1 _ l.invariant.2 _ (is t) (sym c.see.ensures.was ∙ w.if-see.true),
        seen-then,
        l.invariant.3,
        all-passed (name_found (items c.args.strings.now) (ids c.args.flagged.now.glyphs)) (bit_in c.args.flagged.now.flags.now 0) c.args.flagged.now.glyphs.n l.g (below t).1 (sym c.has_bit-flag.ensures ∙ w.if-flag.false) ∙ l.invariant.4,
      )
      | else-see+else-looks-eq0+else-not-flagged_found w ↦ rw (w.marks-is, w.looks-is) (
        passed,
        met_next _ _ l.g _ l.invariant.1 _ (hash-by _ (ids c.args.flagged.now.glyphs) l.g c.in-Some.sid _ _ (is t) w.text_at-name.ensures w.hash_of.ensures.0) _ w.meet-new.ensures.bits,
        seen-then,
        omega (arith, w.if-looks-eq0.false),
        all-next (name_found (items c.args.strings.now) (ids c.args.flagged.now.glyphs)) (bit_in c.args.flagged.now.flags.now 0) c.args.flagged.now.glyphs.n l.g (below t).1 _ c.has_bit-flag.ensures
            (sym w.flagged_found.ensures ∙ w.if-not-flagged_found.false) ∙ l.invariant.4,
      )
    ]

pub returns-then-not-flagged_found : goal.returns-then-not-flagged_found
returns-then-not-flagged_found c =
    let t = (goal.at.returns-then-not-flagged_found c).In-Some in
    all-fails (name_found (items c.args.strings.now) (ids c.args.flagged.now.glyphs)) (bit_in c.args.flagged.now.flags.now 0) c.args.flagged.now.glyphs.n c.loop-g.g (below t).1 _ c.has_bit-flag.ensures
    (sym c.flagged_found.ensures ∙ c.if-not-flagged_found.true) ∙ c.loop-g.invariant.4

pub returns : goal.returns
returns c =
    let e = c.flags_end-end.ensures in
    let l = length-take-le c.flags_end-end.result (ids c.args.flagged.now.glyphs) (omega (arith, e.0, good_length _ _ _ c.args.flagged.now.glyphs.good)) in
    all_ended _ c.args.flagged.now.flags.now _ _ _ (omega (arith, l, passed_all _ _ _ c.loop-g.invariant.0 c.in-None.ensures.steps.0)) e.1 ∙ c.loop-g.invariant.4
