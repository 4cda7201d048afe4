-- `named_parts::places_named` meets its contract: each part is measured, and stands behind those before it.
use Rattle.std.proofs.Common.{arith, refl}
use Rattle.outcome.specs.BothLaws.{parts-measured, globals-measured, glyphs-measured}
use Rattle.named_parts.specs.NamedPutLaws.{places_are}
use Rattle.named_parts.proofs.places_named.Goals as goal

pub invariant_of-font : goal.invariant_of-font
invariant_of-font c = record { good = c.requires.plan.ready.read.font }

pub invariant_of-fds : goal.invariant_of-fds
invariant_of-fds c = record { held = c.requires.plan.ready.asked.tables }

pub part_sizes-privates-requires : goal.part_sizes-privates-requires
part_sizes-privates-requires c =
    let g = c.requires.plan in
    let m = parts-measured _ _ _ _ _ _ g.ready _ g.summed in
    (m.0, m.1, omega arith)

pub globals_len-requires : goal.globals_len-requires
globals_len-requires c = globals-measured _ _ _ _ _ _ c.requires.plan.ready

pub glyphs_len-requires : goal.glyphs_len-requires
glyphs_len-requires c =
    let g = c.requires.plan in
    glyphs-measured _ _ _ _ _ _ g.ready

pub returns : goal.returns
returns c =
    let h = c.requires in
    places_are _ _ _ _ _ _ _ h.plan c.args.parts.now.name.now _ _ h.strings _ _ h.codes _ _ _ _ _ _ c.encoding_at-v.ensures c.front_len-front.ensures.0
    c.globals_len.ensures.0 c.encoding_len.ensures.0 c.encoding_at.ensures c.glyphs_len.ensures.0 c.part_sizes-privates.ensures _ refl
