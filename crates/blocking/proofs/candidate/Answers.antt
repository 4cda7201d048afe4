-- `blocking::candidate` meets its contract: with flag 1 the record is that of the rows that the kept glyphs meet.
use Rattle.std.proofs.Common.{[], rules, length, length-take-le, sym, refl, arith, subst, take, true, ◌≡◌, ◌≤◌}
use Rattle.octets.specs.Lists.{all_below}
use Rattle.cff.specs.Loaded.{program}
use Rattle.cff.specs.declared.loaded.Loaded.{Loaded}
use Rattle.small.specs.Small.{small_size}
use Rattle.small.specs.Theorem.{small-less}
use Rattle.failing.specs.Failing.{Recorded, Only}
use Rattle.failing.specs.FailingLaws.{each_may}
use Rattle.blocking.specs.CutLaws.{traced_handed, handed_recorded}
use Rattle.blocking.proofs.candidate.Goals as goal

pub slice_bounds-only_culprit-end : goal.slice_bounds-only_culprit-end
slice_bounds-only_culprit-end c =
    let s = c.args.search.now in
    sym (length-take-le _ _ (traced_handed s.font.file.now _ _ s.font.octets s.font.in_file [] c.args.keep.now s.slice.now _ _ c.trace_font.ensures _ c.in-Ok.is).short)

pub invariant_of-list : goal.invariant_of-list
invariant_of-list c =
    record { below = subst (λ (font : Loaded). all_below font.f.charstrings.count c.args.keep.now ≡ true) (sym c.of-font.ensures.1) c.requires }

pub only_culprit-requires : goal.only_culprit-requires
only_culprit-requires c =
    let s = c.args.search.now in
    subst (λ (font : Loaded). (small_size (program font) ≤ length s.words.now) × Recorded (program font) c.args.keep.now (take c.in-Ok.r.len c.trace_font.new.out)) (sym c.of-font.ensures.1)
    (omega (arith, small-less (program s.font.loaded), s.can.room), handed_recorded s.font.file.now _ _ s.font.octets s.font.in_file [] c.args.keep.now s.slice.now _ _ c.trace_font.ensures _ c.in-Ok.is c.if-r-eq1.true)

pub returns-in-Err : goal.returns-in-Err
returns-in-Err c =
    let s = c.args.search.now in
    (each_may (program s.font.loaded) c.args.keep.now, record { font = refl; name = refl; words = refl; words_long = refl; slice = refl; slice_long = c.trace_font.auto.out })

pub returns-then-r-eq1 : goal.returns-then-r-eq1
returns-then-r-eq1 c = (
  subst (λ (font : Loaded). Only (program font) c.args.keep.now c.only_culprit.result) c.of-font.ensures.1 c.only_culprit.ensures,
  record { font = refl; name = refl; words = refl; words_long = c.only_culprit.auto.words; slice = refl; slice_long = search rules },
)

pub returns-else-r-eq1 : goal.returns-else-r-eq1
returns-else-r-eq1 c =
    let s = c.args.search.now in
    (each_may (program s.font.loaded) c.args.keep.now, record { font = refl; name = refl; words = refl; words_long = refl; slice = refl; slice_long = c.trace_font.auto.out })
