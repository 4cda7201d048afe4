-- `blocking::least_culprit` meets its contract: each kept glyph stands at its own place, and a 0 there leaves it out; no other than the candidate need be tried.
use Rattle.std.proofs.Common.{ℕ, ap, length, length-take-le, refl, replicate, sym, Some, None, Bool, ◌-◌, ◌∙◌}
use Rattle.octets.specs.Pick.{pick}
use Rattle.subset.specs.Kept.{those}
use Rattle.culprit.specs.Culprit.{first_of}
use Rattle.blocking.specs.Stays.{frees_by}
use Rattle.blocking.specs.StaysLaws.{stays-then, over-stays}
use Rattle.blocking.specs.SearchLaws.{places_there, spread-asked, spread-few, alone-inside, alone-found, least-found}
use Rattle.blocking.proofs.least_culprit.Goals as goal

pub slice_bounds-all-end : goal.slice_bounds-all-end
slice_bounds-all-end c = places_there c.args.search.now.font c.args.keep.now c.requires (replicate 65536 0) refl

pub slice_bounds-list-end : goal.slice_bounds-list-end
slice_bounds-list-end c = sym (length-take-le _ _ (places_there c.args.search.now.font c.args.keep.now c.requires (replicate 65536 0) refl))

pub spread-requires : goal.spread-requires
spread-requires c = spread-asked c.args.search.now.font c.args.keep.now c.requires (replicate 65536 0) refl

pub one_freed-requires : goal.one_freed-requires
one_freed-requires c =
    alone-inside c.args.search.now.font c.args.keep.now c.requires _ refl _ c.spread.ensures _ c.candidate-only.ensures.0 _ c.in-Some.is

pub returns-in-Some : goal.returns-in-Some
returns-in-Some c =
    let s = c.args.search.now in (
      alone-found s.font c.args.keep.now c.requires _ refl _ c.spread.ensures _ c.candidate-only.ensures.0 _ c.in-Some.is s.name.now (length s.words.now) (length s.slice.now) _
          (c.one_freed.ensures.0 ∙ ap (λ (test : ℕ → Bool). pick (test c.in-Some.g) (Some c.in-Some.g) None) (over-stays (frees_by c.spread.new.list) s _ c.candidate-only.ensures.1)),
      stays-then c.candidate-only.ensures.1 c.one_freed.ensures.1,
    )

pub first_freed-requires : goal.first_freed-requires
first_freed-requires c = spread-few c.args.search.now.font c.args.keep.now c.requires _ refl _ c.spread.ensures

pub returns-in-None : goal.returns-in-None
returns-in-None c =
    let s = c.args.search.now in (
      least-found s.font c.args.keep.now c.requires _ refl _ c.spread.ensures s.name.now (length s.words.now) (length s.slice.now) _
          (c.first_freed.ensures.0 ∙ ap (λ (test : ℕ → Bool). first_of (those test (length c.spread.new.list - 1) 1)) (over-stays (frees_by c.spread.new.list) s _ c.candidate-only.ensures.1)),
      stays-then c.candidate-only.ensures.1 c.first_freed.ensures.1,
    )
