-- `blocking::try_list` meets its contract: a trace that is refused refuses the cut, and else the record stands in the front of the slice.
use Rattle.std.proofs.Common.{ap, arith, refl, rules, false, length, length-take-le, subst, sym, take, Err, eqb, ◌≡◌, ◌∙◌}
use Rattle.cff.specs.Loaded.{program}
use Rattle.cff.specs.declared.loaded.Loaded.{Loaded}
use Rattle.subset.specs.Flag.{flag_of}
use Rattle.outcome.specs.Entry.{answer_of, cut_behind, Passed}
use Rattle.blocking.specs.CutLaws.{tried_refused, tried_handed, measure_asked, measured}
use Rattle.blocking.proofs.try_list.Goals as goal

pub slice_bounds-rows-end : goal.slice_bounds-rows-end
slice_bounds-rows-end c =
    let s = c.args.search.now in
    sym (length-take-le _ _ (tried_handed s.font.file.now _ _ s.font.octets s.font.in_file s.name.now c.args.keep.now (length s.words.now) s.slice.now _ s.can _ c.trace_font.ensures _ c.in_ok-r.was).short)

pub measure-requires : goal.measure-requires
measure-requires c =
    let s = c.args.search.now in
    let h = tried_handed s.font.file.now _ _ s.font.octets s.font.in_file s.name.now c.args.keep.now (length s.words.now) s.slice.now _ s.can _ c.trace_font.ensures _ c.in_ok-r.was in
    subst (λ (font : Loaded). Passed s.font.loaded.f.cid false (program font) (length s.name.now) c.args.keep.now (take c.in_ok-r.r.len c.trace_font.new.out) (flag_of (eqb c.in_ok-r.r.flag 1)) (length s.words.now)) (sym c.of-held.ensures.1)
    (measure_asked s.font.file.now _ _ s.font.octets s.font.in_file s.name.now c.args.keep.now (length s.words.now) (length s.slice.now) _ _ s.can h.is)

pub returns-in_err-r : goal.returns-in_err-r
returns-in_err-r c =
    let s = c.args.search.now in
    let e : c.from_residual.result ≡ Err c.in_err-r.field-0.0 = grind arith in (
      e ∙ tried_refused s.font.file.now _ _ s.font.octets s.font.in_file s.name.now c.args.keep.now (length s.words.now) s.slice.now _ s.can _ c.trace_font.ensures _ c.in_err-r.was,
      record { font = refl; name = refl; words = refl; words_long = refl; slice = refl; slice_long = c.trace_font.auto.out },
    )

pub returns : goal.returns
returns c =
    let s = c.args.search.now in
    let h = tried_handed s.font.file.now _ _ s.font.octets s.font.in_file s.name.now c.args.keep.now (length s.words.now) s.slice.now _ s.can _ c.trace_font.ensures _ c.in_ok-r.was in (
      measured s.font.file.now _ _ s.font.octets s.font.in_file s.name.now c.args.keep.now (length s.words.now) (length s.slice.now) _ _ s.can h.is _
          (c.measure.ensures ∙ ap (λ (font : Loaded). answer_of (cut_behind false (program font) s.name.now c.args.keep.now (take c.in_ok-r.r.len c.trace_font.new.out) (flag_of (eqb c.in_ok-r.r.flag 1)) 67108864)) c.of-held.ensures.1),
      record { font = refl; name = refl; words = refl; words_long = c.measure.auto.words; slice = refl; slice_long = search rules },
    )
