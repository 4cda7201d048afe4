-- `early_traced::record_fits` meets its contract: the marked glyphs are the kept ones.
use Rattle.std.proofs.Common.{length, refl}
use Rattle.kept.specs.SlotLaws.{flags_long, flags_marked}
use Rattle.early_traced.specs.FitsLaws.{fits_trace}
use Rattle.early_traced.proofs.record_fits.Goals as goal

pub mark-requires : goal.mark-requires
mark-requires c =
    let good = c.args.font.now.held.font in
    (good.some, flags_long _ _ refl good.ids.few, c.requires.0)

pub invariant_of-glyphs : goal.invariant_of-glyphs
invariant_of-glyphs c = record { long = flags_marked _ _ _ _ refl c.args.font.now.held.font.ids.few c.mark.ensures }

pub returns : goal.returns
returns c =
    let t = c.args.font.now in
    fits_trace t.loaded.bytes.now t.loaded.f t.held.font c.args.keep.now (length c.args.lent.now) c.requires.0 c.requires.1 _ _ c.mark.ensures _ c.fits_marked.ensures
