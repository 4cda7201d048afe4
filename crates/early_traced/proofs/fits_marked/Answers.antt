-- `early_traced::fits_marked` meets its contract: one that is not plain has an empty record; else the first window of their rows decides.
use Rattle.std.proofs.Common.{refl}
use Rattle.kept.specs.SlotLaws.{slots-empty}
use Rattle.tracer.specs.AnswerLaws.{marked_broken, marked-shown}
use Rattle.early_traced.specs.FitsLaws.{fits_broken}
use Rattle.early_traced.proofs.fits_marked.Goals as goal

pub fits_first-requires : goal.fits_first-requires
fits_first-requires c = marked-shown c.args.glyphs.now _ _ _ c.fill.ensures _ c.in-Some.is (slots-empty _ refl).size

pub returns-in-None : goal.returns-in-None
returns-in-None c = fits_broken _ _ _ _ _ (marked_broken c.args.glyphs.now _ _ _ c.fill.ensures c.in-None.is c.args.lent.now)
