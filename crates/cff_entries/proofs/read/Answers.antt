-- `cff_entries::read` meets its contract: the counts of the font that was read are those of its lists.
use Rattle.std.proofs.Common.{ap, sym, ◌∙◌, Ok}
use Rattle.cff.specs.Find.{read_as}
use Rattle.cff.specs.SetLaws.{found-font, counts_with}
use Rattle.cff_entries.proofs.read.Goals as goal

pub returns : goal.returns
returns c =
    let h = found-font c.args.font.now _ c.read_font.ensures _ c.in_ok-f.was in
    ap Ok (counts_with _ _ h.good _ c.work_size-work.ensures) ∙ sym (ap read_as h.is)
