-- `found::flagged_found` meets its contract: what is not flagged or is new needs no finding.
use Rattle.first_glyphs.specs.FoundLaws.{flag-unset, flag-set, flag-either}
use Rattle.found.proofs.flagged_found.Goals as goal

pub returns-then-new : goal.returns-then-new
returns-then-new c = flag-either c.args.flag _ (c.requires.1 c.if-new.true)

pub returns-then-flag : goal.returns-then-flag
returns-then-flag c = flag-set _ _ _ c.if-flag.true c.name_found.ensures

pub returns : goal.returns
returns c = flag-unset _ _ c.if-flag.false
