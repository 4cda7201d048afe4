-- `Held::of` meets its contract: what holds of a font that was read in a file.
use Rattle.faithful.specs.FontHeldLaws.{font-held}
use Rattle.faithful.proofs.read.Held.of.Goals as goal

pub invariant_of-result : goal.invariant_of-result
invariant_of-result c = record { held = font-held c.args.font.now.file.now _ _ c.args.font.now.octets c.args.font.now.in_file }
