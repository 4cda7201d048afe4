-- `strings::standard_string` meets its contract: the code's tables are those of the definitions, whose law says that the part between the two offsets is
-- the name.
use Rattle.std.proofs.Common.{arith}
use Rattle.octets.specs.Lists.{joined}
use Rattle.strings.specs.Table.{standard_names, standard_offsets}
use Rattle.strings.specs.Text.{codes}
use Rattle.strings.specs.Strings.{standard_strings, standard_text}
use Rattle.strings.proofs.TableLaws.{offset-rises, offset-within, part_is}
use Rattle.strings.proofs.standard_string.Goals as goal

pub slice_bounds-result-count : goal.slice_bounds-result-count
unfolding standard_offsets
slice_bounds-result-count c = let n = offset-rises c.args.k c.requires in omega (arith, n)

pub slice_bounds-result-start : goal.slice_bounds-result-start
unfolding standard_offsets
slice_bounds-result-start c = let n = offset-rises c.args.k c.requires in omega (arith, n)

pub slice_bounds-result-end : goal.slice_bounds-result-end
unfolding standard_offsets
slice_bounds-result-end c = let n = offset-within c.args.k c.requires in omega (arith, n)

pub returns : goal.returns
unfolding standard_names standard_offsets codes standard_strings joined standard_text
returns c = part_is c.args.k c.requires
