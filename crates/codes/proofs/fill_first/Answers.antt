-- `codes::fill_first` meets its contract: by the kind.
use Rattle.codes.specs.FillLaws.{kind-ranges, fills_codes, fills_ranges}
use Rattle.codes.proofs.fill_first.Goals as goal

pub returns-then-kind-eq0 : goal.returns-then-kind-eq0
returns-then-kind-eq0 c = fills_codes _ _ c.args.kind c.if-kind-eq0.true c.fill_codes.ensures

pub fill_ranges-requires : goal.fill_ranges-requires
fill_ranges-requires c =
    (kind-ranges c.args.at c.args.count c.args.kind _ c.if-kind-eq0.false c.requires.0 c.requires.1, c.requires.2)

pub returns : goal.returns
returns c = fills_ranges _ _ c.args.kind c.if-kind-eq0.false c.fill_ranges.ensures
