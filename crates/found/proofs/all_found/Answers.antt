-- `found::all_found` meets its contract: the flagged glyphs are the kept ones, and each is looked for by the font's keying.
use Rattle.std.proofs.Common.{arith, refl}
use Rattle.first_glyphs.specs.BitsLaws.{unseen}
use Rattle.found.specs.FlagsLaws.{all-by_cid, all-by-name}
use Rattle.found.proofs.all_found.Goals as goal

pub mark-requires : goal.mark-requires
mark-requires c =
    let few = c.ids-glyphs.result.good.few in
    let e = c.ids-glyphs.ensures.2 in
    (omega (arith, e, c.args.font.now.good.some), few, omega (arith, few, (unseen _ refl).size), rw e c.requires)

pub cids_found-requires : goal.cids_found-requires
cids_found-requires c = unseen _ refl

pub returns-then-font : goal.returns-then-font
returns-then-font c =
    let font = c.args.font.now in
    let e = c.ids-glyphs.ensures in
    all-by_cid font.bytes.now font.f font.good c.args.keep.now _ _ (rw e.2 at c.mark.ensures) c.if-font.true _ (rw (e.0, e.1, e.2) at c.cids_found.ensures)

pub returns : goal.returns
returns c =
    let font = c.args.font.now in
    let e = c.ids-glyphs.ensures in
    let s = c.strings.ensures in
    all-by-name font.bytes.now font.f font.good c.args.keep.now _ _ (rw e.2 at c.mark.ensures) c.if-font.false _ (rw (e.0, e.1, e.2, s.0, s.1) at c.names_found.ensures)
