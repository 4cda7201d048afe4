-- `front::put_front_named` meets its contract: header and names, the INDEX of the top DICT, and that of the strings.
use Rattle.std.proofs.Common.{rules, take}
use Rattle.own_strings.specs.IdsLaws.{given-long}
use Rattle.front.specs.ByNameLaws.{names-asked, top-asked, own-asked, all-wrote}
use Rattle.std.specs.Prelude.{false}
use Rattle.front.specs.FrontLaws.{ready_filled}
use Rattle.front.proofs.put_front_named.Goals as goal

pub put_names-requires : goal.put_names-requires
put_names-requires c =
    let a = c.args in
    names-asked a.kept.now (take 8 a.slots.now) a.own a.name.now a.out.now a.at.end a.at.charset a.at.encoding a.at.charstrings a.at.size a.at.private c.requires.3 c.requires.0

pub read-top-requires : goal.read-top-requires
read-top-requires c = (search rules, given-long _ c.args.slots.now c.requires.0.ready.given, ready_filled _ _ false _ c.requires.0.font c.requires.0.ready)

pub put_named_index-requires : goal.put_named_index-requires
put_named_index-requires c =
    let a = c.args in
    rw (c.read-top.ensures.0, c.read-top.ensures.1) (top-asked a.kept.now (take 8 a.slots.now) a.own a.name.now a.out.now a.at.end a.at.charset a.at.encoding a.at.charstrings a.at.size a.at.private c.requires.3 c.requires.0 c.put_names.ensures)

pub put_strings-requires : goal.put_strings-requires
put_strings-requires c =
    let a = c.args in
    own-asked a.kept.now (take 8 a.slots.now) a.own a.name.now a.out.now a.at.end a.at.charset a.at.encoding a.at.charstrings a.at.size a.at.private c.requires.3 c.requires.0 c.put_names.ensures (rw (c.read-top.ensures.0, c.read-top.ensures.1) at c.put_named_index.ensures)

pub returns : goal.returns
returns c =
    let a = c.args in (
      all-wrote a.kept.now (take 8 a.slots.now) a.own a.name.now a.out.now a.at.end a.at.charset a.at.encoding a.at.charstrings a.at.size a.at.private c.requires.3 c.requires.0 c.put_names.ensures (rw (c.read-top.ensures.0, c.read-top.ensures.1) at c.put_named_index.ensures) c.put_strings.ensures.0,
      c.put_strings.ensures.1,
    )
