-- `front::put_front_cid` meets its contract: header and names, the INDEX of the top DICT, and that of the strings.
use Rattle.std.proofs.Common.{rules, take}
use Rattle.own_strings.specs.IdsLaws.{given-long}
use Rattle.front.specs.ByCidLaws.{names-asked, top-asked, own-asked, all-wrote}
use Rattle.std.specs.Prelude.{true}
use Rattle.front.specs.FrontLaws.{ready_filled}
use Rattle.front.proofs.put_front_cid.Goals as goal

pub put_names-requires : goal.put_names-requires
put_names-requires c =
    let a = c.args in
    names-asked a.font.now (take 8 a.slots.now) a.own a.name.now a.out.now c.requires.2 c.requires.0 a.at.end a.at.charset a.at.select a.at.glyphs a.at.dicts

pub read-top-requires : goal.read-top-requires
read-top-requires c = (search rules, given-long _ c.args.slots.now c.requires.0.ready.given, ready_filled _ _ true _ c.requires.0.font c.requires.0.ready)

pub put_cid_index-requires : goal.put_cid_index-requires
put_cid_index-requires c =
    let a = c.args in
    rw (c.read-top.ensures.0, c.read-top.ensures.1) (top-asked a.font.now (take 8 a.slots.now) a.own a.name.now a.out.now c.requires.2 c.requires.0 a.at.end a.at.charset a.at.select a.at.glyphs a.at.dicts c.put_names.ensures)

pub invariant_of-given : goal.invariant_of-given
invariant_of-given c = rw (c.strings-strings.ensures.0, c.strings-strings.ensures.1) (record { given = c.requires.0.ready.given })

pub put_slot_strings-requires : goal.put_slot_strings-requires
put_slot_strings-requires c =
    let a = c.args in
    rw (c.strings-strings.ensures.0, c.strings-strings.ensures.1) (own-asked a.font.now (take 8 a.slots.now) a.own a.name.now a.out.now c.requires.2 c.requires.0 a.at.end a.at.charset a.at.select a.at.glyphs a.at.dicts c.put_names.ensures (rw (c.read-top.ensures.0, c.read-top.ensures.1) at c.put_cid_index.ensures))

pub returns : goal.returns
returns c =
    let a = c.args in
    all-wrote a.font.now (take 8 a.slots.now) a.own a.name.now a.out.now c.requires.2 c.requires.0 a.at.end a.at.charset a.at.select a.at.glyphs a.at.dicts c.put_names.ensures (rw (c.read-top.ensures.0, c.read-top.ensures.1) at c.put_cid_index.ensures) (rw (c.strings-strings.ensures.0, c.strings-strings.ensures.1) at c.put_slot_strings.ensures)
