-- `private_dicts::put_font_dict` meets its contract: the FontMatrix, and then Private.
use Rattle.std.proofs.Common.{arith, refl, length-append, ◌∙◌}
use Rattle.octets.specs.PutLaws.{wrote_then}
use Rattle.dict.specs.Lookup.{last_of}
use Rattle.dict.specs.Op.{font_matrix}
use Rattle.dict.specs.Places.{entries_of}
use Rattle.dict_write.specs.WriteLaws.{room-then}
use Rattle.dict_write.specs.Written.{copied_entry, private_entry}
use Rattle.private_dicts.proofs.put_font_dict.Goals as goal

pub put_copied-requires : goal.put_copied-requires
put_copied-requires c =
    (refl, rw c.nowhere.ensures.0 (omega (arith, c.requires.2, length-append (copied_entry font_matrix (last_of font_matrix (entries_of c.args.d.now))) (private_entry c.args.size c.args.place))))

pub put_private_entry-requires : goal.put_private_entry-requires
put_private_entry-requires c = (c.requires.0, c.requires.1, room-then _ (rw c.nowhere.ensures.0 at c.put_copied.ensures.wrote) c.requires.2)

pub returns : goal.returns
returns c = record { wrote = wrote_then (omega (arith, c.requires.2)) (rw c.nowhere.ensures.0 at c.put_copied.ensures.wrote) c.put_private_entry.ensures.wrote; same = c.put_private_entry.ensures.same ∙ c.put_copied.ensures.same; size = c.put_private_entry.ensures.size ∙ c.put_copied.ensures.size }
