-- `reading::put_parts` meets its contract: each part is written to its buffer.
use Rattle.std.proofs.Common.{arith, refl}
use Rattle.sheet.specs.PartsLaws.{Fine, fine, up_to_room, stands}
use Rattle.sheet.proofs.reading.put_parts.Goals as goal
use Rattle.sheet.proofs.reading.put_parts.Goals.{Start}

-- the lines are those of a sheet
parts : (s : Start) → Fine s.args.head.now
parts s = fine _ s.requires

pub put_spelt-m-requires : goal.put_spelt-m-requires
put_spelt-m-requires c =
    let u = up_to_room 16384 _ (parts (goal.at.put_spelt-m-requires c).Start).font in
    (u.0, omega (arith, u.1, c.args.to.now.font_room))

pub put_spelt-n-requires : goal.put_spelt-n-requires
put_spelt-n-requires c =
    let u = up_to_room 256 _ (parts (goal.at.put_spelt-n-requires c).Start).name in
    (u.0, omega (arith, u.1, c.args.to.now.name_room))

pub put_kept-k-requires : goal.put_kept-k-requires
put_kept-k-requires c = ((parts (goal.at.put_kept-k-requires c).Start).keep, c.args.to.now.keep_room)

pub flag_of-flag-requires : goal.flag_of-flag-requires
flag_of-flag-requires c = (parts (goal.at.flag_of-flag-requires c).Start).flag

pub put_rows-l-requires : goal.put_rows-l-requires
put_rows-l-requires c = ((parts (goal.at.put_rows-l-requires c).Start).rows, c.args.to.now.rec_room)

pub returns : goal.returns
returns c = (
  stands c.args.head.now c.put_spelt-m.ensures c.put_spelt-n.ensures c.put_kept-k.ensures c.flag_of-flag.ensures c.put_rows-l.ensures,
  record { font = refl; name = refl; keep = refl; rec = refl },
)
