-- `reading::put_kept` meets its contract: the bytes of the digits, then their pairs.
use Rattle.std.proofs.Common.{ap, arith, length, length-take-le, refl, sym}
use Rattle.octets.specs.PutLaws.{wrote_as}
use Rattle.sheet.specs.Sheet.{pairs}
use Rattle.sheet.specs.PartsLaws.{kept-room, in_front_as, many}
use Rattle.sheet.proofs.reading.put_kept.Goals as goal

pub put_spelt-k-requires : goal.put_spelt-k-requires
put_spelt-k-requires c = kept-room c.args.line.now c.requires.0

pub slice_bounds-bytes-end : goal.slice_bounds-bytes-end
slice_bounds-bytes-end c = omega (arith, (kept-room c.args.line.now c.requires.0).1, many c.put_spelt-k.ensures)

pub slice_bounds-put_pairs-end : goal.slice_bounds-put_pairs-end
slice_bounds-put_pairs-end c = sym (length-take-le _ _ (omega (arith, (kept-room c.args.line.now c.requires.0).1, many c.put_spelt-k.ensures)))

pub put_pairs-requires : goal.put_pairs-requires
put_pairs-requires c =
    omega (arith, (kept-room c.args.line.now c.requires.0).1, c.requires.1, ap length (in_front_as _ c.put_spelt-k.ensures refl).0)

pub returns : goal.returns
returns c = wrote_as c.put_pairs.ensures (ap pairs (in_front_as _ c.put_spelt-k.ensures refl).0)
