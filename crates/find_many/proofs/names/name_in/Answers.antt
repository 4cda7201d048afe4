-- `names::name_in` meets its contract: a font that was read has the strings and ids that `find_text` goes through.
use Rattle.std.proofs.Common.{arith}
use Rattle.find_many.specs.ManyLaws.{found-small}
use Rattle.find_many.proofs.names.name_in.Goals as goal

pub overflow_cast-result : goal.overflow_cast-result
overflow_cast-result c =
    let font = c.args.font.now in
    let i = c.ids.ensures in
    let s = c.strings.ensures in
    omega (arith, found-small font.bytes.now font.f font.good c.args.name.now _ (rw (i.0, i.1, i.2, s.0, s.1) at c.find_text-found.ensures) _ c.in-Some.is)
