-- `cff_cases::of_found` meets its contract: a glyph that was found is written behind no refusal.
use Rattle.std.proofs.Common.{ap, sym, ◌∙◌, Ok}
use Rattle.octets.specs.Octets.{bytes_of}
use Rattle.cff_cases.specs.CffCases.{found_bytes}
use Rattle.cff_cases.proofs.of_found.Goals as goal

pub returns-in-Ok-Some : goal.returns-in-Ok-Some
unfolding bytes_of
returns-in-Ok-Some c =
    let h = rw c.in-Ok-Some.is at c.in-Ok-Some.field-0-is in
    rw (c.num-in-Ok-Some-2.ensures.0, c.num-in-Ok-Some.ensures.0, c.new-answer.ensures) (sym (ap found_bytes (c.in-Ok-Some.is ∙ ap Ok h)))
