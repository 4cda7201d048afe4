-- `strings::same_text` meets its contract.
use Rattle.std.specs.Cmp.Lexicographic.{bytes_decides}
use Rattle.std.proofs.Common.{◌∙◌}
use Rattle.std.proofs.lemmas.Bool.Decides.{same_from_decides}
use Rattle.strings.specs.TextLaws.{same_true, same_refl}
use Rattle.strings.proofs.same_text.Goals as goal

pub returns : goal.returns
returns c =
    let a = c.args.a.now in
    let b = c.args.b.now in
    c.eq.ensures ∙ same_from_decides _ _ (bytes_decides a b) (same_true a b, λ e. rw e (same_refl b))
