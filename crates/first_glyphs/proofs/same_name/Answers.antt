-- `first_glyphs::same_name` meets its contract: it compares the two names.
use Rattle.std.proofs.Common.{List, ap, ℕ, ◌∙◌}
use Rattle.strings.specs.Text.{same_text_lem}
use Rattle.first_glyphs.proofs.same_name.Goals as goal

pub returns : goal.returns
returns c =
    c.same_text.ensures ∙ ap (λ (x : List ℕ). same_text_lem x c.text_at-b.result.now) c.text_at-a.ensures ∙ ap (same_text_lem _) c.text_at-b.ensures
