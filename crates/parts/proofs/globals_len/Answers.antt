-- `parts::globals_len` meets its contract: so many subroutines are written as the way keeps.
use Rattle.std.proofs.Common.{ap, ℕ, ◌∙◌}
use Rattle.index.specs.Write.{index_len_lem}
use Rattle.parts.proofs.globals_len.Goals as goal

pub returns : goal.returns
returns c =
    let l = c.index_len.ensures in
    (l.0 ∙ ap (λ (n : ℕ). index_len_lem n c.args.r.globals_total) c.kept_count-count.ensures, l.1)
