-- `private_dicts::matrix_len` meets its contract: the entry that is copied is not much longer than its DICT.
use Rattle.std.proofs.Common.{ap, length, List, ℕ, ◌∙◌}
use Rattle.dict.specs.Lookup.{last_of}
use Rattle.dict.specs.Op.{font_matrix}
use Rattle.dict.specs.Places.{entries_of}
use Rattle.dict_write.specs.Written.{copied_entry}
use Rattle.private_dicts.proofs.matrix_len.Goals as goal

pub returns : goal.returns
returns c = (c.copied_len.ensures.0 ∙ ap (λ (d : List ℕ). length (copied_entry font_matrix (last_of font_matrix (entries_of d)))) c.nowhere.ensures.0, c.copied_len.ensures.1)
