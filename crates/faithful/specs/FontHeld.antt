-- A font that was read: what holds of its bytes and of its program.
use Rattle.std.specs.Prelude.{ℕ, ◌≤◌, List, length}
use Rattle.cff.specs.Reads.{GoodFont, program_of}
use Rattle.cff.specs.declared.font.Font.{Font}
use Rattle.faithful.specs.Laid.{GoodProgram}

pub record FontHeld (b : List ℕ) (f : Font) : Type 0 where
  pub font : GoodFont b f
  pub size : length b ≤ 67108864
  pub program : GoodProgram (program_of b f)
