-- Subroutines by windows of a record that does not rise (document 01, 'Reach record': order and repeats are free).
use Rattle.std.specs.Prelude.{ℕ, true}
use Rattle.bodies.specs.declared.subrs.Source.{Source}
use Rattle.reach.specs.declared.Subrs.{Subrs}
use Rattle.reach.specs.declared.Subrs.TheVariants.{Global, Local}

-- the same subroutines by a record that rises
abbrev pub source_in_order : Source → Source
source_in_order from =
    record { way = from.way; of = from.of; ix = from.ix; own = from.own; locals = from.locals; globals = from.globals; rising = true }

-- the kind and the FD of the rows of masks of some subroutines
abbrev pub kind_of : Subrs → ℕ
kind_of Global = 4
kind_of (Local fd) = 3

abbrev pub fd_of : Subrs → ℕ
fd_of Global = 0
fd_of (Local fd) = fd
