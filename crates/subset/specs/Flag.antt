-- The flag of a call (document 01, 'Entries and their refusals'), once refusal 8 is passed: 1 where the glyphs were traced, else 0.
use Rattle.std.specs.Prelude.{ℕ, Bool, true, false}

abbrev pub flag_of : Bool → ℕ
flag_of true = 1
flag_of false = 0
