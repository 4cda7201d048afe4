-- That a font was read is one fact, so that a type may hold it.
use Rattle.std.specs.Prelude.{ℕ, List, [], ◌∷◌}
use Rattle.std.specs.Coded.{×_prop, Unit-prop}
use Rattle.std.proofs.Props.{props}
use Rattle.decimal.specs.Decimal.{Normal}
use Rattle.decimal.specs.declared.Decimal.{Decimal}
use Rattle.dict.specs.Dict.{Entry}
use Rattle.dict.specs.Proper.{AllNormal, Proper, AllProper}
use Rattle.cff.specs.Alone.{good_font_prop}
use Rattle.cff.specs.Font.{Program}
use Rattle.cff.specs.declared.font.Font.{Font}
use Rattle.faithful.specs.Laid.{GoodProgram}
use Rattle.faithful.specs.FontHeld.{FontHeld}

normal_prop : (d : Decimal) → IsProp (Normal d)
normal_prop d = Prim.hlevel props

numbers_prop : (ds : List Decimal) → IsProp (AllNormal ds)
unfolding AllNormal
numbers_prop [] = Unit-prop
numbers_prop (d ∷ ds) = ×_prop (normal_prop d) (numbers_prop ds)

entry_prop : (e : Entry) → IsProp (Proper e)
entry_prop e = Prim.hlevel (props, numbers_prop)

entries_prop : (es : List Entry) → IsProp (AllProper es)
unfolding AllProper
entries_prop [] = Unit-prop
entries_prop (e ∷ es) = ×_prop (entry_prop e) (entries_prop es)

good_program_prop : (p : Program) → IsProp (GoodProgram p)
good_program_prop p = Prim.hlevel (props, entries_prop)

pub held_prop : (b : List ℕ) (f : Font) → IsProp (FontHeld b f)
held_prop b f = Prim.hlevel (props, good_font_prop, good_program_prop)
