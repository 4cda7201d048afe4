-- What a DICT's number is taken for (document 01, 'Corners in mod.rs'): fractions are dropped towards zero, as the Rust's casts do.
use Rattle.std.specs.Prelude.{ℕ, ◌*◌, ◌/◌, ◌^◌, min, Bool, false, ltb, eqb, None, Option, Some, Result, Ok, Err}
use Rattle.octets.specs.Pick.{pick}
use Rattle.decimal.specs.declared.Decimal.{Decimal}
use Rattle.decimal.specs.declared.Signed.{Signed}
use Rattle.refusal.specs.declared.Refusal.{Refusal}
use Rattle.refusal.specs.declared.Refusal.TheVariants.{Malformed}

-- the size with the fraction dropped
unfoldable pub trunc_of : Decimal → ℕ
trunc_of d = d.digits * 10 ^ d.up / 10 ^ d.down

-- clamped to 0 .. most
abbrev pub clamped : ℕ → Decimal → ℕ
clamped most d = pick d.neg 0 (min (trunc_of d) most)

-- clamped to -2147483648 .. 2147483647; minus zero is 0
abbrev pub i32_of : Decimal → Signed
i32_of d =
    pick (eqb (trunc_of d) 0) (record { neg = false; size = 0 })
    (record { neg = d.neg; size = min (trunc_of d) (pick d.neg 2147483648 2147483647) })

-- a string id: absent where the number, its fraction dropped, is not one of 0 .. 65535
abbrev pub id_of : Decimal → Option ℕ
id_of d = pick (eqb (trunc_of d) 0) (Some 0) (pick d.neg None (pick (ltb (trunc_of d) 65536) (Some (trunc_of d)) None))

-- an offset: whole and not negative, or malformed; one of 4294967296 or more stands for all that are past every font
abbrev pub offset_of : Decimal → Result ℕ Refusal
offset_of d = pick d.neg (Err Malformed) (pick (eqb d.down 0) (Ok (min (trunc_of d) 4294967296)) (Err Malformed))

-- exactly 2
abbrev pub is_two : Decimal → Bool
is_two d = pick d.neg false (pick (eqb d.digits 2) (pick (eqb d.up 0) (eqb d.down 0) false) false)
