-- A whole number that was written is taken for itself, as an offset, a size or an id; and the last entry of an operator in entries that stand
-- one behind the other (document 01, 'Corners in mod.rs').
use Rattle.std.specs.Prelude.{ℕ, ◌+◌, ◌-◌, ◌*◌, ◌^◌, ◌<◌, min, ◌≡◌, refl, ◌⊎◌, Bool, false, List, [], ◌∷◌, ◌++◌, eqb, Ok, Err}
use Rattle.std.proofs.Common.{sym, ap, ◌∙◌, subst, inl, inr, eq-zero-or-pos, arith, eq-eqb}
use Rattle.octets.specs.Pick.{pick, pick_ind}
use Rattle.decimal.specs.declared.Decimal.{Decimal}
use Rattle.decimal.specs.Decimal.{nought, zeros, stripped, scaled, whole}
use Rattle.decimal.specs.DecimalLaws.{normal-nought, normal_pos, stripped-exact}
use Rattle.decimal.specs.Values.{trunc_of, offset_of}
use Rattle.decimal.specs.ValuesLaws.{trunc-whole}
use Rattle.dict.specs.Dict.{Entry}
use Rattle.dict.specs.Lookup.{Operands, operands, last_from, private_as, private_there}
use Rattle.dict_write.specs.Written.{without}
use Rattle.refusal.specs.declared.Refusal.TheVariants.{Malformed}

-- ---- a whole number

-- what is said of a whole number: no sign, no fraction, and its size
pub record IsWhole (v : ℕ) (d : Decimal) : Type 0 where
  pub plus : d.neg ≡ false
  pub unbroken : d.down ≡ 0
  pub size : trunc_of d ≡ v

-- a number of these digits is one
scaled-whole : (v : ℕ) → IsWhole v (scaled false (stripped v) (0 + zeros v) 0)
scaled-whole v =
    let d : Decimal = scaled false (stripped v) (0 + zeros v) 0 in
    let z : 0 + zeros v - 0 ≡ zeros v = omega arith in
    let n : 0 - (0 + zeros v) ≡ 0 = omega arith in
    record { plus = refl; unbroken = n; size = trunc-whole d n ∙ ap (λ (k : ℕ). stripped v * 10 ^ k) z ∙ stripped-exact v }

-- and so is the one that is written
pub whole_is : (v : ℕ) → IsWhole v (whole v)
whole_is v = go (eq-zero-or-pos v)
  where
    nought-whole : IsWhole 0 (whole 0)
    nought-whole = subst (IsWhole 0) (sym (normal-nought false 0 0)) (record { plus = refl; unbroken = refl; size = trunc-whole nought refl })

    go : (v ≡ 0) ⊎ (0 < v) → IsWhole v (whole v)
    go (inl e) = subst (λ (n : ℕ). IsWhole n (whole n)) (sym e) nought-whole
    go (inr p) = subst (IsWhole v) (sym (normal_pos false v 0 0 p)) (scaled-whole v)

-- it is the offset
pub offset-whole : (v : ℕ) → v < 2147483648 → offset_of (whole v) ≡ Ok v
offset-whole v h =
    let w = whole_is v in
    let m : min (trunc_of (whole v)) 4294967296 ≡ v = ap (λ (n : ℕ). min n 4294967296) w.size ∙ omega arith in
    ap (λ (t : Bool). pick t (Err Malformed) (pick (eqb (whole v).down 0) (Ok (min (trunc_of (whole v)) 4294967296)) (Err Malformed))) w.plus
    ∙ ap (λ (t : Bool). pick t (Ok (min (trunc_of (whole v)) 4294967296)) (Err Malformed)) (eq-eqb (whole v).down 0 w.unbroken)
    ∙ ap Ok m

-- a size and an offset are those of a Private DICT
pub private-whole : (size at : ℕ) → size < 2147483648 → at < 2147483648 → private_as (operands (whole size ∷ whole at ∷ [])) ≡ private_there size at
private-whole size at h k =
    let v = whole_is size in
    let w = whole_is at in
    let m : min (trunc_of (whole size)) 4294967296 ≡ size = ap (λ (n : ℕ). min n 4294967296) v.size ∙ omega arith in
    let n : min (trunc_of (whole at)) 4294967296 ≡ at = ap (λ (n : ℕ). min n 4294967296) w.size ∙ omega arith in
    ap (λ (t : Bool). pick t (Err Malformed) (pick (whole at).neg (Err Malformed) (private_there (min (trunc_of (whole size)) 4294967296) (min (trunc_of (whole at)) 4294967296)))) v.plus
    ∙ ap (λ (t : Bool). pick t (Err Malformed) (private_there (min (trunc_of (whole size)) 4294967296) (min (trunc_of (whole at)) 4294967296))) w.plus
    ∙ ap (λ (s : ℕ). private_there s (min (trunc_of (whole at)) 4294967296)) m ∙ ap (private_there size) n

-- ---- the last entry of an operator

-- entries behind others
pub last-append : (op : ℕ) (o : Operands) (xs ys : List Entry) → last_from op o (xs ++ ys) ≡ last_from op (last_from op o xs) ys
unfolding last_from
last-append op o [] ys = refl
last-append op o (x ∷ xs) ys = last-append op (pick (eqb x.op op) (operands x.operands) o) xs ys

-- the entry at the end counts
pub last_snoc : (op : ℕ) (o : Operands) (xs : List Entry) (ds : List Decimal) → last_from op o (xs ++ (record { op = op; operands = ds } ∷ [])) ≡ operands ds
unfolding last_from
last_snoc op o xs ds =
    last-append op o xs (record { op = op; operands = ds } ∷ [])
    ∙ ap (λ (t : Bool). pick t (operands ds) (last_from op o xs)) (eq-eqb op op refl)

-- no entry of an operator is among those of others
pub last-without : (op : ℕ) (o : Operands) (es : List Entry) → last_from op o (without op es) ≡ o
unfolding last_from without
last-without op o [] = refl
last-without op o (e ∷ es) =
    pick_ind (λ (l : List Entry). last_from op o l ≡ o) (eqb e.op op) _ _ (λ t. last-without op o es)
    (λ t. ap (λ (u : Bool). last_from op (pick u (operands e.operands) o) (without op es)) t ∙ last-without op o es)
