-- A worked example, computed: document 01's font with three local subroutines, the third reached, meets what the theorem asks, and the theorem
-- says of it what computing says. The glyph is number 7 of FD 3 in the font, and number 1 of FD 0 in the subset.
use Rattle.std.specs.Prelude.{ℕ, zero, suc, ◌<◌, ◌≡◌, refl, Bool, true, false, List, [], ◌∷◌, eqb, ℤ, pos, get_or, None, Option, Some}
use Rattle.std.proofs.Common.{sym, ap, subst, arith, eqb-true}
use Rattle.octets.specs.Pick.{pick}
use Rattle.octets.specs.Octets.{Octets, bytes_of}
use Rattle.type2_number.specs.Number.{keep24, rounded, number_at, Reading}
use Rattle.type2_number.specs.Encoding.{integer_bytes, fixed_bytes, number_bytes}
use Rattle.charstring.specs.Bias.{bias_of}
use Rattle.charstring.specs.Token.{token_at, tokens_from, tokens_of}
use Rattle.charstring.specs.Encode.{encode}
use Rattle.charstring.specs.declared.MaskLen.{MaskLen}
use Rattle.charstring.specs.declared.MaskLen.TheVariants.{Own}
use Rattle.unfold.specs.Unfold.{num, op, Row, Site, glyph, local, global, entered, masked, leave, but, target_of, operator_at, step_at, walk, run_body, plain, unfold_glyph}
use Rattle.prune.specs.Renumber.{Calls, operand_of, renumber, renumber_charstring}
use Rattle.prune.specs.Bodies.{empty as nothing, one, Renumbers}
use Rattle.prune.specs.StepLaws.{zero_one}
use Rattle.prune.specs.OperandLaws.{operand_target, operand_reading}
use Rattle.prune.proofs.Unfolds.{renumbered_unfolds}

abbrev locals : List (List ℕ)
locals = (0x0b ∷ []) ∷ (0x0b ∷ []) ∷ (0x8c ∷ 0x8d ∷ 0x05 ∷ 0x0b ∷ []) ∷ []

abbrev locals' : List (List ℕ)
locals' = (0x8c ∷ 0x8d ∷ 0x05 ∷ 0x0b ∷ []) ∷ []

-- the third is the first of one
abbrev third : ℕ → Option ℕ
third i = pick (eqb i 2) (Some 0) None

abbrev calls : Site → Calls
calls site b z = pick (eqb b 10) (operand_of third (bias_of 3) (bias_of 1) z) None

-- the record has one row
abbrev listed : Row → Type 0
listed r = r ≡ entered (local 3 2)

abbrev given : Site → ℕ → MaskLen
given site offset = Own

only_third : (i n : ℕ) → third i ≡ Some n → (i ≡ 2) × (n ≡ 0)
only_third i n e = go (eqb i 2) refl e
  where
    go : (t : Bool) → eqb i 2 ≡ t → pick t (Some 0) None ≡ Some n → (i ≡ 2) × (n ≡ 0)
    go true f h = (eqb-true i 2 f, cc)
    go false f h = absurd (zero_one cc)

no_mask : (site : Site) (offset len : ℕ) → listed (masked site offset len) → ⊥
no_mask (glyph g) offset len e = let k : ◌≡◌ {A = ℕ} 2 0 = ap (λ (r : Row). r.kind) e in zero_one (omega arith)
no_mask (local f k) offset len e = let k : ◌≡◌ {A = ℕ} 3 0 = ap (λ (r : Row). r.kind) e in zero_one (omega arith)
no_mask (global k) offset len e = let k : ◌≡◌ {A = ℕ} 4 0 = ap (λ (r : Row). r.kind) e in zero_one (omega arith)

octets_third : Octets (0x8c ∷ 0x8d ∷ 0x05 ∷ 0x0b ∷ [])
octets_third zero = omega arith
octets_third (suc zero) = omega arith
octets_third (suc (suc zero)) = omega arith
octets_third (suc (suc (suc zero))) = omega arith
octets_third (suc (suc (suc (suc i)))) = omega arith

octets_glyph : Octets (0x22 ∷ 0x0a ∷ 0x0e ∷ [])
octets_glyph zero = omega arith
octets_glyph (suc zero) = omega arith
octets_glyph (suc (suc zero)) = omega arith
octets_glyph (suc (suc (suc i))) = omega arith

octets_return : Octets (0x0b ∷ [])
octets_return zero = omega arith
octets_return (suc i) = omega arith

octets_none : Octets []
octets_none i = omega arith

octets_local : (i : ℕ) → Octets (get_or locals i [])
octets_local zero = octets_return
octets_local (suc zero) = octets_return
octets_local (suc (suc zero)) = octets_third
octets_local (suc (suc (suc i))) = octets_none

third-body : renumber_charstring (calls (local 3 2)) (given (local 3 2)) (get_or locals 2 []) ≡ Some (get_or locals' 0 [])
unfolding renumber_charstring renumber tokens_of tokens_from token_at number_at rounded keep24 encode number_bytes integer_bytes fixed_bytes bytes_of
third-body = refl

the_glyph : renumber_charstring (calls (glyph 7)) (given (glyph 7)) (0x22 ∷ 0x0a ∷ 0x0e ∷ []) ≡ Some (0x20 ∷ 0x0a ∷ 0x0e ∷ [])
unfolding renumber_charstring renumber tokens_of tokens_from token_at number_at rounded keep24 encode number_bytes integer_bytes fixed_bytes bytes_of
the_glyph = refl

third-renumbers : Renumbers [] locals [] locals' 3 listed given calls (λ i n. third i ≡ Some n) (λ i n. ⊥)
third-renumbers =
    record {
      lengths = λ site offset len h. absurd (no_mask site offset len h);
      local_call = λ site z y i e f. operand_target third 3 1 (λ j n h. below j n h) z y e i f;
      global_call = λ site z y i e f. absurd (zero_one cc);
      operand = λ site b z y e. reading b z y e;
      local_body = λ i n h. body i n h;
      global_body = λ i n h. absurd h;
      local_octets = octets_local;
      global_octets = λ i. octets_none;
    }
  where
    below : (i n : ℕ) → third i ≡ Some n → n < 1
    below i n h = let p = only_third i n h in omega (arith, p.1)

    reading : (b : ℕ) (z y : ℤ) → calls (global 0) b z ≡ Some y → Reading y
    reading b z y e = go (eqb b 10) e
      where
        go : (t : Bool) → pick t (operand_of third (bias_of 3) (bias_of 1) z) None ≡ Some y → Reading y
        go true f = operand_reading third 3 1 below z y f (omega arith)
        go false f = absurd (zero_one cc)

    body : (i n : ℕ) → third i ≡ Some n
        → renumber_charstring (calls (local 3 i)) (given (local 3 i)) (get_or locals i []) ≡ Some (get_or locals' n [])
    body i n h =
        let p = only_third i n h in
        subst (λ (j : ℕ). renumber_charstring (calls (local 3 j)) (given (local 3 j)) (get_or locals j []) ≡ Some (get_or locals' n [])) (sym p.0)
        (subst (λ (m : ℕ). renumber_charstring (calls (local 3 2)) (given (local 3 2)) (get_or locals 2 []) ≡ Some (get_or locals' m [])) (sym p.1) third-body)

before : unfold_glyph [] locals 3 7 (0x22 ∷ 0x0a ∷ 0x0e ∷ []) ≡ plain (num (pos 65536) ∷ num (pos 131072) ∷ op 5 ∷ op 14 ∷ []) (entered (local 3 2) ∷ [])
unfolding unfold_glyph run_body walk step_at operator_at leave but target_of number_at rounded keep24
before = refl

after : (rows : List Row) × (unfold_glyph [] locals' 0 1 (0x20 ∷ 0x0a ∷ 0x0e ∷ []) ≡ plain (num (pos 65536) ∷ num (pos 131072) ∷ op 5 ∷ op 14 ∷ []) rows)
after =
    renumbered_unfolds [] locals [] locals' 3 0 7 1 listed given calls (λ i n. third i ≡ Some n) (λ i n. ⊥) third-renumbers (0x22 ∷ 0x0a ∷ 0x0e ∷ [])
    (0x20 ∷ 0x0a ∷ 0x0e ∷ []) octets_glyph the_glyph _ _ before (one refl nothing)
