-- Laws of reals: the limits of refusal 5 by what the code holds, and a text read to its end.
use Prim.Native.Nat.{ℕ, ◌+◌, ◌-◌, ◌/◌, ◌%◌, ◌^◌, ◌≤◌, ◌<◌, min}
use Rattle.std.specs.Prelude.{◌≡◌, ◌⊎◌, Bool, ltb, leb, Result, Ok, Err, Option}
use Rattle.std.proofs.Math.Path.{refl}
use Rattle.std.proofs.Common.{sym, ap, ◌∙◌, inl, inr, eq-zero-or-pos, lt_irrefl, arith, lt-ltb, le-ltb, le-leb}
use Rattle.std.proofs.Math.Bool.{true, false}
use Rattle.std.proofs.lemmas.Bool.{false≢true}
use Rattle.std.proofs.Math.Decide.{dec_le}
use Rattle.octets.specs.Pick.{pick}
use Rattle.decimal.specs.declared.Held.{Held}
use Rattle.decimal.specs.declared.Stage.{Stage}
use Rattle.decimal.specs.declared.Stage.TheVariants.{Start, Mantissa, Exponent, Power, Malformed as Spoilt}
use Rattle.decimal.specs.declared.Decimal.{Decimal}
use Rattle.decimal.specs.Decimal.{nought, zeros, stripped, scaled, normal}
use Rattle.decimal.specs.DecimalLaws.{zeros-nought, stripped-nought, stripped-last, stripped_pos, normal-nought, normal_pos}
use Rattle.decimal.specs.Real.{bad, form, exp_digits, exponent, mantissa, form_of, limited, value_of}
use Rattle.decimal.specs.Number.{placed, a_number, answer_of}
use Rattle.decimal.specs.Stage.{begun, in_mantissa, after_e, in_exponent, spoilt, held_of, Few, Finished, Ended, Bounded}
use Rattle.decimal.specs.declared.NumberAt.{NumberAt}
use Rattle.refusal.specs.declared.Refusal.{Refusal}
use Rattle.refusal.specs.declared.Refusal.TheVariants.{Malformed, Real}

-- ---- the limits

choice : (t u v : Bool) (d : Decimal) → (u ≡ true) ⊎ (v ≡ true) → pick t (Err Real) (pick u (Err Real) (pick v (Err Real) (Ok d))) ≡ Err Real
choice true u v d h = refl
choice false true v d h = refl
choice false false true d h = refl
choice false false false d (inl h) = absurd (false≢true h)
choice false false false d (inr h) = absurd (false≢true h)

-- a power past a limit, whatever the digits
past-high : (s : Bool) (m a b : ℕ) → b + 30 < a → limited (scaled s m a b) ≡ Err Real
past-high s m a b h = choice (leb (10 ^ 15) m) (ltb 30 (a - b)) (ltb 30 (b - a)) (scaled s m a b) (inl (lt-ltb 30 (a - b) (omega arith)))

past-low : (s : Bool) (m a b : ℕ) → a + 30 < b → limited (scaled s m a b) ≡ Err Real
past-low s m a b h = choice (leb (10 ^ 15) m) (ltb 30 (a - b)) (ltb 30 (b - a)) (scaled s m a b) (inr (lt-ltb 30 (b - a) (omega arith)))

-- an exponent that stopped at 1000 is past the limits, as it is
up_same : (s : Bool) (m f z e exp : ℕ) → f ≤ 63 → exp ≡ min e 1000 → limited (scaled s m (exp + z) f) ≡ limited (scaled s m (e + z) f)
up_same s m f z e exp h k = go (dec_le e 1000)
  where
    go : Dec (e ≤ 1000) → limited (scaled s m (exp + z) f) ≡ limited (scaled s m (e + z) f)
    go (yes p) = let q : exp ≡ e = omega arith in rw q
    go (no p) = past-high s m (exp + z) f (omega arith) ∙ sym (past-high s m (e + z) f (omega arith))

down-same : (s : Bool) (m f z e exp : ℕ) → z ≤ 63 → exp ≡ min e 1000 → limited (scaled s m z (f + exp)) ≡ limited (scaled s m (0 + z) (f + e))
down-same s m f z e exp h k = go (dec_le e 1000)
  where
    o : z ≡ 0 + z
    o = omega arith

    go : Dec (e ≤ 1000) → limited (scaled s m z (f + exp)) ≡ limited (scaled s m (0 + z) (f + e))
    go (yes p) = let q : exp ≡ e = omega arith in ap (λ (y : ℕ). limited (scaled s m y (f + exp))) o ∙ ap (λ (y : ℕ). limited (scaled s m (0 + z) (f + y))) q
    go (no p) = past-low s m z (f + exp) (omega arith) ∙ sym (past-low s m (0 + z) (f + e) (omega arith))

-- what is held of any number
held_last : (n : ℕ) → min (stripped n) (10 ^ 15) % 10 ≡ 0 → min (stripped n) (10 ^ 15) < 10 ^ 15 → min (stripped n) (10 ^ 15) ≡ 0
held_last n e h = go (eq-zero-or-pos n)
  where
    k : min (stripped n) (10 ^ 15) ≡ stripped n
    k = omega arith

    go : (n ≡ 0) ⊎ (0 < n) → min (stripped n) (10 ^ 15) ≡ 0
    go (inl o) = k ∙ ap stripped o ∙ stripped-nought
    go (inr p) = absurd (stripped-last n p (ap (λ (m : ℕ). m % 10) (sym k) ∙ e))

pub held_bounded : (h : Held) (s : Bool) (n f : ℕ) → h ≡ held_of s n f → Bounded h
held_bounded h s n f e = rw e (omega arith, omega arith, held_last n)

-- ---- a well formed text

module _ (h : Held) (es : Bool) (exp bytes next : ℕ) (s : Bool) (n f e k : ℕ) (eh : h ≡ held_of s n f) (ee : exp ≡ min e 1000) (few : Few n f k) (by : bytes ≡ k / 2 + 1) where
  dig : h.digits ≡ min (stripped n) (10 ^ 15)
  dig = ap (λ (o : Held). o.digits) eh

  zer : h.zeros ≡ min (zeros n) 1000
  zer = ap (λ (o : Held). o.zeros) eh

  beh : h.behind ≡ min f 1000
  beh = ap (λ (o : Held). o.behind) eh

  pub finished_long : 32 < bytes → Err Real ≡ answer_of (placed next (value_of (k + 1) (form s n f es e)))
  unfolding value_of
  finished_long o = rw (lt-ltb 64 (k + 1) (omega arith))

  short : bytes ≤ 32 → value_of (k + 1) (form s n f es e) ≡ limited (normal s n (pick es 0 e) (pick es (f + e) f))
  unfolding value_of
  short o = rw (le-ltb 64 (k + 1) (omega arith))

  pub finished-nought : bytes ≤ 32 → h.digits ≡ 0 → a_number nought next ≡ answer_of (placed next (value_of (k + 1) (form s n f es e)))
  finished-nought o z = go (eq-zero-or-pos n)
    where
      go : (n ≡ 0) ⊎ (0 < n) → a_number nought next ≡ answer_of (placed next (value_of (k + 1) (form s n f es e)))
      go (inl q) = rw (short o, q, normal-nought s (pick es 0 e) (pick es (f + e) f))
      go (inr q) = absurd (lt_irrefl 0 (omega (arith, stripped_pos n q, dig)))

  positive : (h.digits ≡ 0 → ⊥) → 0 < n
  positive z = go (eq-zero-or-pos n)
    where
      go : (n ≡ 0) ⊎ (0 < n) → 0 < n
      go (inl q) = absurd (z (omega (arith, dig, ap stripped q, stripped-nought)))
      go (inr q) = q

  -- the number that is to be within the limits
  whole-text : bytes ≤ 32 → (h.digits ≡ 0 → ⊥) → value_of (k + 1) (form s n f es e) ≡ limited (scaled s (stripped n) (pick es 0 e + zeros n) (pick es (f + e) f))
  whole-text o z = short o ∙ ap limited (normal_pos s n (pick es 0 e) (pick es (f + e) f) (positive z))

  pub finished_many : bytes ≤ 32 → (h.digits ≡ 0 → ⊥) → 10 ^ 15 ≤ h.digits → Err Real ≡ answer_of (placed next (value_of (k + 1) (form s n f es e)))
  finished_many o z m = rw (whole-text o z, le-leb (10 ^ 15) (stripped n) (omega (arith, dig)))

  module _ (o : bytes ≤ 32) (z : h.digits ≡ 0 → ⊥) (m : h.digits < 10 ^ 15) (r : Result (Option NumberAt) Refusal) where
    same_digits : h.digits ≡ stripped n
    same_digits = omega (arith, dig)

    same-zeros : h.zeros ≡ zeros n
    same-zeros = omega (arith, zer, few)

    same-behind : h.behind ≡ f
    same-behind = omega (arith, beh, few)

    same_sign : h.neg ≡ s
    same_sign = ap (λ (q : Held). q.neg) eh

    pub finished-down : es ≡ true → r ≡ answer_of (placed next (limited (scaled h.neg h.digits h.zeros (h.behind + exp)))) → r ≡ answer_of (placed next (value_of (k + 1) (form s n f es e)))
    finished-down t q =
        let l : zeros n ≤ 63 = omega (arith, few) in
        let w : limited (scaled h.neg h.digits h.zeros (h.behind + exp)) ≡ limited (scaled s (stripped n) (0 + zeros n) (f + e)) =
        rw (same_digits, same-zeros, same-behind, same_sign) (down-same s (stripped n) f (zeros n) e exp l ee) in
        let v : value_of (k + 1) (form s n f es e) ≡ limited (scaled s (stripped n) (0 + zeros n) (f + e)) =
        whole-text o z ∙ ap (λ (y : Bool). limited (scaled s (stripped n) (pick y 0 e + zeros n) (pick y (f + e) f))) t in
        q ∙ ap (λ (y : Result Decimal Refusal). answer_of (placed next y)) (w ∙ sym v)

    pub finished-up : es ≡ false → r ≡ answer_of (placed next (limited (scaled h.neg h.digits (exp + h.zeros) h.behind))) → r ≡ answer_of (placed next (value_of (k + 1) (form s n f es e)))
    finished-up t q =
        let l : f ≤ 63 = omega (arith, few) in
        let w : limited (scaled h.neg h.digits (exp + h.zeros) h.behind) ≡ limited (scaled s (stripped n) (e + zeros n) f) =
        rw (same_digits, same-zeros, same-behind, same_sign) (up_same s (stripped n) f (zeros n) e exp l ee) in
        let v : value_of (k + 1) (form s n f es e) ≡ limited (scaled s (stripped n) (e + zeros n) f) =
        whole-text o z ∙ ap (λ (y : Bool). limited (scaled s (stripped n) (pick y 0 e + zeros n) (pick y (f + e) f))) t in
        q ∙ ap (λ (y : Result Decimal Refusal). answer_of (placed next y)) (w ∙ sym v)

-- ---- a text at its end, by the stage that the code found

never : ◌≡◌ {A = ℕ} 0 1 → ⊥
never h = omega arith

malformed : (next k : ℕ) → Err Malformed ≡ answer_of (placed next (value_of k bad))
unfolding value_of
malformed next k = refl

none-few : (k : ℕ) → Few 0 0 k
none-few k = (omega (arith, zeros-nought), omega arith)

module _ (st : Stage) (bytes next : ℕ) where
  pub ended_start : (held : Held) (r : Result (Option NumberAt) Refusal) → st ≡ Start → held ≡ held_of false 0 0 → Finished bytes next held false 0 r → Ended st bytes next r
  unfolding form_of
  ended_start held r e q t begun k h c b = t false 0 0 0 k q refl (none-few k) b
  ended_start held r e q t (in_mantissa s any point n f) k h c b = absurd (never cc)
  ended_start held r e q t (after_e s n f) k h c b = absurd (never cc)
  ended_start held r e q t (in_exponent s n f es any p) k h c b = absurd (never cc)
  ended_start held r e q t spoilt k h c b = absurd (never cc)

  module _ (any point : Bool) (held : Held) (e : st ≡ Mantissa any point held) where
    pub ended_mantissa : (r : Result (Option NumberAt) Refusal) → any ≡ true → Finished bytes next held false 0 r → Ended st bytes next r
    unfolding mantissa
    ended_mantissa r a t begun k h c b = absurd (never cc)
    ended_mantissa r a t (in_mantissa s any' point' n f) k h c b =
        let p : any' ≡ true = cc in
        let q : held ≡ held_of s n f = cc in
        rw p (t s n f 0 k q refl c b)
    ended_mantissa r a t (after_e s n f) k h c b = absurd (never cc)
    ended_mantissa r a t (in_exponent s n f es any' q) k h c b = absurd (never cc)
    ended_mantissa r a t spoilt k h c b = absurd (never cc)

    pub ended_bare : any ≡ false → Ended st bytes next (Err Malformed)
    unfolding mantissa
    ended_bare a begun k h c b = absurd (never cc)
    ended_bare a (in_mantissa s any' point' n f) k h c b = let p : any' ≡ false = cc in rw p (malformed next (k + 1))
    ended_bare a (after_e s n f) k h c b = absurd (never cc)
    ended_bare a (in_exponent s n f es any' q) k h c b = absurd (never cc)
    ended_bare a spoilt k h c b = absurd (never cc)

  pub ended_exponent : (held : Held) → st ≡ Exponent held → Ended st bytes next (Err Malformed)
  unfolding exponent
  ended_exponent held e begun k h c b = absurd (never cc)
  ended_exponent held e (in_mantissa s any point n f) k h c b = absurd (never cc)
  ended_exponent held e (after_e s n f) k h c b = malformed next (k + 1)
  ended_exponent held e (in_exponent s n f es any q) k h c b = absurd (never cc)
  ended_exponent held e spoilt k h c b = absurd (never cc)

  module _ (held : Held) (eneg any : Bool) (exp : ℕ) (e : st ≡ Power held eneg any exp) where
    pub ended_power : (r : Result (Option NumberAt) Refusal) → any ≡ true → Finished bytes next held eneg exp r → Ended st bytes next r
    unfolding exp_digits
    ended_power r a t begun k h c b = absurd (never cc)
    ended_power r a t (in_mantissa s any' point n f) k h c b = absurd (never cc)
    ended_power r a t (after_e s n f) k h c b = absurd (never cc)
    ended_power r a t (in_exponent s n f es any' q) k h c b =
        let p : any' ≡ true = cc in
        let u : es ≡ eneg = cc in
        let v : held ≡ held_of s n f = cc in
        let w : exp ≡ min q 1000 = cc in
        rw (p, u) (t s n f q k v w c b)
    ended_power r a t spoilt k h c b = absurd (never cc)

    pub ended_e : any ≡ false → Ended st bytes next (Err Malformed)
    unfolding exp_digits
    ended_e a begun k h c b = absurd (never cc)
    ended_e a (in_mantissa s any' point n f) k h c b = absurd (never cc)
    ended_e a (after_e s n f) k h c b = absurd (never cc)
    ended_e a (in_exponent s n f es any' q) k h c b = let p : any' ≡ false = cc in rw p (malformed next (k + 1))
    ended_e a spoilt k h c b = absurd (never cc)

  pub ended_malformed : st ≡ Spoilt → Ended st bytes next (Err Malformed)
  ended_malformed e begun k h c b = absurd (never cc)
  ended_malformed e (in_mantissa s any point n f) k h c b = absurd (never cc)
  ended_malformed e (after_e s n f) k h c b = absurd (never cc)
  ended_malformed e (in_exponent s n f es any q) k h c b = absurd (never cc)
  ended_malformed e spoilt k h c b = malformed next (k + 1)
