-- Laws of turns: what a turn says is within the body and the limits; and the ways out of the code, each by what it was told.
use Rattle.std.specs.Prelude.{ℕ, ◌+◌, ◌-◌, ◌/◌, ◌≤◌, ◌<◌, ◌≡◌, Bool, List, ltb, eqb, ℤ, length, get_or, None, Option, Some}
use Rattle.std.proofs.Math.Path.{refl, ap}
use Rattle.std.proofs.Common.{sym, ◌∙◌, arith}
use borrow.Author.Tests.{lt-ltb, le-ltb, ltb-true, ltb-false}
use Rattle.octets.specs.Pick.{pick, pick_ind}
use Rattle.octets.specs.Steps.{and}
use Rattle.octets.specs.StepsLaws.{and_ind}
use Rattle.type2_number.specs.Number.{Read, cut, operator, number, number_at}
use Rattle.type2_number.specs.NumberLaws.{Further, further}
use Rattle.charstring.specs.Bias.{bias_of, numbered, last_at}
use Rattle.charstring.specs.Token.{is_mask}
use Rattle.unfold.specs.Unfold.{target_of, is_stem, is_path}
use Rattle.turns.specs.TargetLaws.{zero_one}
use Rattle.turns.specs.Turns.{Few, of_kind, leaves, goes_on, call_turn, escape_turn, mask_turn, stem_turn, clearing_turn_lem, operator_turn_lem, turn_by, turn_at_lem}
use Rattle.turns.specs.declared.Counts.{Counts}
use Rattle.type2_number.specs.Answers.{number_of}
use Rattle.type2_number.specs.declared.Number.{Number}
use Rattle.type2_number.specs.declared.Number.TheVariants.{Num, Cut, Operator}
use Rattle.turns.specs.declared.Turn.{Turn}
use Rattle.turns.specs.declared.Turn.TheVariants.{Breaks, Returns, Ends, Goes, Masks, Calls}
use Rattle.turns.specs.declared.Kind.{Kind}
use Rattle.turns.specs.declared.Kind.TheVariants.{Local, Global}

-- a subroutine that a number names is there
abbrev Below : ℕ → Option ℕ → Type 0
Below count None = Unit
Below count (Some i) = i < count

named : (count i : ℕ) → Below count (pick (ltb i count) (Some i) None)
named count i = pick_ind (Below count) (ltb i count) (Some i) None (λ t. ltb-true i count t) (λ t. tt)

target_below : (count : ℕ) (l : Option ℤ) → Below count (target_of count l)
unfolding target_of
target_below count l = and_ind (Below count) (and l (numbered (bias_of count))) _ tt (named count)

-- what a turn says: on behind its token and within the body, a mask of at most 12 bytes within it, a subroutine that is there
abbrev pub Sound : ℕ → ℕ → List ℕ → ℕ → Turn → Type 0
Sound locals globals s at Breaks = Unit
Sound locals globals s at (Returns y) = Unit
Sound locals globals s at Ends = Unit
Sound locals globals s at (Goes n p y) = (at < n) × (n ≤ length s)
Sound locals globals s at (Masks len y) = (len ≤ 12) × (at + 1 + len ≤ length s)
Sound locals globals s at (Calls kind i y) = i < of_kind kind locals globals

module _ (locals globals : ℕ) (s : List ℕ) (at : ℕ) (h : at < length s) where
  abbrev S : Turn → Type 0
  S t = Sound locals globals s at t

  leaves_sound : (args stems spent : ℕ) (go : Counts → Turn) → S (go (record { args = args; stems = stems; spent = spent + 1 })) → S (leaves args stems spent go)
  leaves_sound args stems spent go p = pick_ind S (ltb spent 65536) _ Breaks (λ t. p) (λ t. tt)

  goes_sound : (n p args stems spent : ℕ) → at < n → n ≤ length s → S (goes_on n p args stems spent)
  goes_sound n p args stems spent i j = leaves_sound args stems spent (Goes n p) (i, j)

  call_sound : (kind : Kind) (x : Counts) (q : Option ℕ) → Below (of_kind kind locals globals) q → S (call_turn kind x q)
  call_sound kind x None b = tt
  call_sound kind x (Some i) b = b

  escape_sound : (x : Counts) → S (escape_turn s at x)
  escape_sound x =
      let e = get_or s (at + 1) 0 in
      pick_ind S (ltb (length s - at) 2) Breaks _ (λ t. tt)
      (λ t. let k = ltb-false (length s - at) 2 t in
      pick_ind S (ltb e 34) Breaks _ (λ t. tt)
      (λ u. pick_ind S (ltb 37 e) Breaks _ (λ v. tt)
      (λ v. goes_sound (at + 2) (at + 2) 0 x.stems x.spent (omega arith) (omega arith))))

  mask_sound : (n spent : ℕ) → S (mask_turn s at n spent)
  mask_sound n spent =
      pick_ind S (ltb 96 n) Breaks _ (λ t. tt)
      (λ t. let k = ltb-false 96 n t in
      pick_ind S (ltb (length s - (at + 1)) ((n + 7) / 8)) Breaks _ (λ t. tt)
      (λ u. let l = ltb-false (length s - (at + 1)) ((n + 7) / 8) u in
      leaves_sound 0 n spent (Masks ((n + 7) / 8)) (omega arith, omega arith)))

  stem_sound : (n spent : ℕ) → S (stem_turn at n spent)
  stem_sound n spent = pick_ind S (ltb 96 n) Breaks _ (λ t. tt) (λ t. goes_sound (at + 1) (at + 1) 0 n spent (omega arith) (omega arith))

  clearing_sound : (x : Counts) (b : ℕ) → S (clearing_turn_lem s at x b)
  unfolding clearing_turn_lem
  clearing_sound x b =
      pick_ind S (eqb b 12) _ _ (λ t. escape_sound x)
      (λ t. pick_ind S (is_mask b) _ _ (λ u. mask_sound (x.stems + x.args / 2) x.spent)
      (λ u. pick_ind S (is_stem b) _ _ (λ v. stem_sound (x.stems + x.args / 2) x.spent)
      (λ v. pick_ind S (is_path b) _ Breaks (λ w. goes_sound (at + 1) (at + 1) 0 x.stems x.spent (omega arith) (omega arith)) (λ w. tt))))

  operator_sound : (own : Bool) (prev : ℕ) (x : Counts) (b : ℕ) → S (operator_turn_lem locals globals own s at prev x b)
  unfolding operator_turn_lem
  operator_sound own prev x b =
      pick_ind S (eqb b 10) _ _ (λ t. call_sound Local x (target_of locals (last_at s prev at)) (target_below locals (last_at s prev at)))
      (λ t. pick_ind S (eqb b 29) _ _ (λ u. call_sound Global x (target_of globals (last_at s prev at)) (target_below globals (last_at s prev at)))
      (λ u. pick_ind S (eqb b 11) _ _ (λ v. pick_ind S own Breaks (Returns x) (λ w. tt) (λ w. tt))
      (λ v. pick_ind S (eqb b 14) _ _ (λ w. pick_ind S (ltb 1 x.args) Breaks _ (λ y. tt) (λ y. leaves_sound 0 x.stems x.spent (λ z. Ends) tt))
      (λ w. clearing_sound x b))))

  by_sound : (own : Bool) (prev : ℕ) (x : Counts) (q : Read) → Further s at q → S (turn_by locals globals own s at prev x q)
  unfolding turn_by
  by_sound own prev x cut k = tt
  by_sound own prev x operator k = operator_sound own prev x (get_or s at 0)
  by_sound own prev x (number z n) k = pick_ind S (ltb x.args 48) _ Breaks (λ t. goes_sound n at (x.args + 1) x.stems x.spent k.0 k.1) (λ t. tt)

  pub turn_sound : (own : Bool) (prev : ℕ) (x : Counts) → S (turn_at_lem locals globals own s at prev x)
  turn_sound own prev x = by_sound own prev x (number_at s at) (further s at h)

-- few operands and stems wait after a turn
abbrev pub FewAfter : Turn → Type 0
FewAfter Breaks = Unit
FewAfter (Returns y) = Few y
FewAfter Ends = Unit
FewAfter (Goes n p y) = Few y
FewAfter (Masks len y) = Few y
FewAfter (Calls kind i y) = Few y

module _ (s : List ℕ) (at : ℕ) where
  leaves_few : (args stems spent : ℕ) (go : Counts → Turn) → FewAfter (go (record { args = args; stems = stems; spent = spent + 1 })) → FewAfter (leaves args stems spent go)
  leaves_few args stems spent go p = pick_ind FewAfter (ltb spent 65536) _ Breaks (λ t. p) (λ t. tt)

  goes_few : (n p args stems spent : ℕ) → args ≤ 48 → stems ≤ 96 → FewAfter (goes_on n p args stems spent)
  goes_few n p args stems spent a b = leaves_few args stems spent (Goes n p) (record { operands = a; hints = b })

  call_few : (kind : Kind) (x : Counts) → Few x → (q : Option ℕ) → FewAfter (call_turn kind x q)
  call_few kind x f None = tt
  call_few kind x f (Some i) = record { operands = omega (arith, f.operands); hints = f.hints }

  escape_few : (x : Counts) → Few x → FewAfter (escape_turn s at x)
  escape_few x f =
      let e = get_or s (at + 1) 0 in
      pick_ind FewAfter (ltb (length s - at) 2) Breaks _ (λ t. tt)
      (λ t. pick_ind FewAfter (ltb e 34) Breaks _ (λ t. tt)
      (λ u. pick_ind FewAfter (ltb 37 e) Breaks _ (λ v. tt) (λ v. goes_few (at + 2) (at + 2) 0 x.stems x.spent (omega arith) f.hints)))

  mask_few : (n spent : ℕ) → FewAfter (mask_turn s at n spent)
  mask_few n spent =
      pick_ind FewAfter (ltb 96 n) Breaks _ (λ t. tt)
      (λ t. pick_ind FewAfter (ltb (length s - (at + 1)) ((n + 7) / 8)) Breaks _ (λ t. tt)
      (λ u. leaves_few 0 n spent (Masks ((n + 7) / 8)) (record { operands = omega arith; hints = ltb-false 96 n t })))

  stem_few : (n spent : ℕ) → FewAfter (stem_turn at n spent)
  stem_few n spent = pick_ind FewAfter (ltb 96 n) Breaks _ (λ t. tt) (λ t. goes_few (at + 1) (at + 1) 0 n spent (omega arith) (ltb-false 96 n t))

  clearing_few : (x : Counts) (b : ℕ) → Few x → FewAfter (clearing_turn_lem s at x b)
  unfolding clearing_turn_lem
  clearing_few x b f =
      pick_ind FewAfter (eqb b 12) _ _ (λ t. escape_few x f)
      (λ t. pick_ind FewAfter (is_mask b) _ _ (λ u. mask_few (x.stems + x.args / 2) x.spent)
      (λ u. pick_ind FewAfter (is_stem b) _ _ (λ v. stem_few (x.stems + x.args / 2) x.spent)
      (λ v. pick_ind FewAfter (is_path b) _ Breaks (λ w. goes_few (at + 1) (at + 1) 0 x.stems x.spent (omega arith) f.hints) (λ w. tt))))

  operator_few : (locals globals : ℕ) (own : Bool) (prev : ℕ) (x : Counts) (b : ℕ) → Few x → FewAfter (operator_turn_lem locals globals own s at prev x b)
  unfolding operator_turn_lem
  operator_few locals globals own prev x b f =
      pick_ind FewAfter (eqb b 10) _ _ (λ t. call_few Local x f (target_of locals (last_at s prev at)))
      (λ t. pick_ind FewAfter (eqb b 29) _ _ (λ u. call_few Global x f (target_of globals (last_at s prev at)))
      (λ u. pick_ind FewAfter (eqb b 11) _ _ (λ v. pick_ind FewAfter own Breaks (Returns x) (λ w. tt) (λ w. f))
      (λ v. pick_ind FewAfter (eqb b 14) _ _ (λ w. pick_ind FewAfter (ltb 1 x.args) Breaks _ (λ y. tt) (λ y. leaves_few 0 x.stems x.spent (λ z. Ends) tt))
      (λ w. clearing_few x b f))))

  by_few : (locals globals : ℕ) (own : Bool) (prev : ℕ) (x : Counts) → Few x → (q : Read) → FewAfter (turn_by locals globals own s at prev x q)
  unfolding turn_by
  by_few locals globals own prev x f cut = tt
  by_few locals globals own prev x f operator = operator_few locals globals own prev x (get_or s at 0) f
  by_few locals globals own prev x f (number z n) =
      pick_ind FewAfter (ltb x.args 48) _ Breaks
      (λ t. let l = ltb-true x.args 48 t in goes_few n at (x.args + 1) x.stems x.spent (omega arith) f.hints) (λ t. tt)

  pub turn_few : (locals globals : ℕ) (own : Bool) (prev : ℕ) (x : Counts) → Few x → FewAfter (turn_at_lem locals globals own s at prev x)
  turn_few locals globals own prev x f = by_few locals globals own prev x f (number_at s at)

-- ---- the ways out of the code

-- what stands at a place
module _ (locals globals : ℕ) (own : Bool) (s : List ℕ) (at prev : ℕ) (x : Counts) (r : Number) (e : r ≡ number_of (number_at s at)) where
  abbrev T : Read → Turn
  T q = turn_by locals globals own s at prev x q

  pub turn-cut : r ≡ Cut → Breaks ≡ turn_at_lem locals globals own s at prev x
  unfolding turn_by
  turn-cut f = by (number_at s at) (sym e ∙ f)
    where
      by : (q : Read) → number_of q ≡ Cut → Breaks ≡ T q
      by cut k = refl
      by operator k = absurd (zero_one cc)
      by (number z n) k = absurd (zero_one cc)

  pub turn-operator : r ≡ Operator → (t : Turn) → t ≡ operator_turn_lem locals globals own s at prev x (get_or s at 0) → t ≡ turn_at_lem locals globals own s at prev x
  unfolding turn_by
  turn-operator f t g = by (number_at s at) (sym e ∙ f)
    where
      by : (q : Read) → number_of q ≡ Operator → t ≡ T q
      by cut k = absurd (zero_one cc)
      by operator k = g
      by (number z n) k = absurd (zero_one cc)

  module _ (v : ℤ) (n : ℕ) (f : r ≡ Num v n) where
    pub turn-number : x.args < 48 → (t : Turn) → t ≡ goes_on n at (x.args + 1) x.stems x.spent → t ≡ turn_at_lem locals globals own s at prev x
    unfolding turn_by
    turn-number l t g = by (number_at s at) (sym e ∙ f)
      where
        by : (q : Read) → number_of q ≡ Num v n → t ≡ T q
        by cut k = absurd (zero_one cc)
        by operator k = absurd (zero_one cc)
        by (number z m) k = let h : n ≡ m = cc in rw (lt-ltb x.args 48 l) (g ∙ ap (λ (j : ℕ). goes_on j at (x.args + 1) x.stems x.spent) h)

    pub turn-full : 48 ≤ x.args → Breaks ≡ turn_at_lem locals globals own s at prev x
    unfolding turn_by
    turn-full l = by (number_at s at) (sym e ∙ f)
      where
        by : (q : Read) → number_of q ≡ Num v n → Breaks ≡ T q
        by cut k = absurd (zero_one cc)
        by operator k = absurd (zero_one cc)
        by (number z m) k = rw (le-ltb x.args 48 l)
