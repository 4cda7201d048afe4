-- Laws of one token, by the cases in which the code takes it, and of the bytes written at one.
use Rattle.std.specs.Prelude.{ℕ, ◌+◌, ◌≤◌, ◌≡◌, refl, List, ◌++◌, Bool, true, false, eqb, ℤ, Float, length, Option, None, Some, Result, Ok}
use Rattle.std.proofs.Common.{sym, ap, ◌∙◌, subst, arith, length-append}
use Rattle.octets.specs.Pick.{pick, pick_ind}
use Rattle.charstring.specs.Bias.{bias_of}
use Rattle.charstring.specs.declared.Token.{Token}
use Rattle.charstring.specs.declared.Token.TheVariants.{Num, Op, Esc, Mask}
use Rattle.prune.specs.Renumber.{is_call, operand_of}
use Rattle.renumber.specs.Ranks.{numbers_in, calls_by, Ranked}
use Rattle.renumber.specs.Turn.{call_turn, turn_of, held_bytes_lem}
use Rattle.renumber.specs.declared.Ranks.{Ranks}
use Rattle.renumber.specs.declared.turns.Stuck.{Stuck}

-- ---- the number that is held, by its constructor

pub held-room : (h u : Option ℤ) → h ≡ u → (at n : ℕ) → at + length (held_bytes_lem h) ≤ n → at + length (held_bytes_lem u) ≤ n
held-room h u e at n k = subst (λ (x : Option ℤ). at + length (held_bytes_lem x) ≤ n) e k

-- ---- one part after the other

pub front-room : (old xs ys : List ℕ) (at : ℕ) → at + length (xs ++ ys) ≤ length old → at + length xs ≤ length old
front-room old xs ys at room = let k = length-append xs ys in omega arith

-- ---- what a token brings

-- both kinds of subroutines are ranked, so the one that is called is
pub called-ranked : (ws : List ℕ) (locals globals : Ranks) → Ranked ws locals → Ranked ws globals → (t : Token) (b : ℕ) → t ≡ Op b
    → (q : Ranks) → q ≡ pick (eqb b 10) locals globals → Ranked ws q
called-ranked ws locals globals l g t b e q f = subst (Ranked ws) (sym f) (pick_ind (Ranked ws) (eqb b 10) locals globals (λ u. l) (λ u. g))

module _ (ws : List ℕ) (locals globals : Ranks) (h : Option ℤ) (t : Token) where
  -- the subroutines of which a call calls one, by its operator
  called-turn : (b : ℕ) (u : Bool) (g : Option ℤ) → eqb b 10 ≡ u → is_call b ≡ true
      → call_turn (operand_of (numbers_in ws (pick u locals globals)) (bias_of (pick u locals globals).count) (bias_of (pick u locals globals).reached)) g
      ≡ turn_of (calls_by ws locals globals) g (Op b)
  called-turn b true None e c = rw c
  called-turn b true (Some v) e c = rw (c, e)
  called-turn b false None e c = rw c
  called-turn b false (Some v) e c = rw (c, e)

  module _ (b : ℕ) (e : t ≡ Op b) where
    pub turn-called : is_call b ≡ true → (q : Ranks) → q ≡ pick (eqb b 10) locals globals
        → (r : Result (Option ℤ) Stuck) → r ≡ call_turn (operand_of (numbers_in ws q) (bias_of q.count) (bias_of q.reached)) h → r ≡ turn_of (calls_by ws locals globals) h t
    turn-called c q f r g =
        g ∙ ap (λ (x : Ranks). call_turn (operand_of (numbers_in ws x) (bias_of x.count) (bias_of x.reached)) h) f ∙ called-turn b (eqb b 10) h refl c
        ∙ ap (turn_of (calls_by ws locals globals) h) (sym e)

    other : is_call b ≡ false → Ok h ≡ turn_of (calls_by ws locals globals) h (Op b)
    other c = rw c

    pub turn_other : is_call b ≡ false → Ok h ≡ turn_of (calls_by ws locals globals) h t
    turn_other c = other c ∙ ap (turn_of (calls_by ws locals globals) h) (sym e)

  pub turn-num : (v : Float) → t ≡ Num v → Ok h ≡ turn_of (calls_by ws locals globals) h t
  turn-num v e = ap (turn_of (calls_by ws locals globals) h) (sym e)

  pub turn-esc : (b : ℕ) → t ≡ Esc b → Ok h ≡ turn_of (calls_by ws locals globals) h t
  turn-esc b e = ap (turn_of (calls_by ws locals globals) h) (sym e)

  pub turn-mask : (start len : ℕ) → t ≡ Mask start len → Ok h ≡ turn_of (calls_by ws locals globals) h t
  turn-mask start len e = ap (turn_of (calls_by ws locals globals) h) (sym e)
