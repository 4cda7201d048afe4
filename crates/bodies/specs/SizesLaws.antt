-- Laws of measuring: a body renumbered is at most five times as long, and bodies are measured one after the other.
use Prim.Native.Nat.{ℕ, zero, suc, ◌+◌, ◌-◌, ◌*◌, ◌≤◌, ◌<◌}
use Rattle.std.specs.Prelude.{◌≡◌, refl, Bool, true, false, List, ◌∷◌, ℤ, None, Option, Some}
use Rattle.std.proofs.Common.{sym, ◌∙◌, subst, le_refl}
use Rattle.std.proofs.Math.Path.{ap}
use native.Mathlib.Omega.{arith}
use Rattle.std.proofs.Math.ListN.{length}
use Rattle.octets.specs.Pick.{pick, pick_ind}
use Rattle.octets.specs.Octets.{Octets}
use Rattle.octets.specs.Steps.{and}
use Rattle.type2_number.specs.Number.{Reading}
use Rattle.index.specs.Write.{total}
use Rattle.charstring.specs.declared.MaskLen.{MaskLen}
use Rattle.charstring.specs.declared.Cursor.{Cursor}
use Rattle.charstring.specs.Token.{more, token_at, start}
use Rattle.charstring.specs.Answers.{step_of, given_at}
use Rattle.charstring.specs.TokensLaws.{fuel_of}
use Rattle.unfold.specs.Unfold.{Row, Site}
use Rattle.record.specs.Record.{given_in, two_lengths_lem}
use Rattle.prune.specs.Renumber.{Calls, renumber_charstring}
use Rattle.prune.specs.StepLaws.{zero_one}
use Rattle.subset.specs.Kept.{those}
use Rattle.subset.specs.Pruned.{each, renumbered_body}
use Rattle.renumber.specs.Turn.{held_after, turned_at, held_len_lem, own_len, sized_of}
use Rattle.renumber.specs.BodyLaws.{Sizing, sizing_start, sized-room, sized_end, sizing_turn, sized_failed, turning_next}
use Rattle.renumber.specs.declared.Turned.{Turned}
use Rattle.bodies.specs.Ways.{measured_of}
use Rattle.bodies.specs.Sizes.{AtMost, added_to, len_at, Adding}

-- ---- one body

module _ (calls : Calls) (reads : (b : ℕ) (z y : ℤ) → calls b z ≡ Some y → Reading y) (s : List ℕ) (b : Octets s) where
  module _ (given : ℕ → MaskLen) where
    -- what is to be shown
    abbrev Short : Type 0
    Short = AtMost (5 * length s) (sized_of (renumber_charstring calls given s))

    -- one token on, if what follows is short
    short-turn : (c : Cursor) (h : Option ℤ) (len : ℕ) → Sizing calls given s c h len
        → ((d : Cursor) (g : Option ℤ) (n : ℕ) → fuel_of s d < fuel_of s c → Sizing calls given s d g n → Short) → Short
    short-turn c h len w on = go (more s c) refl
      where
        turned : more s c ≡ true → (r : Option Turned) → r ≡ turned_at calls h (step_of (token_at s (given_at given c) c)) → Short
        turned m None e = subst (AtMost (5 * length s)) (sized_failed calls reads given s b c h len w m None e refl) tt
        turned m (Some q) e =
            on q.next (held_after q.token) (len + (held_len_lem q.before + own_len q.token)) (turning_next calls reads given s b c h w.sent w.turning m (Some q) e q.before q.token q.next refl).moves.shorter
            (sizing_turn calls reads given s b c h len w m (Some q) e q.before q.token q.next refl (held_len_lem q.before + own_len q.token) refl (held_after q.token) refl)

        go : (t : Bool) → more s c ≡ t → Short
        go true m = turned m (turned_at calls h (step_of (token_at s (given_at given c) c))) refl
        go false m =
            let k : len + held_len_lem h ≤ 5 * length s = omega (arith, sized-room calls reads given s b c h len w, w.turning.walk.within.inside) in
            subst (AtMost (5 * length s)) (sized_end calls reads given s b c h len w m (held_len_lem h) refl) k

    short-from : (fuel : ℕ) (c : Cursor) (h : Option ℤ) (len : ℕ) → fuel_of s c ≤ fuel → Sizing calls given s c h len → Short
    short-from zero c h len k w = short-turn c h len w (λ d g n l x. absurd (zero_one (omega arith)))
    short-from (suc fuel) c h len k w = short-turn c h len w (λ d g n l x. short-from fuel d g n (omega arith) x)

    short-all : Short
    short-all = short-from (fuel_of s start) start None 0 (le_refl _) (sizing_start calls reads given s b start refl)

  -- renumbered
  pub renumbered-short : (rows : List Row) (site : Site) → AtMost (5 * length s) (sized_of (renumbered_body rows calls site s))
  unfolding renumbered_body
  renumbered-short rows site =
      pick_ind (λ (m : Option (List ℕ)). AtMost (5 * length s) (sized_of m)) (two_lengths_lem rows site) None (renumber_charstring calls (given_in rows site) s)
      (λ e. tt) (λ e. short-all (given_in rows site))

-- a length that is short enough stays so
pub at_most_more : (m n : ℕ) → m ≤ n → (r : Option ℕ) → AtMost m r → AtMost n r
at_most_more m n h None k = tt
at_most_more m n h (Some l) k = omega arith

-- ---- one after the other

-- the first of some bodies, and the others
abbrev firstly : Option (List ℕ) → Option (List (List ℕ)) → Option (List (List ℕ))
firstly m r = and m (λ b. and r (λ bs. Some (b ∷ bs)))

added_none : (m : Option (List (List ℕ))) → added_to 0 m ≡ measured_of m
added_none None = refl
added_none (Some l) = let e : 0 + total l ≡ total l = omega arith in ap Some e

added-first : (t : ℕ) (bs : List ℕ) (m : Option (List (List ℕ))) → added_to t (firstly (Some bs) m) ≡ added_to (t + length bs) m
unfolding total
added-first t bs None = refl
added-first t bs (Some l) = let e : t + (length bs + total l) ≡ t + length bs + total l = omega arith in ap Some e

module _ (f : ℕ → Option (List ℕ)) (t k : ℕ) (ks : List ℕ) where
  each_first : (m : Option (List ℕ)) → f k ≡ m → each f (k ∷ ks) ≡ firstly m (each f ks)
  unfolding each
  each_first m e = ap (λ (x : Option (List ℕ)). firstly x (each f ks)) e

  added_failed : (b : Bool) (m : Option (List ℕ)) → f k ≡ m → pick b (sized_of m) (Some 0) ≡ None → added_to t (each f (pick b (k ∷ ks) ks)) ≡ None
  added_failed false m e h = absurd (zero_one cc)
  added_failed true None e h = ap (added_to t) (each_first None e)
  added_failed true (Some bs) e h = absurd (zero_one cc)

  added-on : (b : Bool) (m : Option (List ℕ)) → f k ≡ m → (l : ℕ) → pick b (sized_of m) (Some 0) ≡ Some l
      → added_to t (each f (pick b (k ∷ ks) ks)) ≡ added_to (t + l) (each f ks)
  added-on false m e l h = let z : 0 ≡ l = cc in let q : t ≡ t + l = omega arith in ap (λ (x : ℕ). added_to x (each f ks)) q
  added-on true None e l h = absurd (zero_one cc)
  added-on true (Some bs) e l h =
      let z : length bs ≡ l = cc in
      ap (added_to t) (each_first (Some bs) e) ∙ added-first t bs (each f ks) ∙ ap (λ (x : ℕ). added_to (t + x) (each f ks)) z

module _ (f : ℕ → Option (List ℕ)) (test : ℕ → Bool) (n : ℕ) where
  pub adding_start : Adding f test n 0 0
  adding_start =
      let z : n - 0 ≡ n = omega arith in
      record {
        among = omega arith;
        left = ap (λ (m : ℕ). added_to 0 (each f (those test m 0))) z ∙ added_none (each f (those test n 0));
        small = omega arith;
      }

  module _ (k t : ℕ) (w : Adding f test n k t) where
    pub adding_end : n ≤ k → Some t ≡ measured_of (each f (those test n 0))
    unfolding those each total
    adding_end h =
        let z : 0 ≡ n - k = omega arith in
        let q : t ≡ t + 0 = omega arith in
        ap Some q ∙ ap (λ (m : ℕ). added_to t (each f (those test m k))) z ∙ w.left

    -- number k, and those behind it
    next-left : k < n → added_to t (each f (pick (test k) (k ∷ those test (n - (k + 1)) (k + 1)) (those test (n - (k + 1)) (k + 1)))) ≡ measured_of (each f (those test n 0))
    unfolding those
    next-left h = let z : suc (n - (k + 1)) ≡ n - k = omega arith in ap (λ (m : ℕ). added_to t (each f (those test m k))) z ∙ w.left

    pub adding_failed : k < n → (r : Option ℕ) → r ≡ len_at test f k → r ≡ None → None ≡ measured_of (each f (those test n 0))
    adding_failed h r e g = sym (added_failed f t k (those test (n - (k + 1)) (k + 1)) (test k) (f k) refl (sym e ∙ g)) ∙ next-left h

    pub adding_on : k < n → (r : Option ℕ) → r ≡ len_at test f k → AtMost 335544320 r → (l : ℕ) → r ≡ Some l → Adding f test n (k + 1) (t + l)
    adding_on h r e few l g =
        let m : l ≤ 335544320 = subst (AtMost 335544320) g few in
        record {
          among = omega arith;
          left = sym (added-on f t k (those test (n - (k + 1)) (k + 1)) (test k) (f k) refl l (sym e ∙ g)) ∙ next-left h;
          small = omega (arith, w.small);
        }

    -- the sum stays small
    pub adding_room : k < n → n < 65536 → (l : ℕ) (r : Option ℕ) → AtMost 335544320 r → r ≡ Some l → t + l < 18446744073709551616
    adding_room h few l r m g = let q : l ≤ 335544320 = subst (AtMost 335544320) g m in omega (arith, w.small)

    pub adding_small : n < 65536 → t ≤ 21989897011200
    adding_small few = omega (arith, w.small, w.among)
