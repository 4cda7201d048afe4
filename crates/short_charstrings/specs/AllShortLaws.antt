-- The steps from nothing end, and are all short charstrings, each once and in order.
use Rattle.std.specs.Prelude.{ℕ, zero, suc, ◌+◌, ◌-◌, ◌≤◌, ◌<◌, ◌≡◌, refl, Bool, true, false, List, [], ◌∷◌}
use Rattle.std.proofs.Common.{sym, ◌∙◌, subst, arith}
use Rattle.short_charstrings.specs.Short.{is_short, comes_before}
use Rattle.short_charstrings.specs.Next.{Answer, refused, none_left, next, may_be_given, Least, IsNext, candidates, place_of, start_of, next_of}
use Rattle.short_charstrings.specs.OrderLaws.{Ending, ending}
use Rattle.short_charstrings.specs.NextLaws.{never, before-total, begins-behind, behind-begins, start_fits, next_is}
use Rattle.short_charstrings.specs.AllShort.{Steps, done, step, Among, here, later, InOrder, AllShort}

-- ---- one step

told : (s : List ℕ) (a : Answer) → next_of s ≡ a → IsNext s a
told s a e = subst (IsNext s) e (next_is s)

-- a short charstring may be given
given-short : (t : List ℕ) → is_short t ≡ true → may_be_given t ≡ true
given-short [] e = refl
given-short (x ∷ xs) e = e

-- the place behind it
start-short : (t : List ℕ) → is_short t ≡ true → start_of t ≡ place_of t + 1
start-short t e = by (ending t e)
  where
    by : {u : List ℕ} → Ending u → start_of u ≡ place_of u + 1
    by Ending.one = refl
    by (Ending.two a h) = refl
    by (Ending.three a b h i) = refl
    by (Ending.four a b c h i j) = refl

module _ (s t : List ℕ) (e : next_of s ≡ next t) where
  least : Least s t
  least = (told s (next t) e).1

  given : may_be_given s ≡ true
  given = (told s (next t) e).0

  pub step-short : is_short t ≡ true
  step-short = least.short

  pub step_given : may_be_given t ≡ true
  step_given = given-short t least.short

  -- THE LAW for loops: a step goes on, and not past the end
  pub step-on : (start_of s < start_of t) × (start_of t ≤ candidates)
  step-on =
      let a = behind-begins s given (ending t least.short) least.behind in
      let b = start-short t least.short in
      (omega (arith, a, b), start_fits t step_given)

-- ---- all steps

only-short : {s : List ℕ} {us : List (List ℕ)} → Steps s us → (u : List ℕ) → Among u us → is_short u ≡ true
only-short (done {s = s} _) u x = elim x [ ]
only-short {s} (step t e r) u here = (least s t e).short
only-short (step t e r) u (later a) = only-short r u a

all-behind : {s : List ℕ} {us : List (List ℕ)} → Steps s us → (u : List ℕ) → Among u us → start_of s ≤ place_of u
all-behind (done {s = s} _) u x = elim x [ ]
all-behind {s} (step t e r) u here = behind-begins s (given s t e) (ending t (least s t e).short) (least s t e).behind
all-behind {s} (step t e r) u (later a) = let h = all-behind r u a in let o = step-on s t e in omega (arith, h, o.0)

in_order : {s : List ℕ} {us : List (List ℕ)} → Steps s us → InOrder us
in_order (done e) = InOrder.none
in_order {s} (step t e r) =
    InOrder.one (λ u a. begins-behind t (step_given s t e) (ending u (only-short r u a)) (all-behind r u a)) (in_order r)

none_skipped : {s : List ℕ} {us : List (List ℕ)} → Steps s us → (u : List ℕ) → is_short u ≡ true → comes_before s u ≡ true → Among u us
none_skipped {s} (done e) u a b = absurd (never (sym b ∙ (told s none_left e).1 u a))
none_skipped {s} (step t {ts} e r) u a b = by (comes_before t u) refl (λ f. none_skipped r u a f)
  where
    by : (q : Bool) → comes_before t u ≡ q → (comes_before t u ≡ true → Among u ts) → Among u (t ∷ ts)
    by true f on = later (on f)
    by false f on = subst (λ (v : List ℕ). Among u (v ∷ ts)) (before-total u a t (least s t e).short ((least s t e).none_between u a b) f) here

-- ---- THE THEOREM

pub all_short : (us : List (List ℕ)) → Steps [] us → AllShort us
all_short us r =
    record {
      order = in_order r;
      each = λ u a. none_skipped r u a (begins-behind [] refl (ending u a) (omega arith));
      only = only-short r;
    }

-- and the steps end: there is such a list
steps-from : (n : ℕ) (s : List ℕ) → may_be_given s ≡ true → candidates - start_of s ≤ n → (us : List (List ℕ)) × Steps s us
steps-from zero s g h = by (next_of s) refl
  where
    by : (a : Answer) → next_of s ≡ a → (us : List (List ℕ)) × Steps s us
    by (refused m) e = absurd (never (sym g ∙ (told s (refused m) e).0))
    by none_left e = ([], done e)
    by (next t) e = let o = step-on s t e in absurd (omega (arith, h, o.0, o.1))
steps-from (suc n) s g h = by (next_of s) refl (λ t i j. steps-from n t i j)
  where
    by : (a : Answer) → next_of s ≡ a → ((t : List ℕ) → may_be_given t ≡ true → candidates - start_of t ≤ n → (us : List (List ℕ)) × Steps t us) → (us : List (List ℕ)) × Steps s us
    by (refused m) e on = absurd (never (sym g ∙ (told s (refused m) e).0))
    by none_left e on = ([], done e)
    by (next t) e on =
        let o = step-on s t e in
        let r = on t (step_given s t e) (omega (arith, h, o.0, o.1)) in
        (t ∷ r.0, step t e r.1)

pub steps_end : (us : List (List ℕ)) × Steps [] us
steps_end = steps-from candidates [] refl (omega arith)
