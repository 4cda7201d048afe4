-- Laws of a real that is read nibble by nibble: what is left gives what the whole gave.
use Rattle.std.specs.Prelude.{ℕ, suc, ◌+◌, ◌-◌, ◌*◌, ◌/◌, ◌%◌, ◌≤◌, ◌<◌, ◌≡◌, refl, ◌⊎◌, Bool, true, false, List, [], ◌∷◌, ltb, eqb, length, drop, get_or, Result, Err, Option}
use Rattle.std.proofs.Common.{sym, ap, ◌∙◌, subst, inl, inr, eq-zero-or-pos, zero-add, add-one, arith, drop_of_length-le, drop-cons, ltb-true, eq-eqb, ne_eqb}
use Rattle.octets.specs.Pick.{pick, pick_ind}
use Rattle.decimal.specs.declared.Stage.{Stage}
use Rattle.decimal.specs.declared.Stage.TheVariants.{Start}
use Rattle.decimal.specs.Decimal.{zeros}
use Rattle.decimal.specs.DecimalLaws.{zeros_ten, zeros-digit, zeros-nought}
use Rattle.decimal.specs.Real.{nibbles, Text, cut, wrong, text, before, text_of, exp_digits, exponent, mantissa, form_of, value_of}
use Rattle.decimal.specs.Number.{placed, real_of, real_at, answer_of}
use Rattle.decimal.specs.Stage.{Exact, begun, in_mantissa, after_e, in_exponent, spoilt, mantissa_step, exponent_step, step_of, form_from, real_from, held_of, stage_of, Few, Counted, Ended, Going, Running, Stopped}
use Rattle.decimal.specs.RealLaws.{held_bounded}
use Rattle.decimal.specs.declared.NumberAt.{NumberAt}
use Rattle.refusal.specs.declared.Refusal.{Refusal}
use Rattle.refusal.specs.declared.Refusal.TheVariants.{Truncated, Malformed}

-- ---- a nibble more of the grammar

form_pick : (t : Bool) (a b : Exact) (xs : List ℕ) → form_from (pick t a b) xs ≡ pick t (form_from a xs) (form_from b xs)
form_pick true a b xs = refl
form_pick false a b xs = refl

form_mantissa : (s any point : Bool) (n f x : ℕ) (xs : List ℕ) → form_from (mantissa_step s any point n f x) xs ≡ mantissa s any point n f (x ∷ xs)
unfolding mantissa
form_mantissa s any point n f x xs = simp form_pick

form_exponent : (s : Bool) (n f : ℕ) (es any : Bool) (e x : ℕ) (xs : List ℕ) → form_from (exponent_step s n f es e x) xs ≡ exp_digits s n f es any e (x ∷ xs)
unfolding exp_digits
form_exponent s n f es any e x xs = simp form_pick

form_step : (g : Exact) (x : ℕ) (xs : List ℕ) → form_from (step_of g x) xs ≡ form_from g (x ∷ xs)
unfolding form_of exponent
form_step begun x xs =
    form_pick (eqb x 14) (in_mantissa true false false 0 0) (mantissa_step false false false 0 0 x) xs
    ∙ ap (pick (eqb x 14) (mantissa true false false 0 0 xs)) (form_mantissa false false false 0 0 x xs)
form_step (in_mantissa s any point n f) x xs = form_mantissa s any point n f x xs
form_step (after_e s n f) x xs =
    form_pick (eqb x 14) (in_exponent s n f true false 0) (exponent_step s n f false 0 x) xs
    ∙ ap (pick (eqb x 14) (exp_digits s n f true false 0 xs)) (form_exponent s n f false false 0 x xs)
form_step (in_exponent s n f es any e) x xs = form_exponent s n f es any e x xs
form_step spoilt x xs = refl

from-before : (g : Exact) (k p x : ℕ) (t : Text) → real_from g k p (before x t) ≡ real_from (step_of g x) (k + 1) p t
from-before g k p x cut = refl
from-before g k p x wrong = refl
from-before g k p x (text ns) =
    let e : k + suc (length ns) ≡ k + 1 + length ns = omega arith in
    rw (e, ← form_step g x ns)

-- ---- counts

zeros-step : (n x : ℕ) → x < 10 → zeros (n * 10 + x) ≤ zeros n + 1
zeros-step n x h = go (eq-zero-or-pos x) (eq-zero-or-pos n)
  where
    go : (x ≡ 0) ⊎ (0 < x) → (n ≡ 0) ⊎ (0 < n) → zeros (n * 10 + x) ≤ zeros n + 1
    go (inl e) (inl o) = let m : n * 10 + x ≡ 0 = omega arith in omega (arith, ap zeros m, zeros-nought)
    go (inl e) (inr o) = let m : n * 10 + x ≡ n * 10 = omega arith in omega (arith, ap zeros m, zeros_ten n o)
    go (inr e) o = let m : (n * 10 + x) % 10 ≡ 0 → ⊥ = λ q. omega arith in omega (arith, zeros-digit (n * 10 + x) m)

more-behind : (point : Bool) (f k : ℕ) → f ≤ k → pick point (f + 1) f ≤ k + 1
more-behind true f k h = omega arith
more-behind false f k h = omega arith

counted-mantissa : (s any point : Bool) (n f x k : ℕ) → Few n f k → Counted (mantissa_step s any point n f x) (k + 1)
counted-mantissa s any point n f x k h =
    let w : Few n f (k + 1) = (omega (arith, h.0), omega (arith, h.1)) in
    pick_ind (λ (g : Exact). Counted g (k + 1)) (ltb x 10) _ _
    (λ t. (let z = zeros-step n x (ltb-true x 10 t) in omega (arith, h.0), more-behind point f k h.1))
    (λ t. pick_ind (λ (g : Exact). Counted g (k + 1)) (eqb x 10) _ _
    (λ t. pick_ind (λ (g : Exact). Counted g (k + 1)) point spoilt (in_mantissa s any true n f) (λ t. tt) (λ t. w))
    (λ t. pick_ind (λ (g : Exact). Counted g (k + 1)) (eqb x 11) _ _
    (λ t. pick_ind (λ (g : Exact). Counted g (k + 1)) any (after_e s n f) spoilt (λ t. w) (λ t. tt))
    (λ t. pick_ind (λ (g : Exact). Counted g (k + 1)) (eqb x 12) _ spoilt
    (λ t. pick_ind (λ (g : Exact). Counted g (k + 1)) any (in_exponent s n f true false 0) spoilt (λ t. w) (λ t. tt))
    (λ t. tt))))

counted-exponent : (s : Bool) (n f : ℕ) (es : Bool) (e x k : ℕ) → Few n f k → Counted (exponent_step s n f es e x) (k + 1)
counted-exponent s n f es e x k h =
    pick_ind (λ (g : Exact). Counted g (k + 1)) (ltb x 10) (in_exponent s n f es true (e * 10 + x)) spoilt (λ t. (omega (arith, h.0), omega (arith, h.1))) (λ t. tt)

none-few : (k : ℕ) → Few 0 0 k
none-few k = (omega (arith, zeros-nought), omega arith)

counted_step : (g : Exact) (x k : ℕ) → Counted g k → Counted (step_of g x) (k + 1)
counted_step begun x k h =
    pick_ind (λ (g : Exact). Counted g (k + 1)) (eqb x 14) (in_mantissa true false false 0 0) (mantissa_step false false false 0 0 x)
    (λ t. none-few (k + 1)) (λ t. counted-mantissa false false false 0 0 x k (none-few k))
counted_step (in_mantissa s any point n f) x k h = counted-mantissa s any point n f x k h
counted_step (after_e s n f) x k h =
    pick_ind (λ (g : Exact). Counted g (k + 1)) (eqb x 14) (in_exponent s n f true false 0) (exponent_step s n f false 0 x)
    (λ t. (omega (arith, h.0), omega (arith, h.1))) (λ t. counted-exponent s n f false 0 x k h)
counted_step (in_exponent s n f es any e) x k h = counted-exponent s n f es e x k h
counted_step spoilt x k h = tt

-- ---- the next nibble

pub text_end : (x : ℕ) (xs : List ℕ) → x ≡ 15 → text_of (x ∷ xs) ≡ text []
unfolding text_of
text_end x xs e = rw (eq-eqb x 15 e)

text_wrong : (x : ℕ) (xs : List ℕ) → x ≡ 13 → text_of (x ∷ xs) ≡ wrong
unfolding text_of
text_wrong x xs e = rw e

pub text-more : (x : ℕ) (xs : List ℕ) → (x ≡ 15 → ⊥) → (x ≡ 13 → ⊥) → text_of (x ∷ xs) ≡ before x (text_of xs)
unfolding text_of
text-more x xs e f = rw (ne_eqb x 15 e, ne_eqb x 13 f)

module _ (b : List ℕ) (at : ℕ) (st : Stage) (k x : ℕ) (xs : List ℕ) (going : Going b at st k (x ∷ xs)) where
  going_end : x ≡ 15 → (bytes next : ℕ) (r : Result (Option NumberAt) Refusal) → bytes ≡ k / 2 + 1 → next ≡ at + 1 + (k / 2 + 1) → Ended st bytes next r → r ≡ answer_of (real_at b at)
  going_end e bytes next r h j t =
      let g = going.exact in
      let n : next ≡ at + 1 + ((k + 0) / 2 + 1) = omega arith in
      let m : k + 0 + 1 ≡ k + 1 = omega arith in
      t g k going.held going.counted h
      ∙ ap (λ (q : ℕ). answer_of (placed q (value_of (k + 1) (form_from g [])))) n
      ∙ ap (λ (q : ℕ). answer_of (placed (at + 1 + ((k + 0) / 2 + 1)) (value_of q (form_from g [])))) (sym m)
      ∙ ap (λ (q : Text). answer_of (real_from g k (at + 1) q)) (sym (text_end x xs e)) ∙ ap answer_of going.rest

  going_wrong : x ≡ 13 → Err Malformed ≡ answer_of (real_at b at)
  going_wrong e = ap (λ (q : Text). answer_of (real_from going.exact k (at + 1) q)) (sym (text_wrong x xs e)) ∙ ap answer_of going.rest

  going_on : (x ≡ 15 → ⊥) → (x ≡ 13 → ⊥) → (st' : Stage) → ((g : Exact) → st ≡ stage_of g → st' ≡ stage_of (step_of g x)) → Going b at st' (k + 1) xs
  going_on e f st' t =
      record {
        exact = step_of going.exact x;
        held = t going.exact going.held;
        counted = counted_step going.exact x k going.counted;
        rest =
            sym (from-before going.exact k (at + 1) x (text_of xs))
            ∙ ap (real_from going.exact k (at + 1)) (sym (text-more x xs e f)) ∙ going.rest;
      }

going-cut : (b : List ℕ) (at : ℕ) (st : Stage) (k : ℕ) → Going b at st k [] → Err Truncated ≡ answer_of (real_at b at)
unfolding text_of
going-cut b at st k going = ap answer_of going.rest

-- the counts of every stage stop
stops : (g : Exact) → Stopped (stage_of g)
stops begun = tt
stops (in_mantissa s any point n f) = held_bounded (held_of s n f) s n f refl
stops (after_e s n f) = tt
stops (in_exponent s n f es any e) = (held_bounded (held_of s n f) s n f refl, omega arith)
stops spoilt = tt

-- ---- the next byte

next-nibbles : (b : List ℕ) (p : ℕ) → p < length b → nibbles (drop p b) ≡ get_or b p 0 / 16 ∷ get_or b p 0 % 16 ∷ nibbles (drop (p + 1) b)
unfolding nibbles
next-nibbles b p h = rw (drop-cons b p 0, add-one)

no_nibbles : (b : List ℕ) (p : ℕ) → length b ≤ p → nibbles (drop p b) ≡ []
unfolding nibbles
no_nibbles b p h = rw (drop_of_length-le b h)

module _ (b : List ℕ) (at p : ℕ) (st : Stage) (run : Running b at st p) where
  pub running_over : length b ≤ p → Err Truncated ≡ answer_of (real_at b at)
  running_over h = going-cut b at st (2 * (p - (at + 1))) (subst (Going b at st (2 * (p - (at + 1)))) (no_nibbles b p h) run.going)

  pub running_stopped : Stopped st
  running_stopped = subst Stopped (sym run.going.held) (stops run.going.exact)

  module _ (h : p < length b) (v : ℕ) (e : v ≡ get_or b p 0) where
    byte : Going b at st (2 * (p - (at + 1))) (v / 16 ∷ v % 16 ∷ nibbles (drop (p + 1) b))
    byte = rw e (subst (Going b at st (2 * (p - (at + 1)))) (next-nibbles b p h) run.going)

    pub high_end : v / 16 ≡ 15 → (r : Result (Option NumberAt) Refusal) → Ended st (p - at) (p + 1) r → r ≡ answer_of (real_at b at)
    high_end q r t =
        let l = run.after in
        going_end b at st (2 * (p - (at + 1))) (v / 16) (v % 16 ∷ nibbles (drop (p + 1) b)) byte q (p - at) (p + 1) r (omega arith) (omega arith) t

    pub high_wrong : v / 16 ≡ 13 → Err Malformed ≡ answer_of (real_at b at)
    high_wrong q = going_wrong b at st (2 * (p - (at + 1))) (v / 16) (v % 16 ∷ nibbles (drop (p + 1) b)) byte q

    module _ (f : v / 16 ≡ 15 → ⊥) (w : v / 16 ≡ 13 → ⊥) (st' : Stage) (t : (g : Exact) → st ≡ stage_of g → st' ≡ stage_of (step_of g (v / 16))) where
      half : Going b at st' (2 * (p - (at + 1)) + 1) (v % 16 ∷ nibbles (drop (p + 1) b))
      half = going_on b at st (2 * (p - (at + 1))) (v / 16) (v % 16 ∷ nibbles (drop (p + 1) b)) byte f w st' t

      pub low_stopped : Stopped st'
      low_stopped = subst Stopped (sym half.held) (stops half.exact)

      pub low_end : v % 16 ≡ 15 → (r : Result (Option NumberAt) Refusal) → Ended st' (p - at) (p + 1) r → r ≡ answer_of (real_at b at)
      low_end q r u =
          let l = run.after in
          going_end b at st' (2 * (p - (at + 1)) + 1) (v % 16) (nibbles (drop (p + 1) b)) half q (p - at) (p + 1) r (omega arith) (omega arith) u

      pub low_wrong : v % 16 ≡ 13 → Err Malformed ≡ answer_of (real_at b at)
      low_wrong q = going_wrong b at st' (2 * (p - (at + 1)) + 1) (v % 16) (nibbles (drop (p + 1) b)) half q

      pub running_on : (v % 16 ≡ 15 → ⊥) → (v % 16 ≡ 13 → ⊥) → (st'' : Stage) → ((g : Exact) → st' ≡ stage_of g → st'' ≡ stage_of (step_of g (v % 16))) → Running b at st'' (p + 1)
      running_on q r st'' u =
          let l = run.after in
          let m : 2 * (p - (at + 1)) + 1 + 1 ≡ 2 * (p + 1 - (at + 1)) = omega arith in
          record {
            after = omega arith;
            within = omega arith;
            going = subst (λ (k : ℕ). Going b at st'' k (nibbles (drop (p + 1) b))) m (going_on b at st' (2 * (p - (at + 1)) + 1) (v % 16) (nibbles (drop (p + 1) b)) half q r st'' u);
          }

from_begun : (p : ℕ) (t : Text) → real_from begun 0 p t ≡ real_of p t
from_begun p cut = refl
from_begun p wrong = refl
from_begun p (text ns) = rw zero-add

whole : (b : List ℕ) (at k : ℕ) → k ≡ 0 → real_from begun k (at + 1) (text_of (nibbles (drop (at + 1) b))) ≡ real_at b at
unfolding real_at
whole b at k e = rw e (from_begun (at + 1) (text_of (nibbles (drop (at + 1) b))))

pub running_start : (b : List ℕ) (at : ℕ) → at < length b → Running b at Start (at + 1)
running_start b at h =
    record {
      after = omega arith;
      within = omega arith;
      going = record { exact = begun; held = refl; counted = tt; rest = whole b at (2 * (at + 1 - (at + 1))) (omega arith) };
    }
