-- What the calls answer, by where the next short charstring stands: one law for each way out.
use Rattle.std.specs.Prelude.{ℕ, ◌+◌, ◌-◌, ◌≤◌, ◌<◌, ◌≡◌, refl, Bool, ltb, set, Result, Ok, Err, Option, Some, None}
use Rattle.std.proofs.Common.{sym, ◌∙◌, subst, arith, lt-ltb, le-ltb, ltb-false}
use Rattle.std.proofs.Math.Path.{ap}
use Rattle.std.proofs.Math.Bool.{true, false}
use mathlib.Core.List.{List, [], ◌∷◌}
use Rattle.std.proofs.Math.ListN.{length}
use Rattle.octets.specs.Pick.{pick}
use Rattle.octets.specs.PickLaws.{both_hold, other_holds}
use Rattle.octets.specs.Lists.{all_below}
use Rattle.octets.specs.Octets.{put, Wrote}
use Rattle.octets.specs.PutLaws.{put_nil, put_one}
use Rattle.short_charstrings.specs.Short.{is_short}
use Rattle.short_charstrings.specs.Next.{Answer, refused, none_left, next, may_be_given, candidates, candidate, place_of, Found, nowhere, found, first_from_lem, start_of, answer_at, next_of, found_place, place_next, PlaceFits, Answers, Gives}
use Rattle.refusal.specs.declared.Refusal.{Refusal}
use Rattle.refusal.specs.declared.Refusal.TheVariants.{Malformed, Output}

-- ---- where the next stands

pub short-size : (s : List ℕ) → is_short s ≡ true → length s ≤ 4
unfolding is_short
short-size s e =
    let a = (both_hold (all_below 256 s) _ e).1 in
    let b = (other_holds (ltb (length s) 1) _ a).1 in
    ltb-false 4 (length s) (other_holds (ltb 4 (length s)) _ b).0

pub place-nothing : (s : List ℕ) → length s < 1 → Ok (found_place (first_from_lem (candidates - 0) 0)) ≡ place_next s
unfolding place_next
place-nothing [] h = refl
place-nothing (x ∷ xs) h = absurd (omega arith)

module _ (s : List ℕ) (h : 1 ≤ length s) where
  pub place-behind : is_short s ≡ true → (k : ℕ) → k ≡ place_of s → Ok (found_place (first_from_lem (candidates - (k + 1)) (k + 1))) ≡ place_next s
  unfolding place_next
  place-behind e k f = ap (λ (j : ℕ). Ok (found_place (first_from_lem (candidates - (j + 1)) (j + 1)))) f ∙ by s h e
    where
      by : (u : List ℕ) → 1 ≤ length u → is_short u ≡ true → Ok (found_place (first_from_lem (candidates - (place_of u + 1)) (place_of u + 1))) ≡ place_next u
      by [] i d = absurd (omega arith)
      by (x ∷ xs) i d = rw d

  pub place_refused : is_short s ≡ false → Err Malformed ≡ place_next s
  unfolding place_next
  place_refused e = by s h e
    where
      by : (u : List ℕ) → 1 ≤ length u → is_short u ≡ false → Err Malformed ≡ place_next u
      by [] i d = absurd (omega arith)
      by (x ∷ xs) i d = rw d

-- ---- the answer there

abbrev answer_for : Result (Option ℕ) Refusal → Answer
answer_for (Err e) = refused e
answer_for (Ok None) = none_left
answer_for (Ok (Some k)) = next (candidate k)

chosen : (t : Bool) (f : Found) → pick t (answer_at f) (refused Malformed) ≡ answer_for (pick t (Ok (found_place f)) (Err Malformed))
chosen true nowhere = refl
chosen true (found k) = refl
chosen false f = refl

next-placed : (s : List ℕ) → next_of s ≡ answer_for (place_next s)
unfolding next_of place_next
next-placed s = chosen (may_be_given s) (first_from_lem (candidates - start_of s) (start_of s))

pub fits-at : {p : Result (Option ℕ) Refusal} → PlaceFits p → (k : ℕ) → p ≡ Ok (Some k) → k < candidates
fits-at {p} h k e = subst PlaceFits e h

module _ (s out : List ℕ) (p : Result (Option ℕ) Refusal) (e : p ≡ place_next s) where
  told : (q : Result (Option ℕ) Refusal) → p ≡ q → next_of s ≡ answer_for q
  told q f = next-placed s ∙ ap answer_for (sym e ∙ f)

  answers_by : (q : Result (Option ℕ) Refusal) → p ≡ q → {out' : List ℕ} {r : Result (Option ℕ) Refusal} → Answers (answer_for q) out out' r → Answers (next_of s) out out' r
  answers_by q f {out'} {r} h = subst (λ (a : Answer). Answers a out out' r) (sym (told q f)) h

  pub answers_refused : (e : Refusal) → p ≡ Err e → Answers (next_of s) out out (Err e)
  answers_refused e f = answers_by (Err e) f (record { answer = refl; output = refl })

  pub answers_none : p ≡ Ok None → Answers (next_of s) out out (Ok None)
  answers_none f = answers_by (Ok None) f (record { answer = refl; output = refl })

  module _ (k : ℕ) (f : p ≡ Ok (Some k)) (m : ℕ) (g : m ≡ length (candidate k)) where
    pub answers_room : length out < m → Answers (next_of s) out out (Err Output)
    answers_room h =
        let t : ltb (length out) (length (candidate k)) ≡ true = lt-ltb (length out) (length (candidate k)) (omega (arith, g)) in
        answers_by (Ok (Some k)) f (record { answer = rw t; output = rw t })

    pub answers_next : m ≤ length out → (out' : List ℕ) (n : ℕ) → Wrote out 0 (candidate k) out' n → Answers (next_of s) out out' (Ok (Some n))
    answers_next h out' n w =
        let t : ltb (length out) (length (candidate k)) ≡ false = le-ltb (length out) (length (candidate k)) (omega (arith, g)) in
        let b : n ≡ length (candidate k) = omega (arith, w.behind) in
        answers_by (Ok (Some k)) f (record { answer = rw t (ap (λ (j : ℕ). Ok (Some j)) b); output = rw t w.is })

  -- ---- for C

  module _ (size : List ℕ) where
    gives_by : (q : Result (Option ℕ) Refusal) → p ≡ q → {out' size' : List ℕ} {r : Result Unit Refusal} → Gives (answer_for q) out out' size size' r → Gives (next_of s) out out' size size' r
    gives_by q f {out'} {size'} {r} h = subst (λ (a : Answer). Gives a out out' size size' r) (sym (told q f)) h

    pub gives_refused : (e : Refusal) → p ≡ Err e → Gives (next_of s) out out size size (Err e)
    gives_refused e f = gives_by (Err e) f (record { answer = refl; bytes = refl; count = refl })

    pub gives_no_word : p ≡ Ok None → length size < 1 → Gives (next_of s) out out size size (Err Output)
    gives_no_word f h = gives_by (Ok None) f (record { answer = rw (lt-ltb (length size) 1 h); bytes = refl; count = refl })

    pub gives_none : p ≡ Ok None → 1 ≤ length size → Gives (next_of s) out out size (set size 0 0) (Ok tt)
    gives_none f h = gives_by (Ok None) f (record { answer = rw (le-ltb (length size) 1 h); bytes = sym (put_nil out 0); count = put_one size 0 0 h })

    module _ (k : ℕ) (f : p ≡ Ok (Some k)) (m : ℕ) (g : m ≡ length (candidate k)) where
      pub gives_no_room : length out < m → Gives (next_of s) out out size size (Err Output)
      gives_no_room h =
          gives_by (Ok (Some k)) f (record { answer = rw (lt-ltb (length out) (length (candidate k)) (omega (arith, g))); bytes = refl; count = refl })

      module _ (h : m ≤ length out) where
        pub gives_room-only : length size < 1 → Gives (next_of s) out out size size (Err Output)
        gives_room-only i =
            gives_by (Ok (Some k)) f
            (record { answer = rw (le-ltb (length out) (length (candidate k)) (omega (arith, g)), lt-ltb (length size) 1 i); bytes = refl; count = refl })

        pub gives_next : 1 ≤ length size → (out' : List ℕ) (n : ℕ) → Wrote out 0 (candidate k) out' n → Gives (next_of s) out out' size (set size 0 n) (Ok tt)
        gives_next i out' n w =
            let b : n ≡ length (candidate k) = omega (arith, w.behind) in
            gives_by (Ok (Some k)) f
            (record {
              answer = rw (le-ltb (length out) (length (candidate k)) (omega (arith, g)), le-ltb (length size) 1 i);
              bytes = w.is;
              count = put_one size 0 n i ∙ ap (λ (j : ℕ). put size 0 (j ∷ [])) b;
            })
