-- Laws of the walk: what is still to come, counted and hashed on from here, gives what all of them give.
use Rattle.std.specs.Prelude.{ℕ, ◌+◌, ◌*◌, ◌≤◌, ◌<◌, ◌≡◌, refl, Bool, true, false, eqb, length, take, drop, get_or, None, Option, Some, Result, Ok, Err}
use Rattle.std.proofs.Common.{sym, ◌∙◌, subst, arith, add-one, le-ltb, eqb-true, length-set, drop-cons, get_or-set_same, get_or-set_other}
use Rattle.std.proofs.Math.Path.{ap}
use mathlib.Core.List.{List, []}
use Rattle.std.proofs.lemmas.Bool.{eqb-false}
use Rattle.std.proofs.Math.Seq.{drop-length}
use Rattle.octets.specs.Pick.{pick}
use Rattle.octets.specs.Octets.{put}
use Rattle.octets.specs.ListLaws.{zeros-at}
use Rattle.octets.specs.PutLaws.{take_put, put-length}
use Rattle.refusal.specs.declared.Refusal.{Refusal}
use Rattle.refusal.specs.declared.Refusal.TheVariants.{Output}
use Rattle.short_charstrings.specs.Next.{Answer, none_left, next, candidates, start_of, next_of, answer_as, leaves, Answers}
use Rattle.short_charstrings.specs.AnswerLaws.{short-size}
use Rattle.short_charstrings.specs.AllShort.{Steps, done, step}
use Rattle.short_charstrings.specs.AllShortLaws.{step-short, step-on, steps_end}
use Rattle.short_count.specs.Count.{fnv, fnv_over, fnv_all, one_more, tally, zeros, Walked}

-- ---- the bytes of one

pub over-on : (h : ℕ) (s : List ℕ) (i : ℕ) → i < length s → fnv_over (fnv h (get_or s i 0)) (drop (i + 1) s) ≡ fnv_over h (drop i s)
unfolding fnv_over
over-on h s i l = ap (λ (j : ℕ). fnv_over (fnv h (get_or s i 0)) (drop j s)) (add-one i) ∙ sym (ap (fnv_over h) (drop-cons s i 0 l))

pub over_none : (h : ℕ) (s : List ℕ) (i : ℕ) → i ≡ length s → h ≡ fnv_over h (drop i s)
unfolding fnv_over
over_none h s i e = sym (ap (λ (j : ℕ). fnv_over h (drop j s)) e ∙ ap (fnv_over h) (drop-length s))

-- ---- one more

pub more-few : (c : List ℕ) (j i : ℕ) → j < length c → get_or (one_more c j) i 0 ≤ get_or c i 0 + 1
more-few c j i h = by (eqb i j) refl
  where
    by : (t : Bool) → eqb i j ≡ t → get_or (one_more c j) i 0 ≤ get_or c i 0 + 1
    by true e =
        let f = eqb-true i j e in
        let g : get_or (one_more c j) i 0 ≡ get_or c i 0 + 1 =
        ap (λ (k : ℕ). get_or (one_more c j) k 0) f ∙ get_or-set_same c j (get_or c j 0 + 1) 0 h ∙ ap (λ (k : ℕ). get_or c k 0 + 1) (sym f) in
        omega (arith, g)
    by false e = let g = get_or-set_other c j i (get_or c j 0 + 1) 0 (eqb-false i j e) in omega (arith, g)

-- ---- the walk

abbrev whole : List (List ℕ)
whole = steps_end.0

-- with these counts and this hash, s just counted
pub record Going (c s : List ℕ) (h : ℕ) : Type 0 where
  pub rest : List (List ℕ)
  pub steps : Steps s rest
  pub counted : tally c rest ≡ tally zeros whole
  pub hashed : fnv_all h rest ≡ fnv_all 2166136261 whole
  pub few : (i : ℕ) → get_or c i 0 ≤ 2 * start_of s
  pub size : length c ≡ 5
  pub within : start_of s ≤ candidates

pub going_as : {c s : List ℕ} {h i : ℕ} → Going c s h → i ≡ h → Going c s i
going_as {c} {s} {h} {i} g e = subst (Going c s) (sym e) g

pub going-starts : (c : List ℕ) → c ≡ zeros → Going c [] 2166136261
going-starts c e =
    subst (λ (z : List ℕ). Going z [] 2166136261) (sym e)
    (record {
      rest = whole;
      steps = steps_end.1;
      counted = refl;
      hashed = refl;
      few = λ i. let z = zeros-at 5 i in omega (arith, z);
      size = refl;
      within = omega arith;
    })

-- the next one, out', whose length is k, counted
pub record On (c s : List ℕ) (h : ℕ) (out' : List ℕ) (k : ℕ) : Type 0 where
  pub low : k ≤ 4
  pub kept : length out' ≡ 4
  pub going : Going (one_more (one_more c 0) k) (take k out') (fnv_over h (take k out'))
  pub rises : start_of s < start_of (take k out')

-- a call where there is room: none left, or the next
module _ (c s : List ℕ) (h : ℕ) (g : Going c s h) (out out' : List ℕ) (room : length out ≡ 4) (r : Result (Option ℕ) Refusal) (a : Answers (next_of s) out out' r) where
  abbrev answered : Answer → Result (Option ℕ) Refusal
  answered b = answer_as b (length out)

  -- what each answer looks like
  abbrev kind : Result (Option ℕ) Refusal → ℕ
  kind (Err n) = 0
  kind (Ok None) = 1
  kind (Ok (Some n)) = 2

  abbrev size_of : Result (Option ℕ) Refusal → ℕ
  size_of (Err n) = 0
  size_of (Ok None) = 0
  size_of (Ok (Some n)) = n

  said : (b : Answer) → next_of s ≡ b → r ≡ answered b
  said b e = a.answer ∙ ap answered e

  said_next : (t : List ℕ) → next_of s ≡ next t → r ≡ Ok (Some (length t))
  said_next t e =
      let k = short-size t (step-short s t e) in
      said (next t) e ∙ ap (λ (q : Bool). pick q (Err Output) (Ok (Some (length t)))) (le-ltb (length out) (length t) (omega (arith, k, room)))

  pub walk_ends : (q : Result (Option ℕ) Refusal) → r ≡ q → kind q < 2 → Walked c h
  unfolding tally fnv_all
  walk_ends q f k = by g.steps g.counted g.hashed
    where
      by : {us : List (List ℕ)} → Steps s us → tally c us ≡ tally zeros whole → fnv_all h us ≡ fnv_all 2166136261 whole → Walked c h
      by (done e) x y = record { all = whole; steps = steps_end.1; counted = x; hashed = y }
      by (step t {ts} e o) x y = let z : kind q ≡ 2 = ap kind (sym f ∙ said_next t e) in absurd (omega (arith, z, k))

  pub walk-on : (k : ℕ) → r ≡ Ok (Some k) → On c s h out' k
  unfolding tally fnv_all
  walk-on k f = by g.steps g.counted g.hashed
    where
      written : (t : List ℕ) → next_of s ≡ next t → out' ≡ put out 0 t
      written t e =
          let z = short-size t (step-short s t e) in
          let w : leaves (next t) out ≡ put out 0 t = ap (λ (q : Bool). pick q out (put out 0 t)) (le-ltb (length out) (length t) (omega (arith, z, room))) in
          a.output ∙ ap (λ (b : Answer). leaves b out) e ∙ w

      taken : (t : List ℕ) → next_of s ≡ next t → k ≡ length t → take k out' ≡ t
      taken t e i =
          let j : k ≡ 0 + length t = omega (arith, i) in
          ap (λ (n : ℕ). take n out') j ∙ ap (take (0 + length t)) (written t e) ∙ take_put out 0 t (omega arith)

      next-few : (t : List ℕ) → start_of s < start_of t → k ≤ 4 → (i : ℕ) → get_or (one_more (one_more c 0) k) i 0 ≤ 2 * start_of t
      next-few t l m i =
          let n = g.size in
          let p = more-few c 0 i (omega (arith, n)) in
          let o : length (one_more c 0) ≡ 5 = length-set c 0 (get_or c 0 0 + 1) ∙ n in
          let q = more-few (one_more c 0) k i (omega (arith, o, m)) in
          let u = g.few i in
          omega (arith, p, q, u, l)

      by : {us : List (List ℕ)} → Steps s us → tally c us ≡ tally zeros whole → fnv_all h us ≡ fnv_all 2166136261 whole → On c s h out' k
      by (done e) x y = let z : kind (Ok (Some k)) ≡ 1 = ap kind (sym f ∙ said none_left e) in absurd (omega (arith, z))
      by (step t {ts} e o) x y =
          let i : k ≡ length t = ap size_of (sym f ∙ said_next t e) in
          let w = taken t e i in
          let m = short-size t (step-short s t e) in
          let l = step-on s t e in
          record {
            low = omega (arith, i, m);
            kept = ap length (written t e) ∙ put-length out 0 t (omega (arith, m, room)) ∙ room;
            going =
                subst (λ (u : List ℕ). Going (one_more (one_more c 0) k) u (fnv_over h u)) (sym w)
                (record {
                  rest = ts;
                  steps = o;
                  counted = ap (λ (j : ℕ). tally (one_more (one_more c 0) j) ts) i ∙ x;
                  hashed = y;
                  few = next-few t l.0 (omega (arith, i, m));
                  size = length-set (one_more c 0) k _ ∙ length-set c 0 _ ∙ g.size;
                  within = l.1;
                });
            rises = subst (λ (u : List ℕ). start_of s < start_of u) (sym w) l.0;
          }
