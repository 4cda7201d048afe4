-- Laws of the answers to stored cases of subsetting, by the code's ways out.
use Rattle.std.specs.Prelude.{ℕ, ◌+◌, ◌-◌, ◌*◌, ◌≤◌, ◌<◌, ◌≡◌, Bool, drop, None, Option, Some, Result}
use Rattle.std.proofs.Math.Path.{sym, ap}
use Rattle.std.proofs.Common.{◌∙◌, subst, length-take, length-drop, take_all}
use Rattle.std.proofs.Math.Bool.{false}
use mathlib.Core.List.{List}
use native.Mathlib.Omega.{arith}
use Rattle.std.proofs.Math.ListN.{length, take, get_or}
use borrow.Author.Tests.{ne_eqb, lt-ltb, le-ltb}
use Rattle.octets.specs.Octets.{num_at, Wrote}
use Rattle.refusal.specs.declared.Refusal.{Refusal}
use Rattle.cases.specs.AnswersLaws.{wrote-front}
use Rattle.cases.specs.Inputs.{font_input, over}
use Rattle.sheet.specs.Sheet.{pairs}
use Rattle.sheet.specs.ReadingLaws.{pairs-length}
use Rattle.subset.specs.Cut.{cut_of}
use Rattle.outcome.specs.Entry.{Cuts}
use Rattle.outcome.specs.declared.Subsetted.{Subsetted}
use Rattle.subset_cases.specs.SubsetCases.{outcome_bytes, lent_answer, kept_answer, named_answer, asked_answer, subset_answer}

-- a call of a keying
pub cuts_as : {a b : Bool} {font name keep rec : List ℕ} {flag : ℕ} {work out work' out' : List ℕ} {r : Result Subsetted Refusal}
    → Cuts a false font name keep rec flag work out work' out' r → b ≡ a → Cuts b false font name keep rec flag work out work' out' r
cuts_as {font = font} {name = name} {keep = keep} {rec = rec} {flag = flag} {work = work} {out = out} {work' = work'} {out' = out'} {r = r} c e =
    subst (λ (x : Bool). Cuts x false font name keep rec flag work out work' out' r) (sym e) c

-- a part from a place on, as the code lends it
rest : (n : ℕ) (s : List ℕ) → take (length s - n) (drop n s) ≡ drop n s
rest n s = take_all (length s - n) (drop n s) (rw length-drop (omega arith))

-- ---- the flag, what is lent, and the record

module _ (cid : Bool) (font name keep s : List ℕ) where
  pub lent-short : length s < 5 → lent_answer cid font name keep s ≡ None
  unfolding lent_answer
  lent-short h = rw (lt-ltb (length s) 5 h)

  module _ (h : 5 ≤ length s) (words : ℕ) (e : words ≡ num_at s 1 2) where
    pub lent-words : 1024 < words → lent_answer cid font name keep s ≡ None
    unfolding lent_answer
    lent-words k =
        let l : 1024 < num_at s 1 2 = omega (arith, e) in
        rw (le-ltb (length s) 5 h, lt-ltb 1024 (num_at s 1 2) l)

    module _ (k : words ≤ 1024) (room : ℕ) (f : room ≡ num_at s 3 2) where
      pub lent-room : 4094 < room → lent_answer cid font name keep s ≡ None
      unfolding lent_answer
      lent-room m =
          let l : num_at s 1 2 ≤ 1024 = omega (arith, e) in
          let n : 4094 < num_at s 3 2 = omega (arith, f) in
          rw (le-ltb (length s) 5 h, le-ltb 1024 (num_at s 1 2) l, lt-ltb 4094 (num_at s 3 2) n)

      -- as many words and bytes as the code lends
      pub lent_found : room ≤ 4094 → (w o : ℕ) → w ≡ words → o ≡ room
          → lent_answer cid font name keep s ≡ Some (outcome_bytes (cut_of cid false font name keep (take (length s - 5) (drop 5 s)) (get_or s 0 0) w o))
      unfolding lent_answer
      lent_found m w o i j =
          let l : num_at s 1 2 ≤ 1024 = omega (arith, e) in
          let n : num_at s 3 2 ≤ 4094 = omega (arith, f) in
          let p : num_at s 1 2 ≡ w = sym (i ∙ e) in
          let q : num_at s 3 2 ≡ o = sym (j ∙ f) in
          rw (le-ltb (length s) 5 h, le-ltb 1024 (num_at s 1 2) l, le-ltb 4094 (num_at s 3 2) n)
          (ap (λ (x : List ℕ). Some (outcome_bytes (cut_of cid false font name keep x (get_or s 0 0) (num_at s 1 2) (num_at s 3 2)))) (sym (rest 5 s))
          ∙ ap (λ (x : ℕ). Some (outcome_bytes (cut_of cid false font name keep (take (length s - 5) (drop 5 s)) (get_or s 0 0) x (num_at s 3 2)))) p
          ∙ ap (λ (x : ℕ). Some (outcome_bytes (cut_of cid false font name keep (take (length s - 5) (drop 5 s)) (get_or s 0 0) w x))) q)

-- ---- the numbers that are kept

-- they have room in 256
pub kept-room : (n : ℕ) (s : List ℕ) → n ≤ 256 → length (pairs (take (2 + 2 * n - 2) (drop 2 s))) ≤ 256
kept-room n s h =
    let part = take (2 + 2 * n - 2) (drop 2 s) in
    omega (arith, pairs-length part, length-take (2 + 2 * n - 2) (drop 2 s))

module _ (cid : Bool) (font name s : List ℕ) where
  pub kept-short : length s < 2 → kept_answer cid font name s ≡ None
  unfolding kept_answer
  kept-short h = rw (lt-ltb (length s) 2 h)

  module _ (h : 2 ≤ length s) (n : ℕ) (e : n ≡ num_at s 0 2) where
    pub kept_many : 256 < n → kept_answer cid font name s ≡ None
    unfolding kept_answer
    kept_many k =
        let l : 256 < num_at s 0 2 = omega (arith, e) in
        rw (le-ltb (length s) 2 h, lt-ltb 256 (num_at s 0 2) l)

    module _ (k : n ≤ 256) where
      pub kept-cut : length s < 2 + 2 * n → kept_answer cid font name s ≡ None
      unfolding kept_answer
      kept-cut l =
          let i : num_at s 0 2 ≤ 256 = omega (arith, e) in
          let j : length s < 2 + 2 * num_at s 0 2 = omega (arith, e) in
          rw (le-ltb (length s) 2 h, le-ltb 256 (num_at s 0 2) i, lt-ltb (length s) (2 + 2 * num_at s 0 2) j)

      -- the numbers and what is behind them, as the code lends them
      pub kept-found : 2 + 2 * n ≤ length s → (old new : List ℕ) (m : ℕ) → Wrote old 0 (pairs (take (2 + 2 * n - 2) (drop 2 s))) new m
          → kept_answer cid font name s ≡ lent_answer cid font name (take m new) (take (length s - (2 + 2 * n)) (drop (2 + 2 * n) s))
      unfolding kept_answer
      kept-found l old new m w =
          let i : num_at s 0 2 ≤ 256 = omega (arith, e) in
          let j : 2 + 2 * num_at s 0 2 ≤ length s = omega (arith, e) in
          let d : 2 * n ≡ 2 + 2 * n - 2 = omega arith in
          let p : pairs (take (2 * n) (drop 2 s)) ≡ take m new = ap (λ (x : ℕ). pairs (take x (drop 2 s))) d ∙ sym (wrote-front w) in
          rw (le-ltb (length s) 2 h, le-ltb 256 (num_at s 0 2) i, le-ltb (length s) (2 + 2 * num_at s 0 2) j)
          (ap (λ (x : ℕ). lent_answer cid font name (pairs (take (2 * x) (drop 2 s))) (drop (2 + 2 * x) s)) (sym e)
          ∙ ap (λ (x : List ℕ). lent_answer cid font name x (drop (2 + 2 * n) s)) p
          ∙ ap (lent_answer cid font name (take m new)) (sym (rest (2 + 2 * n) s)))

-- ---- the name

module _ (cid : Bool) (font s : List ℕ) where
  pub named-short : length s < 1 → named_answer cid font s ≡ None
  unfolding named_answer
  named-short h = rw (lt-ltb (length s) 1 h)

  module _ (h : 1 ≤ length s) (n : ℕ) (e : n ≡ get_or s 0 0) where
    pub named-cut : length s < 1 + n → named_answer cid font s ≡ None
    unfolding named_answer
    named-cut l =
        let k : length s < 1 + get_or s 0 0 = omega (arith, e) in
        rw (le-ltb (length s) 1 h, lt-ltb (length s) (1 + get_or s 0 0) k)

    pub named-found : 1 + n ≤ length s
        → named_answer cid font s ≡ kept_answer cid font (take (1 + n - 1) (drop 1 s)) (take (length s - (1 + n)) (drop (1 + n) s))
    unfolding named_answer
    named-found l =
        let k : 1 + get_or s 0 0 ≤ length s = omega (arith, e) in
        let d : n ≡ 1 + n - 1 = omega arith in
        rw (le-ltb (length s) 1 h, le-ltb (length s) (1 + get_or s 0 0) k)
        (ap (λ (x : ℕ). kept_answer cid font (take x (drop 1 s)) (drop (1 + x) s)) (sym e)
        ∙ ap (λ (x : ℕ). kept_answer cid font (take x (drop 1 s)) (drop (1 + n) s)) d
        ∙ ap (kept_answer cid font (take (1 + n - 1) (drop 1 s))) (sym (rest (1 + n) s)))

-- ---- by the kind, and an input

pub asked-none : (b : ℕ) (font asked : List ℕ) → (b ≡ 83 → ⊥) → (b ≡ 68 → ⊥) → asked_answer b font asked ≡ None
unfolding asked_answer
asked-none b font asked p q = simp (ne_eqb b 83 p, ne_eqb b 68 q)

pub subset_parts : (kind : ℕ) (s : List ℕ) (o : Option (List ℕ × List ℕ)) → o ≡ font_input s → over (asked_answer kind) o ≡ subset_answer kind s
unfolding subset_answer
subset_parts kind s o e = ap (over (asked_answer kind)) e
