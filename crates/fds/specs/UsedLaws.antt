-- Laws of the FDs in use: the next one stands last among them, and together their locals take no more words than those of the font.
use Prim.Native.Nat.{ℕ, zero, suc, ◌+◌, ◌≤◌}
use Rattle.std.specs.Prelude.{◌≡◌, Bool, true, false, not, length, take, get_or}
use Rattle.std.proofs.Math.Path.{refl, sym, ap}
use Rattle.std.proofs.Common.{◌∙◌, eq-eqb, ne_eqb}
use Rattle.std.proofs.lemmas.Bool.{false≢true}
use mathlib.Core.List.{List, [], ◌∷◌, ◌++◌, append-nil, append_assoc}
use native.Mathlib.Omega.{arith}
use Rattle.std.proofs.Math.ListN.{length-append}
use Rattle.octets.specs.Pick.{pick}
use Rattle.unfold.specs.Unfold.{Row}
use Rattle.cff.specs.Font.{Private, Program, empty_private}
use Rattle.cff.specs.Find.{locals_words}
use Rattle.subset.specs.Kept.{those, locals_of}
use Rattle.subset.specs.Pruned.{local_set}
use Rattle.bits.specs.Bits.{words_for, below}
use Rattle.bits.specs.WordsLaws.{words-length}
use Rattle.fds.specs.Locals.{in_use_lem, used_below, locals_for, fd_bits, bits_for, numbered, all_numbered}

-- ---- tests one after the other

pub both-last : (t u v : Bool) → pick t (pick u v false) false ≡ pick (pick t u false) v false
both-last true u v = refl
both-last false u v = refl

pub one_last : (t : Bool) → pick t true false ≡ t
one_last true = refl
one_last false = refl

-- ---- in use or not

-- an FD in use is another than one that is not
pub unused_apart : (used : List ℕ) (f fd : ℕ) → in_use_lem used fd ≡ false → f ≡ fd → in_use_lem used f ≡ true → ⊥
unused_apart used f fd e s t = false≢true (sym e ∙ ap (in_use_lem used) (sym s) ∙ t)

-- ---- those that pass a test

one-front : (t : Bool) (g : ℕ) (xs ys : List ℕ) → pick t (g ∷ (xs ++ ys)) (xs ++ ys) ≡ pick t (g ∷ xs) xs ++ ys
one-front true g xs ys = refl
one-front false g xs ys = refl

-- one number more
pub those-last : (test : ℕ → Bool) (n g : ℕ) → those test (n + 1) g ≡ those test n g ++ pick (test (g + n)) ((g + n) ∷ []) []
unfolding those
those-last test zero g = ap (λ (k : ℕ). pick (test k) (k ∷ []) []) (let e : g ≡ g + 0 = omega arith in e)
those-last test (suc n) g =
    let m : suc n + 1 ≡ suc (n + 1) = omega arith in
    let i : those test (n + 1) (g + 1) ≡ those test n (g + 1) ++ pick (test (g + suc n)) ((g + suc n) ∷ []) []
    = those-last test n (g + 1) ∙ ap (λ (k : ℕ). those test n (g + 1) ++ pick (test k) (k ∷ []) []) (let e : g + 1 + n ≡ g + suc n = omega arith in e) in
    ap (λ (k : ℕ). those test k g) m
    ∙ ap (λ (l : List ℕ). pick (test g) (g ∷ l) l) i
    ∙ one-front (test g) g (those test n (g + 1)) (pick (test (g + suc n)) ((g + suc n) ∷ []) [])

-- ---- a table

pub not_used : (used : List ℕ) (f : ℕ) → get_or used f 0 ≡ 0 → in_use_lem used f ≡ false
not_used used f e = ap not (eq-eqb (get_or used f 0) 0 e)

pub is_used : (used : List ℕ) (f : ℕ) → (get_or used f 0 ≡ 0 → ⊥) → in_use_lem used f ≡ true
is_used used f h = ap not (ne_eqb (get_or used f 0) 0 h)

next_is : (used : List ℕ) (f : ℕ) (t : Bool) → in_use_lem used f ≡ t → used_below used (f + 1) ≡ used_below used f ++ pick t (f ∷ []) []
next_is used f t e =
    let z : 0 + f ≡ f = omega arith in
    those-last (in_use_lem used) f 0
    ∙ ap (λ (k : ℕ). used_below used f ++ pick (in_use_lem used k) (k ∷ []) []) z
    ∙ ap (λ (u : Bool). used_below used f ++ pick u (f ∷ []) []) e

-- an FD in use stands behind those below it; another one is passed over
pub used-next : (used : List ℕ) (f : ℕ) → in_use_lem used f ≡ true → used_below used (f + 1) ≡ used_below used f ++ (f ∷ [])
used-next used f e = next_is used f true e

pub unused_next : (used : List ℕ) (f : ℕ) → in_use_lem used f ≡ false → used_below used (f + 1) ≡ used_below used f
unused_next used f e = next_is used f false e ∙ append-nil (used_below used f)

-- ---- one FD more

module _ (p : Program) (rows : List Row) where
  pub locals-last : (fs : List ℕ) (f : ℕ) → locals_for p (fs ++ (f ∷ [])) ≡ locals_for p fs + words_for (length (locals_of p f))
  unfolding locals_for
  locals-last [] f = omega arith
  locals-last (x ∷ fs) f = omega (arith, locals-last fs f)

  pub bits_last : (fs : List ℕ) (f : ℕ) → bits_for p rows (fs ++ (f ∷ [])) ≡ bits_for p rows fs ++ fd_bits p rows f
  unfolding bits_for
  bits_last [] f = append-nil (fd_bits p rows f)
  bits_last (x ∷ fs) f =
      ap (λ (l : List ℕ). fd_bits p rows x ++ l) (bits_last fs f) ∙ sym (append_assoc (fd_bits p rows x) (bits_for p rows fs) (fd_bits p rows f))

  pub numbered-last : (fs : List ℕ) (f : ℕ) → all_numbered p rows (fs ++ (f ∷ [])) ≡ pick (all_numbered p rows fs) (numbered p rows f) false
  unfolding all_numbered
  numbered-last [] f = one_last (numbered p rows f)
  numbered-last (x ∷ fs) f =
      ap (λ (t : Bool). pick (numbered p rows x) t false) (numbered-last fs f) ∙ both-last (numbered p rows x) (all_numbered p rows fs) (numbered p rows f)

  -- the words are as many as the locals take
  pub bits_length : (fs : List ℕ) → length (bits_for p rows fs) ≡ locals_for p fs
  unfolding bits_for locals_for
  bits_length [] = refl
  bits_length (f ∷ fs) =
      omega (arith, length-append (fd_bits p rows f) (bits_for p rows fs), words-length (below (local_set rows f) (length (locals_of p f))) 0 (words_for (length (locals_of p f))), bits_length fs)

-- ---- no more words than the locals of the font take

total-next : (ps : List Private) (n : ℕ) → locals_words (take (n + 1) ps) ≡ locals_words (take n ps) + words_for (length (get_or ps n empty_private).locals)
unfolding locals_words
total-next [] zero = omega arith
total-next [] (suc n) = ap (λ (k : ℕ). locals_words (take k [])) (let e : suc n + 1 ≡ suc (n + 1) = omega arith in e)
total-next (q ∷ ps) zero = omega arith
total-next (q ∷ ps) (suc n) =
    let e : suc n + 1 ≡ suc (n + 1) = omega arith in
    let f : locals_words (take (suc n + 1) (q ∷ ps)) ≡ words_for (length q.locals) + locals_words (take (n + 1) ps) = ap (λ (k : ℕ). locals_words (take k (q ∷ ps))) e in
    omega (arith, total-next ps n)

total-part : (ps : List Private) (n : ℕ) → locals_words (take n ps) ≤ locals_words ps
unfolding locals_words
total-part ps zero = omega arith
total-part [] (suc n) = omega arith
total-part (q ∷ ps) (suc n) = omega (arith, total-part ps n)

module _ (p : Program) (used : List ℕ) where
  some-few : (n : ℕ) (t : Bool) → in_use_lem used n ≡ t → locals_for p (used_below used (n + 1)) ≤ locals_for p (used_below used n) + words_for (length (locals_of p n))
  some-few n true e = omega (arith, ap (locals_for p) (used-next used n e), locals-last p [] (used_below used n) n)
  some-few n false e = omega (arith, ap (locals_for p) (unused_next used n e))

  part-few : (n : ℕ) → locals_for p (used_below used n) ≤ locals_words (take n p.privates)
  unfolding those locals_for
  part-few zero = omega arith
  part-few (suc n) =
      let e : n + 1 ≡ suc n = omega arith in
      let a : locals_for p (used_below used (n + 1)) ≡ locals_for p (used_below used (suc n)) = ap (λ (k : ℕ). locals_for p (used_below used k)) e in
      let b : locals_words (take (n + 1) p.privates) ≡ locals_words (take (suc n) p.privates) = ap (λ (k : ℕ). locals_words (take k p.privates)) e in
      omega (arith, part-few n, some-few n (in_use_lem used n) refl, total-next p.privates n)

  pub locals-few : (n : ℕ) → locals_for p (used_below used n) ≤ locals_words p.privates
  locals-few n = omega (arith, part-few n, total-part p.privates n)

  -- the locals of an FD in use stand within
  pub locals-within : (f : ℕ) → in_use_lem used f ≡ true → locals_for p (used_below used f) + words_for (length (locals_of p f)) ≤ locals_words p.privates
  locals-within f e = omega (arith, locals-few (f + 1), ap (locals_for p) (used-next used f e), locals-last p [] (used_below used f) f)
