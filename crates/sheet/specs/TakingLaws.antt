-- Laws of taking: a byte at a time.
use Rattle.std.specs.Prelude.{ℕ, ◌+◌, ◌≤◌, ◌<◌, ◌≡◌, refl, true, false, List, [], ◌∷◌, ◌++◌, eqb, length, take, set, get_or}
use Rattle.std.proofs.Common.{sym, ap, ◌∙◌, subst, append_assoc, append-nil, arith, add-one, length-append, take-suc-set, take-suc, take_all}
use borrow.Author.Tests.{eq-eqb, ne_eqb, lt-ltb, le-ltb}
use Rattle.sheet.specs.Taking.{next_mode, ends_empty, kept_of, squeezed, mode_after, Held, whole, over, Took}

-- ---- where a byte stands, by the code's tests

module _ (mode b : ℕ) where
  pub mode_head : b ≡ 10 → mode < 4 → mode + 1 ≡ next_mode mode b
  unfolding next_mode
  mode_head e h = rw (eq-eqb b 10 e, lt-ltb mode 4 h)

  pub mode_row : b ≡ 10 → 4 ≤ mode → 4 ≡ next_mode mode b
  unfolding next_mode
  mode_row e h = rw (eq-eqb b 10 e, le-ltb mode 4 h)

  pub mode_within : (b ≡ 10 → ⊥) → mode ≡ 4 → 5 ≡ next_mode mode b
  unfolding next_mode
  mode_within n e = rw (ne_eqb b 10 n, eq-eqb mode 4 e)

  pub mode_same : (b ≡ 10 → ⊥) → (mode ≡ 4 → ⊥) → mode ≡ next_mode mode b
  unfolding next_mode
  mode_same n k = rw (ne_eqb b 10 n, ne_eqb mode 4 k)

  pub empty-feed : b ≡ 10 → eqb mode 4 ≡ ends_empty mode b
  unfolding ends_empty
  empty-feed e = rw (eq-eqb b 10 e)

  pub empty_not : (b ≡ 10 → ⊥) → false ≡ ends_empty mode b
  unfolding ends_empty
  empty_not n = rw (ne_eqb b 10 n)

  kept-none : ends_empty mode b ≡ true → kept_of mode b ≡ []
  unfolding kept_of
  kept-none e = rw e

  kept-one : ends_empty mode b ≡ false → kept_of mode b ≡ b ∷ []
  unfolding kept_of
  kept-one e = rw e

-- ---- one more byte

module _ (mode b len : ℕ) (buffer kept : List ℕ) where
  held_as : (more : List ℕ) (new : List ℕ) (n : ℕ) → kept_of mode b ≡ more → Held (kept ++ more) n new → Held (kept ++ kept_of mode b) n new
  held_as more new n e h = subst (λ (l : List ℕ). Held (kept ++ l) n new) (sym e) h

  pub held-dropped : ends_empty mode b ≡ true → Held kept len buffer → Held (kept ++ kept_of mode b) len buffer
  held-dropped e h = held_as [] buffer len (kept-none mode b e) (subst (λ (l : List ℕ). Held l len buffer) (sym (append-nil kept)) h)

  pub held-stored : ends_empty mode b ≡ false → len < 48134 → 48134 ≤ length buffer → Held kept len buffer
      → Held (kept ++ kept_of mode b) (len + 1) (set buffer len b)
  held-stored e h r (whole n m t) =
      let k : len < length buffer = omega arith in
      let s : take (len + 1) (set buffer len b) ≡ kept ++ (b ∷ []) = (ap (λ (j : ℕ). take j (set buffer len b)) (add-one len)) ∙ take-suc-set buffer len b k ∙ ap (λ (l : List ℕ). l ++ (b ∷ [])) t in
      held_as (b ∷ []) (set buffer len b) (len + 1) (kept-one mode b e) (whole (rw length-append (omega (arith, n))) (omega arith) s)
  held-stored e h r (over n m) = absurd (omega (arith, n))

  pub held-over : ends_empty mode b ≡ false → 48134 ≤ len → Held kept len buffer → Held (kept ++ kept_of mode b) 48135 buffer
  held-over e h (whole n m t) = held_as (b ∷ []) buffer 48135 (kept-one mode b e) (over refl (rw length-append (omega (arith, n))))
  held-over e h (over n m) = held_as (b ∷ []) buffer 48135 (kept-one mode b e) (over refl (rw length-append (omega (arith, m))))

squeezed-more : (mode : ℕ) (t : List ℕ) (b : ℕ) → squeezed mode (t ++ (b ∷ [])) ≡ squeezed mode t ++ kept_of (mode_after mode t) b
unfolding squeezed mode_after
squeezed-more mode [] b = append-nil _
squeezed-more mode (x ∷ t) b =
    ap (λ (l : List ℕ). kept_of mode x ++ l) (squeezed-more (next_mode mode x) t b)
    ∙ sym (append_assoc (kept_of mode x) (squeezed (next_mode mode x) t) (kept_of (mode_after (next_mode mode x) t) b))

mode_more : (mode : ℕ) (t : List ℕ) (b : ℕ) → mode_after mode (t ++ (b ∷ [])) ≡ next_mode (mode_after mode t) b
unfolding mode_after
mode_more mode [] b = refl
mode_more mode (x ∷ t) b = mode_more (next_mode mode x) t b

pub took_more : (text : List ℕ) (len mode b : ℕ) (buffer : List ℕ) (len' mode' : ℕ) (buffer' : List ℕ) → Took text len mode buffer
    → ((kept : List ℕ) → Held kept len buffer → Held (kept ++ kept_of mode b) len' buffer') → mode' ≡ next_mode mode b
    → Took (text ++ (b ∷ [])) len' mode' buffer'
took_more text len mode b buffer len' mode' buffer' t f e =
    let s : squeezed 0 text ++ kept_of mode b ≡ squeezed 0 (text ++ (b ∷ []))
    = ap (λ (m : ℕ). squeezed 0 text ++ kept_of m b) t.stands ∙ sym (squeezed-more 0 text b) in
    record {
      stands = e ∙ ap (λ (m : ℕ). next_mode m b) t.stands ∙ sym (mode_more 0 text b);
      held = subst (λ (l : List ℕ). Held l len' buffer') s (f (squeezed 0 text) t.held);
    }

-- ---- a piece

-- nothing is taken yet
pub took_none : (buffer : List ℕ) → Took [] 0 0 buffer
unfolding squeezed mode_after
took_none buffer = record { stands = refl; held = whole refl (omega arith) refl }

pub took_start : (text piece : List ℕ) (len mode : ℕ) (buffer : List ℕ) → Took text len mode buffer → Took (text ++ take 0 piece) len mode buffer
took_start text piece len mode buffer t = subst (λ (l : List ℕ). Took l len mode buffer) (sym (append-nil text)) t

pub took_next : (text piece : List ℕ) (i len mode : ℕ) (buffer : List ℕ) → i < length piece → Took ((text ++ take i piece) ++ (get_or piece i 0 ∷ [])) len mode buffer
    → Took (text ++ take (i + 1) piece) len mode buffer
took_next text piece i len mode buffer h t =
    let e : take i piece ++ (get_or piece i 0 ∷ []) ≡ take (i + 1) piece = sym (take-suc piece i 0 h) ∙ rw add-one in
    subst (λ (l : List ℕ). Took l len mode buffer) (append_assoc text (take i piece) (get_or piece i 0 ∷ []) ∙ ap (λ (l : List ℕ). text ++ l) e) t

pub took_all : (text piece : List ℕ) (i len mode : ℕ) (buffer : List ℕ) → length piece ≤ i → Took (text ++ take i piece) len mode buffer
    → Took (text ++ piece) len mode buffer
took_all text piece i len mode buffer h t = subst (λ (l : List ℕ). Took (text ++ l) len mode buffer) (take_all i piece h) t
