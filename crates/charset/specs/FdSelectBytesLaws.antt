-- Laws of a written FDSelect: its length, and its ranges glyph by glyph.
use Rattle.std.specs.Prelude.{ℕ, suc, ◌+◌, ◌*◌, ◌≤◌, ◌<◌, ◌≡◌, refl, Bool, true, false, List, [], ◌∷◌, ◌++◌, length, take, drop, get_or, None, Option, Some}
use Rattle.std.proofs.Common.{sym, ap, ◌∙◌, append_assoc, append-nil, add-zero, add-one, arith, eqb-true, eq-eqb, ne_eqb, take-append-drop, take-suc, length-append, length-take-le}
use Rattle.octets.specs.Pick.{pick, pick_ind}
use Rattle.octets.specs.Octets.{bytes_of}
use Rattle.octets.specs.OctetsLaws.{length-bytes}
use Rattle.charset.specs.FdSelectBytes.{is_last, changes, fd_ranges, entry_bytes, fd_select_bytes, fd_select_len}

pub entry_length : (rs : List (ℕ × ℕ)) → length (entry_bytes rs) ≡ 3 * length rs
unfolding entry_bytes
entry_length [] = refl
entry_length (r ∷ rs) = rw length-append (omega (arith, length-bytes 2 r.0, entry_length rs))

pub select-length : (fds : List ℕ) → length (fd_select_bytes fds) ≡ fd_select_len fds
unfolding fd_select_bytes
select-length fds =
    rw (length-append, length-append)
    (omega (arith, length-bytes 2 (length (fd_ranges fds)), entry_length (fd_ranges fds), length-bytes 2 (length fds)))

pub entry-append : (rs more : List (ℕ × ℕ)) → entry_bytes (rs ++ more) ≡ entry_bytes rs ++ entry_bytes more
unfolding entry_bytes
entry-append [] more = refl
entry-append (r ∷ rs) more = rw (entry-append rs more) (sym (append_assoc (bytes_of 2 r.0) (r.1 ∷ entry_bytes rs) (entry_bytes more)))

-- ---- the ranges behind some glyphs

pub last_is : (last : Option ℕ) (fd : ℕ) → is_last last fd ≡ true → last ≡ Some fd
last_is (Some last) fd t = ap Some (eqb-true last fd t)
last_is None fd t = absurd (true_false t)
  where
    true_false : false ≡ true → ⊥
    true_false e = cc

-- the last of some FDs, and `last` where there are none
unfoldable pub last_fd : Option ℕ → List ℕ → Option ℕ
last_fd last [] = last
last_fd last (fd ∷ fds) = last_fd (Some fd) fds

pub last_snoc : (last : Option ℕ) (fds : List ℕ) (fd : ℕ) → last_fd last (fds ++ (fd ∷ [])) ≡ Some fd
unfolding last_fd
last_snoc last [] fd = refl
last_snoc last (x ∷ fds) fd = last_snoc (Some x) fds fd

both : (t : Bool) (a b c d more : List (ℕ × ℕ)) → (t ≡ true → a ≡ c ++ more) → b ≡ d ++ more → pick t a b ≡ pick t c d ++ more
both true a b c d more e f = e refl
both false a b c d more e f = f

pub changes_append : (last : Option ℕ) (g : ℕ) (fds more : List ℕ)
    → changes last g (fds ++ more) ≡ changes last g fds ++ changes (last_fd last fds) (g + length fds) more
unfolding changes last_fd
changes_append last g [] more = rw (add-zero g) refl
changes_append last g (x ∷ fds) more =
    let e : g + 1 + length fds ≡ g + suc (length fds) = omega arith in
    both (is_last last x) _ _ _ _ (changes (last_fd (Some x) fds) (g + suc (length fds)) more)
    (λ t. rw e at (changes_append last (g + 1) fds more)
    ∙ ap (λ (y : Option ℕ). changes last (g + 1) fds ++ changes (last_fd y fds) (g + suc (length fds)) more) (last_is last x t))
    (ap (λ (l : List (ℕ × ℕ)). (g, x) ∷ l) (rw e at (changes_append (Some x) (g + 1) fds more)))

-- ---- one FD more

-- the range that it starts, if any
abbrev pub added : Option ℕ → ℕ → ℕ → List (ℕ × ℕ)
added last g fd = pick (is_last last fd) [] ((g, fd) ∷ [])

pub changes_snoc : (last : Option ℕ) (g : ℕ) (fds : List ℕ) (fd : ℕ)
    → changes last g (fds ++ (fd ∷ [])) ≡ changes last g fds ++ added (last_fd last fds) (g + length fds) fd
unfolding changes
changes_snoc last g fds fd = changes_append last g fds (fd ∷ [])

not-last : (last : Option ℕ) (fd : ℕ) → (Some fd ≡ last → ⊥) → is_last last fd ≡ false
not-last None fd h = refl
not-last (Some last) fd h = ne_eqb last fd (λ e. h (ap Some (sym e)))

-- whether it starts one
module _ (fds : List ℕ) (fd : ℕ) where
  pub ranges-same : Some fd ≡ last_fd None fds → fd_ranges (fds ++ (fd ∷ [])) ≡ fd_ranges fds
  ranges-same h =
      let t : is_last (last_fd None fds) fd ≡ true = ap (λ (l : Option ℕ). is_last l fd) (sym h) ∙ eq-eqb fd fd refl in
      changes_snoc None 0 fds fd ∙ rw t (append-nil (fd_ranges fds))

  pub ranges-new : (Some fd ≡ last_fd None fds → ⊥) → fd_ranges (fds ++ (fd ∷ [])) ≡ fd_ranges fds ++ ((length fds, fd) ∷ [])
  ranges-new h =
      let t : is_last (last_fd None fds) fd ≡ false = not-last (last_fd None fds) fd h in
      let e : 0 + length fds ≡ length fds = omega arith in
      changes_snoc None 0 fds fd ∙ rw (t, e) refl

-- ---- glyph by glyph

-- glyph i behind those before it
module _ (fds : List ℕ) (i : ℕ) (h : i < length fds) where
  abbrev last : Option ℕ
  last = last_fd None (take i fds)

  abbrev fd : ℕ
  fd = get_or fds i 0

  next : take (i + 1) fds ≡ take i fds ++ (fd ∷ [])
  next = rw add-one (take-suc fds i 0 h)

  pub last-next : last_fd None (take (i + 1) fds) ≡ Some fd
  last-next = rw next (last_snoc None (take i fds) fd)

  glyphs : 0 + length (take i fds) ≡ i
  glyphs = omega (arith, length-take-le i fds (omega arith))

  ranges-next : fd_ranges (take (i + 1) fds) ≡ fd_ranges (take i fds) ++ changes last i (fd ∷ [])
  ranges-next = ap fd_ranges next ∙ rw glyphs at (changes_append None 0 (take i fds) (fd ∷ []))

  -- of the last FD
  pub same-range : is_last last fd ≡ true → fd_ranges (take (i + 1) fds) ≡ fd_ranges (take i fds)
  unfolding changes
  same-range t = ranges-next ∙ rw t (append-nil (fd_ranges (take i fds)))

  -- of another: it starts a range, which all have
  pub new-range : is_last last fd ≡ false → fd_ranges (take (i + 1) fds) ≡ fd_ranges (take i fds) ++ ((i, fd) ∷ [])
  unfolding changes
  new-range t = ranges-next ∙ rw t refl

  pub all-ranges : is_last last fd ≡ false → (more : List (ℕ × ℕ)) × (fd_ranges fds ≡ fd_ranges (take i fds) ++ ((i, fd) ∷ more))
  all-ranges t =
      let rest = drop (i + 1) fds in
      let a = changes_append None 0 (take (i + 1) fds) rest in
      let more = changes (last_fd None (take (i + 1) fds)) (0 + length (take (i + 1) fds)) rest in (
        more,
        ap fd_ranges (sym (take-append-drop (i + 1) fds)) ∙ a ∙ ap (λ (l : List (ℕ × ℕ)). l ++ more) (new-range t)
            ∙ append_assoc (fd_ranges (take i fds)) ((i, fd) ∷ []) more,
      )

-- ---- how many ranges: no more than glyphs, and no fewer with more glyphs

pub changes-few : (last : Option ℕ) (g : ℕ) (fds : List ℕ) → length (changes last g fds) ≤ length fds
unfolding changes
changes-few last g [] = omega arith
changes-few last g (fd ∷ fds) =
    pick_ind (λ (l : List (ℕ × ℕ)). length l ≤ suc (length fds)) (is_last last fd) _ _
    (λ t. omega (arith, changes-few last (g + 1) fds)) (λ t. omega (arith, changes-few (Some fd) (g + 1) fds))

pub changes-grow : (last : Option ℕ) (g : ℕ) (fds more : List ℕ) → length (changes last g fds) ≤ length (changes last g (fds ++ more))
changes-grow last g fds more =
    omega (arith, ap length (changes_append last g fds more), length-append (changes last g fds) (changes (last_fd last fds) (g + length fds) more))
