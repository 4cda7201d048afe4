-- Laws of the search by halves through the ranges of an FDSelect of format 3, whose ends never fall, and of format 0's direct way.
use Rattle.std.specs.Prelude.{ℕ, zero, suc, ◌+◌, ◌-◌, ◌*◌, ◌≤◌, ◌<◌, ◌≡◌, refl, List, length, drop, get_or, Ok}
use Rattle.std.proofs.Math.Path.{sym, ap}
use Rattle.std.proofs.Common.{◌∙◌, subst, add-zero, sub-one, arith}
use Rattle.octets.specs.Octets.{num_at}
use Rattle.charset.specs.FdSelect.{range_end, fd_in, ranges_refusal}
use Rattle.charset.specs.FdPlaces.{fd_of, GoodSelect}
use Rattle.charset.specs.FdLaws.{end_one, end_two, ranges-rise, fd-none, fd-before, fd-here, fd-behind}
use Rattle.charset.specs.declared.fd_select.FdSelect.{FdSelect}

-- where the j-th of the ranges from p on ends
abbrev pub end_at : List ℕ → ℕ → ℕ → ℕ
end_at b p j = num_at b (p + 3 * j + 1) 2

-- k ranges from p on that are not refused, the first of which starts at glyph f
module _ (b : List ℕ) where
  first_end : (p f : ℕ) → range_end 2 f (drop p b) ≡ end_at b p 0
  first_end p f = let e : p + 1 ≡ p + 3 * 0 + 1 = omega arith in sym (end_two b p f) ∙ ap (λ (i : ℕ). num_at b i 2) e

  behind-first : (p k f : ℕ) → 0 < k → ranges_refusal 2 k f (drop p b) ≡ Ok tt → ranges_refusal 2 (k - 1) (end_at b p 0) (drop (p + 3) b) ≡ Ok tt
  behind-first p k f some h =
      let a : p + 1 + 2 ≡ p + 3 = omega arith in
      rw (first_end p f, a) at (ranges-rise b p 2 k f some h).rest

  next_end : (p j : ℕ) → end_at b (p + 3) j ≡ end_at b p (suc j)
  next_end p j = let e : p + 3 + 3 * j + 1 ≡ p + 3 * suc j + 1 = omega arith in ap (λ (i : ℕ). num_at b i 2) e

  ends_there : (p k f j : ℕ) → ranges_refusal 2 k f (drop p b) ≡ Ok tt → j < k → p + 3 * j + 3 ≤ length b
  ends_there p k f zero h m = omega (arith, (ranges-rise b p 2 k f m h).there)
  ends_there p k f (suc j) h m = omega (arith, ends_there (p + 3) (k - 1) (end_at b p 0) j (behind-first p k f (omega arith) h) (omega arith))

  ends_above : (p k f j : ℕ) → ranges_refusal 2 k f (drop p b) ≡ Ok tt → j < k → f ≤ end_at b p j
  ends_above p k f zero h m = omega (arith, (ranges-rise b p 2 k f m h).rises, first_end p f)
  ends_above p k f (suc j) h m =
      omega (
        arith,
        (ranges-rise b p 2 k f (omega arith) h).rises,
        first_end p f,
        next_end p j,
        ends_above (p + 3) (k - 1) (end_at b p 0) j (behind-first p k f (omega arith) h) (omega arith),
      )

  -- a glyph behind the first j + 1 of them
  pass : (p k f g j : ℕ) → ranges_refusal 2 k f (drop p b) ≡ Ok tt → j < k → f ≤ g → end_at b p j ≤ g
      → (fd_in 2 (k - (j + 1)) (end_at b p j) (drop (p + 3 * (j + 1)) b) g ≡ fd_in 2 k f (drop p b) g)
      × (ranges_refusal 2 (k - (j + 1)) (end_at b p j) (drop (p + 3 * (j + 1)) b) ≡ Ok tt)
  pass p k f g zero h m n e =
      let z = first_end p f in
      let a : p + 1 + 2 ≡ p + 3 = omega arith in
      let o : fd_in 2 k f (drop p b) g ≡ fd_in 2 (k - 1) (end_at b p 0) (drop (p + 3) b) g
      = rw (z, a) at (fd-behind b p 2 k f g m n (omega arith)) in
      (sym o, behind-first p k f m h)
  pass p k f g (suc j) h m n e =
      let z = first_end p f in
      let s = behind-first p k f (omega arith) h in
      let y = next_end p j in
      let t = ends_above (p + 3) (k - 1) (end_at b p 0) j s (omega arith) in
      let a : p + 1 + 2 ≡ p + 3 = omega arith in
      let o : fd_in 2 k f (drop p b) g ≡ fd_in 2 (k - 1) (end_at b p 0) (drop (p + 3) b) g
      = rw (z, a) at (fd-behind b p 2 k f g (omega arith) n (omega arith)) in
      let c : k - 1 - (j + 1) ≡ k - (suc j + 1) = omega arith in
      let d : p + 3 + 3 * (j + 1) ≡ p + 3 * (suc j + 1) = omega arith in
      let r = rw (y, c, d) at (pass (p + 3) (k - 1) (end_at b p 0) g j s (omega arith) (omega arith) (omega arith)) in
      (r.0 ∙ sym o, r.1)

-- ---- the search

-- the FD of glyph gid is that of the first range from low on that ends behind it, and that is one of those below high, or none is
pub record Searches (b : List ℕ) (at count first gid low high : ℕ) : Type 0 where
  pub order : low ≤ high
  pub most : high ≤ count
  pub start : ℕ
  pub started : start ≤ gid
  pub same : fd_in 2 (count - low) start (drop (at + 3 * low) b) gid ≡ fd_in 2 count first (drop at b) gid
  pub sound : ranges_refusal 2 (count - low) start (drop (at + 3 * low) b) ≡ Ok tt
  pub above : high < count → gid < end_at b at high

pub search_start : (b : List ℕ) (at count first gid : ℕ) → first ≤ gid → ranges_refusal 2 count first (drop at b) ≡ Ok tt
    → Searches b at count first gid 0 count
search_start b at count first gid h s =
    let c : count - 0 ≡ count = omega arith in
    let d : at + 3 * 0 ≡ at = omega arith in
    record {
      order = omega arith;
      most = omega arith;
      start = first;
      started = h;
      same = rw (c, d);
      sound = rw (c, d) s;
      above = λ z. absurd (omega arith);
    }

module _ (b : List ℕ) (at count first gid low high : ℕ) (s : Searches b at count first gid low high) where
  module _ (mid : ℕ) (above : low ≤ mid) (below : mid < high) where
    place : at + 3 * low + 3 * (mid - low) ≡ at + 3 * mid
    place = omega arith

    pub mid_there : at + 3 * mid + 3 ≤ length b
    mid_there = omega (arith, ends_there b (at + 3 * low) (count - low) s.start (mid - low) s.sound (omega (arith, s.most)))

    pub search_left : (end : ℕ) → end ≡ end_at b at mid → gid < end → Searches b at count first gid low mid
    search_left end e h =
        record {
          order = above;
          most = omega (arith, s.most);
          start = s.start;
          started = s.started;
          same = s.same;
          sound = s.sound;
          above = λ z. omega arith;
        }

    pub search_right : (end : ℕ) → end ≡ end_at b at mid → end ≤ gid → Searches b at count first gid (mid + 1) high
    search_right end e h =
        let p = ap (λ (i : ℕ). num_at b (i + 1) 2) place in
        let c : count - low - (mid - low + 1) ≡ count - (mid + 1) = omega arith in
        let d : at + 3 * low + 3 * (mid - low + 1) ≡ at + 3 * (mid + 1) = omega arith in
        let r = rw (p, c, d) at (pass b (at + 3 * low) (count - low) s.start gid (mid - low) s.sound (omega (arith, s.most)) s.started (omega arith)) in
        record {
          order = omega arith;
          most = s.most;
          start = end_at b at mid;
          started = omega arith;
          same = r.0 ∙ s.same;
          sound = r.1;
          above = s.above;
        }

  module _ (done : high ≤ low) (h : low < count) where
    pub found_there : at + 3 * low < length b
    found_there = omega (arith, (ranges-rise b (at + 3 * low) 2 (count - low) s.start (omega arith) s.sound).there)

    pub search_found : get_or b (at + 3 * low) 0 ≡ fd_in 2 count first (drop at b) gid
    search_found =
        let e : low ≡ high = omega (arith, s.order) in
        let a : gid < end_at b at low = subst (λ (i : ℕ). gid < end_at b at i) (sym e) (s.above (omega arith)) in
        let z = end_two b (at + 3 * low) s.start in
        sym (fd-here b (at + 3 * low) 2 (count - low) s.start gid (omega arith) s.started (omega arith)) ∙ s.same

  pub search_none : count ≤ low → 0 ≡ fd_in 2 count first (drop at b) gid
  search_none h =
      let e : count - low ≡ 0 = omega arith in
      sym (fd-none 2 s.start (drop (at + 3 * low) b) gid) ∙ ap (λ (k : ℕ). fd_in 2 k s.start (drop (at + 3 * low) b) gid) (sym e) ∙ s.same

-- ---- by the kind of the FDSelect

-- format 0: each range is one glyph
pub each_at : (b : List ℕ) (q k first j : ℕ) → j < k → ranges_refusal 0 k first (drop q b) ≡ Ok tt
    → (q + j < length b) × (get_or b (q + j) 0 ≡ fd_in 0 k first (drop q b) (first + j))
each_at b q k first zero m h =
    let e = end_one 0 first (drop q b) refl in
    let r = ranges-rise b q 0 k first m h in
    (omega (arith, r.there), rw (add-zero, add-zero) (sym (fd-here b q 0 k first first m (omega arith) (omega arith))))
each_at b q k first (suc j) m h =
    let e = sym (end_one 0 first (drop q b) refl) in
    let r = ranges-rise b q 0 k first (omega arith) h in
    let a : q + 1 + 0 ≡ q + 1 = omega arith in
    let c : q + 1 + j ≡ q + suc j = omega arith in
    let d : first + 1 + j ≡ first + suc j = omega arith in
    let f : fd_in 0 k first (drop q b) (first + suc j) ≡ fd_in 0 (k - 1) (first + 1) (drop (q + 1) b) (first + suc j)
    = rw (e, a) at (fd-behind b q 0 k first (first + suc j) (omega arith) (omega arith) (omega arith)) in
    let i = rw (c, d) at (each_at b (q + 1) (k - 1) (first + 1) j (omega arith) (rw (e, a) at r.rest)) in
    (i.0, i.1 ∙ sym f)

each-past : (b : List ℕ) (q k first j : ℕ) → k ≤ j → 0 ≡ fd_in 0 k first (drop q b) (first + j)
each-past b q zero first j h = sym (fd-none 0 first (drop q b) (first + j))
each-past b q (suc k) first j h =
    let e = sym (end_one 0 first (drop q b) refl) in
    let a : q + 1 + 0 ≡ q + 1 = omega arith in
    let d : first + 1 + (j - 1) ≡ first + j = omega arith in
    let f : fd_in 0 (suc k) first (drop q b) (first + j) ≡ fd_in 0 (suc k - 1) (first + 1) (drop (q + 1) b) (first + j)
    = rw (e, a) at (fd-behind b q 0 (suc k) first (first + j) (omega arith) (omega arith) (omega arith)) in
    rw d at (each-past b (q + 1) k (first + 1) (j - 1) (omega arith)) ∙ sym (rw sub-one at f)

module _ (b : List ℕ) (s : FdSelect) (gid : ℕ) where
  pub before-first : gid < s.first → 0 ≡ fd_of b s gid
  unfolding fd_of
  before-first h = sym (fd-before s.wide s.count s.first (drop s.at b) gid h)

  module _ (good : GoodSelect b s) (h : s.first ≤ gid) where
    module _ (three : s.wide ≡ 0 → ⊥) where
      two : s.wide ≡ 2
      two = omega (arith, good.narrow, good.even)

      pub ranges_sound : ranges_refusal 2 s.count s.first (drop s.at b) ≡ Ok tt
      ranges_sound = subst (λ (w : ℕ). ranges_refusal w s.count s.first (drop s.at b) ≡ Ok tt) two good.sound

      pub ranges-fd : fd_in 2 s.count s.first (drop s.at b) gid ≡ fd_of b s gid
      unfolding fd_of
      ranges-fd = ap (λ (w : ℕ). fd_in w s.count s.first (drop s.at b) gid) (sym two)

    module _ (each : s.wide ≡ 0) where
      sound : ranges_refusal 0 s.count s.first (drop s.at b) ≡ Ok tt
      sound = subst (λ (w : ℕ). ranges_refusal w s.count s.first (drop s.at b) ≡ Ok tt) each good.sound

      e : s.first + (gid - s.first) ≡ gid
      e = omega arith

      is : fd_in 0 s.count s.first (drop s.at b) (s.first + (gid - s.first)) ≡ fd_of b s gid
      unfolding fd_of
      is =
          ap (λ (g : ℕ). fd_in 0 s.count s.first (drop s.at b) g) e
          ∙ ap (λ (w : ℕ). fd_in w s.count s.first (drop s.at b) gid) (sym each)

      pub each_there : gid - s.first < s.count → s.at + (gid - s.first) < length b
      each_there m = (each_at b s.at s.count s.first (gid - s.first) m sound).0

      pub each-fd : gid - s.first < s.count → get_or b (s.at + (gid - s.first)) 0 ≡ fd_of b s gid
      each-fd m = (each_at b s.at s.count s.first (gid - s.first) m sound).1 ∙ is

      pub each_none : s.count ≤ gid - s.first → 0 ≡ fd_of b s gid
      each_none m = each-past b s.at s.count s.first (gid - s.first) m ∙ is
