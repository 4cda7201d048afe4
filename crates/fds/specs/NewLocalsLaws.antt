-- Laws of the new local subroutines of the FDs in use, measured FD by FD.
use Rattle.std.specs.Prelude.{ℕ, zero, suc, ◌+◌, ◌-◌, ◌≤◌, ◌<◌, ◌≡◌, Bool, true, false, length, get_or, set, Option, None, Some}
use Rattle.std.proofs.Math.Path.{refl, ap}
use Rattle.std.proofs.Common.{sym, ◌∙◌, subst, arith, get_or-set_same, get_or-set_other}
use mathlib.Core.List.{List, [], ◌∷◌, ◌++◌}
use Rattle.octets.specs.Pick.{pick}
use Rattle.octets.specs.PickLaws.{first-fails, pick_same}
use Rattle.index.specs.Index.{items_of}
use Rattle.index.specs.Write.{total}
use Rattle.unfold.specs.Unfold.{Row, local}
use Rattle.prune.specs.StepLaws.{zero_one}
use Rattle.cff.specs.Font.{Private, Program}
use Rattle.cff.specs.Reads.{GoodPrivate}
use Rattle.cff.specs.Reads as reads
use Rattle.cff.specs.declared.private.PrivateAt.{PrivateAt}
use Rattle.subset.specs.Kept.{those, locals_of, private_of}
use Rattle.reach.specs.Cases.{by_number}
use Rattle.renumber.specs.Ranks.{calls_by}
use Rattle.renumber.specs.declared.Ranks.{Ranks}
use Rattle.bodies.specs.Ways.{holds, measured_of, subrs_by, reached_in, ranks_in, site_in, SubrsIn}
use Rattle.bodies.specs.Pruning.{all_hold}
use Rattle.bodies.specs.Sizes.{Bounded}
use Rattle.bodies.specs.SubrsLaws.{new-subrs_is}
use Rattle.bodies.specs.WritingLaws.{measured_failed, measured-total}
use Rattle.reach.specs.declared.Subrs.TheVariants.{Local}
use Rattle.fds.specs.Locals.{in_use_lem, used_below}
use Rattle.fds.specs.UsedLaws.{used-next, unused_next, both-last, one_last, unused_apart}
use Rattle.fds.specs.LocalsLaws.{locals-count}
use Rattle.fds.specs.NewLocals.{locals_with, FdIn, locals_by, new_locals, MeasuresLocals, Tables, LocalsIn}
use Rattle.subset.specs.declared.Way.{Way}

-- ---- some that hold

module _ {A : Type 0} (f : ℕ → Option A) where
  hold_last : (fs : List ℕ) (x : ℕ) → all_hold f (fs ++ (x ∷ [])) ≡ pick (all_hold f fs) (holds (f x)) false
  unfolding all_hold
  hold_last [] x = one_last (holds (f x))
  hold_last (y ∷ fs) x =
      ap (λ (t : Bool). pick (holds (f y)) t false) (hold_last fs x) ∙ both-last (holds (f y)) (all_hold f fs) (holds (f x))

  pub hold_start : (used : List ℕ) → all_hold f (used_below used 0) ≡ true
  unfolding all_hold those
  hold_start used = refl

  pub hold_pass : (used : List ℕ) (n : ℕ) → in_use_lem used n ≡ false → all_hold f (used_below used (n + 1)) ≡ all_hold f (used_below used n)
  hold_pass used n e = ap (all_hold f) (unused_next used n e)

  pub hold_take : (used : List ℕ) (n : ℕ) → in_use_lem used n ≡ true → all_hold f (used_below used (n + 1)) ≡ pick (all_hold f (used_below used n)) (holds (f n)) false
  hold_take used n e = ap (all_hold f) (used-next used n e) ∙ hold_last (used_below used n) n

  -- where those below n do not all hold, no more do
  hold_on : (used : List ℕ) (n d : ℕ) → all_hold f (used_below used n) ≡ false → all_hold f (used_below used (n + d)) ≡ false
  hold_on used n zero h = ap (λ (k : ℕ). all_hold f (used_below used k)) (let e : n + 0 ≡ n = omega arith in e) ∙ h
  hold_on used n (suc d) h =
      let e : n + suc d ≡ n + d + 1 = omega arith in
      ap (λ (k : ℕ). all_hold f (used_below used k)) e ∙ go (in_use_lem used (n + d)) refl (hold_on used n d h)
    where
      go : (t : Bool) → in_use_lem used (n + d) ≡ t → all_hold f (used_below used (n + d)) ≡ false → all_hold f (used_below used (n + d + 1)) ≡ false
      go true u i = hold_take used (n + d) u ∙ first-fails (all_hold f (used_below used (n + d))) (holds (f (n + d))) i
      go false u i = hold_pass used (n + d) u ∙ i

  pub hold_fails : (used : List ℕ) (n m : ℕ) → n < m → in_use_lem used n ≡ true → holds (f n) ≡ false → all_hold f (used_below used m) ≡ false
  hold_fails used n m h u e =
      let k : n + 1 + (m - (n + 1)) ≡ m = omega arith in
      let r : all_hold f (used_below used (n + 1)) ≡ false = hold_take used n u ∙ ap (λ (t : Bool). pick (all_hold f (used_below used n)) t false) e ∙ pick_same (all_hold f (used_below used n)) false in
      ap (λ (i : ℕ). all_hold f (used_below used i)) (sym k) ∙ hold_on used (n + 1) (m - (n + 1)) r

-- ---- one FD

module _ (way : Way) (b : List ℕ) (p : Program) (rows : List Row) (ws : List ℕ) (own globals : Ranks) (rising : Bool) (f : ℕ)
    (w : FdIn b p ws own globals rows rising f) (q : PrivateAt) (g : GoodPrivate b q × (reads.private_of b q ≡ private_of p f)) where
  -- the INDEX of the Private DICT holds its local subroutines
  pub subrs_in : SubrsIn b ws q.locals own own globals rows rising (Local f)
  subrs_in =
      let n = locals-count b q (private_of p f) g in
      record {
        good = g.0.locals.good;
        few = g.0.locals.few;
        size = w.size;
        many = w.many ∙ sym n.0;
        inside = w.ranks.inside;
        local_ranks = w.ranks;
        global_ranks = w.global_ranks;
        order = w.order;
        fits = w.below;
      }

  pub items_are : items_of b q.locals ≡ locals_of p f
  items_are = ap (λ (x : Private). x.locals) g.1

  pub total_is : (r : Option ℕ)
      → (r ≡ measured_of (subrs_by way rows (reached_in ws own) (calls_by ws own globals) (site_in (Local f)) (items_of b q.locals))) × Bounded r
      → (r ≡ measured_of (locals_with way p rows ws own globals f)) × Bounded r
  total_is r e =
      (e.0 ∙ ap (λ (l : List (List ℕ)). measured_of (subrs_by way rows (reached_in ws own) (calls_by ws own globals) (local f) l)) items_are, e.1)

-- ---- FD by FD

module _ (b : List ℕ) (p : Program) (used ws : List ℕ) (table : List Ranks) (globals : Ranks) (rows : List Row) (rising : Bool)
    (t : Tables b p used table) (w : LocalsIn p used ws table globals rows rising) where
  pub fd_in : (f : ℕ) → f < 256 → in_use_lem used f ≡ true → (own : Ranks) → own ≡ ranks_in table f → FdIn b p ws own globals rows rising f
  fd_in f h u own e =
      subst (λ (o : Ranks). FdIn b p ws o globals rows rising f) (sym e)
      (record {
        size = t.size;
        below = h;
        many = w.many f h u;
        ranks = w.ranks f h u;
        global_ranks = w.global_ranks;
        order = w.order;
      })

module _ (way : Way) (p : Program) (rows : List Row) (ws : List ℕ) (table : List Ranks) (globals : Ranks) (used : List ℕ) where
  -- the new local subroutines of the FDs in use below fd are measured, and none of these FDs fails
  pub record Summing (totals : List ℕ) (fd : ℕ) : Type 0 where
    pub hold : all_hold (locals_by way p rows ws table globals) (used_below used fd) ≡ true
    pub sums : (f : ℕ) → f < fd → in_use_lem used f ≡ true → get_or totals f 0 ≡ total (new_locals way p rows ws table globals f)
    pub few : (f : ℕ) → f < fd → in_use_lem used f ≡ true → get_or totals f 0 ≤ 21989897011200

  pub summing_start : (totals : List ℕ) → Summing totals 0
  summing_start totals =
      record { hold = hold_start (locals_by way p rows ws table globals) used; sums = λ f h e. absurd (let y : ⊥ = omega arith in y); few = λ f h e. absurd (let y : ⊥ = omega arith in y) }

  module _ (totals : List ℕ) (fd : ℕ) (h : Summing totals fd) where
    pub summing_pass : in_use_lem used fd ≡ false → Summing totals (fd + 1)
    summing_pass e =
        record {
          hold = hold_pass (locals_by way p rows ws table globals) used fd e ∙ h.hold;
          sums = λ f k t. by_number f fd (λ s. absurd (unused_apart used f fd e s t)) (λ n. h.sums f (omega arith) t);
          few = λ f k t. by_number f fd (λ s. absurd (unused_apart used f fd e s t)) (λ n. h.few f (omega arith) t);
        }

    module _ (u : in_use_lem used fd ≡ true) (own : Ranks) (o : own ≡ ranks_in table fd) (r : Option ℕ)
        (is : r ≡ measured_of (locals_with way p rows ws own globals fd)) where
      by-tables : r ≡ measured_of (locals_by way p rows ws table globals fd)
      by-tables = is ∙ ap (λ (q : Ranks). measured_of (locals_with way p rows ws q globals fd)) o

      pub summing_take : Bounded r → (t : ℕ) → r ≡ Some t → fd < length totals → Summing (set totals fd t) (fd + 1)
      summing_take m t e k =
          let most : t ≤ 21989897011200 = subst Bounded e m in
          let q = measured-total (locals_by way p rows ws table globals fd) t (sym by-tables ∙ e) in
          let n : total (new_locals way p rows ws table globals fd) ≡ t = ap total (new-subrs_is way rows _ _ (local fd) (locals_of p fd)) ∙ sym q.1 in
          record {
            hold = hold_take (locals_by way p rows ws table globals) used fd u ∙ both (all_hold (locals_by way p rows ws table globals) (used_below used fd)) _ h.hold q.0;
            sums = λ f l v. by_number f fd
                (λ s. subst (λ (i : ℕ). get_or (set totals fd t) i 0 ≡ total (new_locals way p rows ws table globals i)) (sym s) (get_or-set_same totals fd t 0 k ∙ sym n))
                (λ d. get_or-set_other totals fd f t 0 d ∙ h.sums f (omega arith) v);
            few = λ f l v. by_number f fd
                (λ s. subst (λ (i : ℕ). get_or (set totals fd t) i 0 ≤ 21989897011200) (sym s) (subst (λ (i : ℕ). i ≤ 21989897011200) (sym (get_or-set_same totals fd t 0 k)) most))
                (λ d. subst (λ (i : ℕ). i ≤ 21989897011200) (sym (get_or-set_other totals fd f t 0 d)) (h.few f (omega arith) v));
          }
        where
          both : (a c : Bool) → a ≡ true → c ≡ true → pick a c false ≡ true
          both true c e f = f
          both false c e f = absurd (zero_one cc)

      pub summing_fails : fd < 256 → r ≡ None → (new : List ℕ) → MeasuresLocals way p rows ws table globals used new false
      summing_fails k e new =
          let q = measured_failed (locals_by way p rows ws table globals fd) (sym by-tables ∙ e) in
          record {
            told = sym (hold_fails (locals_by way p rows ws table globals) used fd 256 k u q);
            sums = λ z. absurd (zero_one cc);
            few = λ z. absurd (zero_one cc);
          }

    pub summing_done : fd ≡ 256 → MeasuresLocals way p rows ws table globals used totals true
    summing_done e =
        let g = subst (Summing totals) e h in
        record { told = sym g.hold; sums = λ z. g.sums; few = λ z. g.few }
