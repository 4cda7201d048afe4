-- Laws of the table of FDs: each marked glyph's FD has its count, the others no limit; and the numbers of rows against it.
use Rattle.std.specs.Prelude.{ℕ, ◌+◌, ◌-◌, ◌/◌, ◌≤◌, ◌<◌, ◌≡◌, Bool, ltb, set, replicate, None, Option, Some}
use Rattle.std.proofs.Math.Path.{refl, ap}
use Rattle.std.proofs.Common.{sym, ◌∙◌, subst, arith, eqb-true, length-set, get_or-set_same, get_or-set_other}
use Rattle.std.proofs.Math.Bool.{true, false}
use mathlib.Core.List.{List, [], ◌∷◌}
use Rattle.std.proofs.lemmas.Bool.{eqb-false}
use Rattle.std.proofs.Math.Dec.{eqb}
use Rattle.std.proofs.Math.ListN.{length, get_or}
use Rattle.std.proofs.lemmas.List.{length-replicate, get_or-replicate}
use Rattle.std.specs.Option.{is_some}
use Rattle.octets.specs.Pick.{pick}
use Rattle.octets.specs.Octets.{Octets}
use Rattle.index.specs.IndexLaws.{items-length}
use Rattle.unfold.specs.Unfold.{Row}
use Rattle.record.specs.Record.{rows_of}
use Rattle.cff.specs.Font.{Program, Private}
use Rattle.cff.specs.Loaded.{program}
use Rattle.cff.specs.Reads.{GoodPrivate}
use Rattle.cff.specs.Reads as reads
use Rattle.cff.specs.declared.private.PrivateAt.{PrivateAt}
use Rattle.subset.specs.Kept.{is_in, those, fds_of, used_fds, private_of, locals_of}
use Rattle.subset.specs.KeptListLaws.{those-has, those_in}
use Rattle.kept.specs.Packed.{marked}
use Rattle.kept.specs.MarkLaws.{same_truth}
use Rattle.kept.specs.GatherLaws.{mark_is, mark_not, those-taken, those-passed, those_done, those-whole}
use Rattle.reach.specs.Reach.{Fits, row_no, rest_of}
use Rattle.reach.specs.RowLaws.{rest-none, rest-next, AllFit, all_fit}
use Rattle.faithful.specs.UsedLaws.{uses, fd_there}
use Rattle.tracer.specs.Tracing.{fd_for, marked_in}
use Rattle.faithful.specs.declared.read.Held.{Held}
use Rattle.tracer.specs.declared.marked.Marked.{Marked}
use Rattle.accepted.specs.Accepted.{each_row, number_is}
use Rattle.accepted.proofs.Theorem.{fd-from}
use Rattle.checker.specs.Checking.{below, number_fits, Unlimited, Known, Limited, limit_in, Limits}

-- ---- one FD

pub not_none : (o : Option ℕ) → is_some o ≡ true → o ≡ None → ⊥
not_none o h e =
    let z : ◌≡◌ {A = ℕ} 0 1 = ap (λ (t : Bool). pick t 1 0) (sym (ap is_some e) ∙ h) in
    omega (arith, z)

module _ (p : Program) (fd : ℕ) (limits : List (Option ℕ)) (k : Known p limits) (byte : fd < 256) where
  -- it has its count already
  pub limit-known : (get_or limits fd None ≡ None → ⊥) → Limited p fd limits limits
  limit-known h = record { size = refl; at = λ f l. by f (eqb fd f) refl }
    where
      by : (f : ℕ) (t : Bool) → eqb fd f ≡ t → get_or limits f None ≡ pick t (Some (length (locals_of p f))) (get_or limits f None)
      by f true e = subst (λ (x : ℕ). get_or limits x None ≡ Some (length (locals_of p x))) (eqb-true fd f e) (k.own fd byte h)
      by f false e = refl

  pub limit-put : (n : ℕ) → n ≡ length (locals_of p fd) → Limited p fd limits (set limits fd (Some n))
  limit-put n is = record { size = length-set limits fd (Some n); at = λ f l. by f (eqb fd f) refl }
    where
      by : (f : ℕ) (t : Bool) → eqb fd f ≡ t → get_or (set limits fd (Some n)) f None ≡ pick t (Some (length (locals_of p f))) (get_or limits f None)
      by f true e =
          subst (λ (x : ℕ). get_or (set limits fd (Some n)) x None ≡ Some (length (locals_of p x))) (eqb-true fd f e)
          (get_or-set_same limits fd (Some n) None (omega (arith, k.size)) ∙ ap Some is)
      by f false e = get_or-set_other limits fd f (Some n) None (λ z. eqb-false fd f e (sym z))

pub limited_as : (p : Program) (a c : ℕ) (old new : List (Option ℕ)) → a ≡ c → Limited p a old new → Limited p c old new
limited_as p a c old new e l = subst (λ (k : ℕ). Limited p k old new) e l

-- how many local subroutines there are, by a Private DICT
pub locals_many : (b : List ℕ) (p : Program) (fd : ℕ) (q : PrivateAt) → GoodPrivate b q × (reads.private_of b q ≡ private_of p fd) → q.locals.count ≡ length (locals_of p fd)
locals_many b p fd q e = sym (items-length b q.locals) ∙ ap (λ (x : Private). length x.locals) e.1

-- ---- the FDs of the marked glyphs

module _ (m : Marked) where
  abbrev p : Program
  p = program m.font.loaded

  abbrev marks : List ℕ
  marks = m.marks.now

  abbrev glyphs : ℕ
  glyphs = m.font.loaded.f.charstrings.count

  -- the FDs of the marked glyphs from g on
  abbrev left_from : ℕ → List ℕ
  left_from g = fds_of p (those (marked marks) (glyphs - g) g)

  abbrev all_fds : List ℕ
  all_fds = fds_of p (marked_in m)

  -- where the loop stands: the counts of the glyphs before g are put, and with those that are left they are all
  pub record Limiting (limits : List (Option ℕ)) (g : ℕ) : Type 0 where
    pub within : g ≤ glyphs
    pub known : Known p limits
    pub left : (x : ℕ) → x < 256 → pick (is_in x (left_from g)) (Some (length (locals_of p x))) (get_or limits x None) ≡ limit_in p all_fds x

  pub limits-start : (limits : List (Option ℕ)) → Unlimited limits → Limiting limits 0
  limits-start limits u =
      record {
        within = omega arith;
        known = record { size = u.size; own = λ x h n. absurd (n (u.none x h)) };
        left = λ x h.
            ap (λ (l : List ℕ). pick (is_in x (fds_of p l)) (Some (length (locals_of p x))) (get_or limits x None)) (those-whole (marked marks) glyphs)
            ∙ ap (pick (is_in x all_fds) (Some (length (locals_of p x)))) (u.none x h);
      }

  module _ (limits : List (Option ℕ)) (g : ℕ) (s : Limiting limits g) where
    pub limits_done : glyphs ≤ g → Limits p all_fds limits
    unfolding fds_of is_in
    limits_done h =
        record {
          size = s.known.size;
          at = λ x l. ap (λ (gs : List ℕ). pick (is_in x (fds_of p gs)) (Some (length (locals_of p x))) (get_or limits x None)) (sym (those_done (marked marks) glyphs g h)) ∙ s.left x l;
        }

    module _ (h : g < glyphs) where
      pub limits-passed : get_or marks g 0 ≡ 0 → Limiting limits (g + 1)
      limits-passed e =
          record {
            within = omega arith;
            known = s.known;
            left = λ x l.
                ap (λ (gs : List ℕ). pick (is_in x (fds_of p gs)) (Some (length (locals_of p x))) (get_or limits x None)) (sym (those-passed (marked marks) glyphs g h (mark_not marks g (omega (arith, e)))))
                ∙ s.left x l;
          }

      pub limits-put : (get_or marks g 0 ≡ 0 → ⊥) → (limits' : List (Option ℕ)) → Limited p (fd_for m.font g) limits limits' → Limiting limits' (g + 1)
      unfolding fds_of is_in
      limits-put is limits' n =
          record {
            within = omega arith;
            known = record { size = n.size ∙ s.known.size; own = λ x l o. own x l o (eqb (fd_for m.font g) x) refl };
            left = λ x l. turn x l;
          }
        where
          own : (x : ℕ) → x < 256 → (get_or limits' x None ≡ None → ⊥) → (t : Bool) → eqb (fd_for m.font g) x ≡ t → get_or limits' x None ≡ Some (length (locals_of p x))
          own x l o true e = n.at x l ∙ ap (λ (t : Bool). pick t (Some (length (locals_of p x))) (get_or limits x None)) e
          own x l o false e =
              let same : get_or limits' x None ≡ get_or limits x None = n.at x l ∙ ap (λ (t : Bool). pick t (Some (length (locals_of p x))) (get_or limits x None)) e in
              same ∙ s.known.own x l (λ z. o (same ∙ z))

          either : (t u : Bool) (a c : Option ℕ) → pick u a (pick t a c) ≡ pick (pick t true u) a c
          either true true a c = refl
          either true false a c = refl
          either false u a c = refl

          turn : (x : ℕ) → x < 256 → pick (is_in x (left_from (g + 1))) (Some (length (locals_of p x))) (get_or limits' x None) ≡ limit_in p all_fds x
          turn x l =
              ap (pick (is_in x (left_from (g + 1))) (Some (length (locals_of p x)))) (n.at x l)
              ∙ either (eqb (fd_for m.font g) x) (is_in x (left_from (g + 1))) (Some (length (locals_of p x))) (get_or limits x None)
              ∙ ap (λ (gs : List ℕ). pick (is_in x (fds_of p gs)) (Some (length (locals_of p x))) (get_or limits x None)) (sym (those-taken (marked marks) glyphs g h (mark_is marks g (omega (arith, is)))))
              ∙ s.left x l

-- the table before the first glyph
pub no_limits : (limits : List (Option ℕ)) → limits ≡ replicate 256 None → Unlimited limits
no_limits limits e =
    record {
      size = ap length e ∙ length-replicate {A = Option ℕ} 256 None;
      none = λ f h. ap (λ (l : List (Option ℕ)). get_or l f None) e ∙ get_or-replicate {A = Option ℕ} 256 f None None h;
    }

-- ---- rows against the table

module _ (test : Row → Bool) (rec : List ℕ) (i : ℕ) where
  pub rows_stop : i < length rec / 10 → test (row_no rec i) ≡ false → false ≡ each_row test (rest_of rec i)
  unfolding each_row
  rows_stop h e = rw (rest-next rec i h, e)

  pub rows_go_on : i < length rec / 10 → test (row_no rec i) ≡ true → each_row test (rest_of rec (i + 1)) ≡ each_row test (rest_of rec i)
  unfolding each_row
  rows_go_on h e = rw (rest-next rec i h, e)

  pub rows_done : length rec / 10 ≤ i → true ≡ each_row test (rest_of rec i)
  unfolding each_row
  rows_done h = rw (rest-none rec i h)

each_same : (s t : Row → Bool) (rows : List Row) → AllFit rows → ((r : Row) → Fits r → s r ≡ t r) → each_row s rows ≡ each_row t rows
unfolding each_row AllFit
each_same s t [] a f = refl
each_same s t (r ∷ rows) a f =
    ap (λ (x : Bool). pick x (each_row s rows) false) (f r a.0) ∙ ap (λ (x : Bool). pick (t r) x false) (each_same s t rows a.1 f)

module _ (m : Marked) (limits : List (Option ℕ)) (l : Limits (program m.font.loaded) (all_fds m) limits) where
  abbrev t : Held
  t = m.font

  abbrev some : List ℕ
  some = marked_in m

  -- the FDs of the marked glyphs are those in use
  used-same : (x : ℕ) → is_in x (used_fds (program t.loaded) some) ≡ is_in x (fds_of (program t.loaded) some)
  used-same x =
      same_truth (is_in x (used_fds (program t.loaded) some)) (is_in x (fds_of (program t.loaded) some))
      (λ h. (those_in (uses (program t.loaded) some) (length (program t.loaded).privates) 0 x h).2)
      (λ h. those-has (uses (program t.loaded) some) (length (program t.loaded).privates) 0 x (omega arith) (omega (arith, there h)) h)
    where
      there : is_in x (fds_of (program t.loaded) some) ≡ true → x < length (program t.loaded).privates
      there h =
          let g = fd-from (program t.loaded) some x h in
          let n = those_in (marked m.marks.now) t.loaded.f.charstrings.count 0 g.0 g.1 in
          subst (λ (k : ℕ). k < length (program t.loaded).privates) g.2
          (fd_there (program t.loaded) g.0 t.held.program (omega (arith, n.1, items-length t.loaded.bytes.now t.loaded.f.charstrings)))

  number_same : (globals : ℕ) → globals ≡ t.loaded.f.globals.count → (r : Row) → Fits r → number_fits globals limits r ≡ number_is (program t.loaded) (used_fds (program t.loaded) some) r
  number_same globals e r fits =
      ap (λ (u : Bool). pick (eqb r.kind 0) u (pick (eqb r.kind 1) (ltb r.number globals) true)) of_local
      ∙ ap (λ (n : ℕ). pick (eqb r.kind 0) (pick (is_in r.fd (used_fds (program t.loaded) some)) (ltb r.number (length (locals_of (program t.loaded) r.fd))) true) (pick (eqb r.kind 1) (ltb r.number n) true))
      (e ∙ sym (items-length t.loaded.bytes.now t.loaded.f.globals))
    where
      many : ℕ
      many = length (locals_of (program t.loaded) r.fd)

      limited : (u : Bool) → below r.number (pick u (Some many) None) ≡ pick u (ltb r.number many) true
      limited true = refl
      limited false = refl

      of_local : below r.number (get_or limits r.fd None) ≡ pick (is_in r.fd (used_fds (program t.loaded) some)) (ltb r.number many) true
      of_local =
          ap (below r.number) (l.at r.fd fits.fd) ∙ limited (is_in r.fd (fds_of (program t.loaded) some))
          ∙ ap (λ (u : Bool). pick u (ltb r.number many) true) (sym (used-same r.fd))

  pub numbers-same : (globals : ℕ) → globals ≡ t.loaded.f.globals.count → (rec : List ℕ) → Octets rec
      → each_row (number_fits globals limits) (rows_of rec) ≡ each_row (number_is (program t.loaded) (used_fds (program t.loaded) some)) (rows_of rec)
  numbers-same globals e rec o = each_same (number_fits globals limits) (number_is (program t.loaded) (used_fds (program t.loaded) some)) (rows_of rec) (all_fit rec o) (number_same globals e)
