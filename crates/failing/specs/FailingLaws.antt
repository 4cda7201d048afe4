-- Laws of finding a body that fails: the FDs that are marked, what the words say of calls, and the first glyph that fails.
use Rattle.std.specs.Prelude.{ℕ, ◌+◌, ◌≤◌, ◌<◌, ◌≡◌, Bool, true, false, not, eqb, length, get_or, set, replicate, None, Option, Some, is_some}
use Rattle.std.proofs.Math.Path.{refl, sym, ap, fun_ext}
use Rattle.std.proofs.Common.{◌∙◌, subst, inl, inr, ⊎_elim, arith, add-one, eqb-true, length-set, drop-cons, get_or-set_same, get_or-set_other}
use mathlib.Core.List.{List, [], ◌∷◌}
use Rattle.std.proofs.lemmas.Bool.{eqb-false}
use Rattle.std.proofs.Math.ListN.{drop, drop_of_length-le}
use Rattle.std.proofs.lemmas.List.{length-replicate}
use Rattle.octets.specs.Pick.{pick}
use Rattle.octets.specs.PickLaws.{both_hold}
use Rattle.octets.specs.Octets.{Octets}
use Rattle.octets.specs.Lists.{all_below}
use Rattle.octets.specs.ListLaws.{below_at, zeros-at}
use Rattle.bits.specs.Bits.{words_for}
use Rattle.index.specs.IndexLaws.{items-length, item-short}
use Rattle.unfold.specs.Unfold.{Row, glyph}
use Rattle.prune.specs.StepLaws.{zero_one}
use Rattle.record.specs.Record.{rows_of}
use Rattle.charset.specs.FdPlaces.{fd_of}
use Rattle.charset.specs.FdFound.{fd-at}
use Rattle.cff.specs.Font.{Program}
use Rattle.small.specs.Small.{small_size}
use Rattle.cff.specs.Find.{locals_words}
use Rattle.cff.specs.Reads.{program_of}
use Rattle.cff.specs.declared.font.Font.{Font}
use Rattle.subset.specs.Kept.{is_in, kept_of, locals_of}
use Rattle.subset.specs.KeptListLaws.{in_none, in_head, in_more, in_cases, in_place, those-has}
use Rattle.subset.specs.Pruned.{local_set, global_set, calls_in, renumbered_body}
use Rattle.faithful.specs.KeptLaws.{kept_is}
use Rattle.faithful.specs.UsedLaws.{fd_there}
use Rattle.renumber.specs.Ranks.{calls_by, Ranked}
use Rattle.renumber.specs.RanksLaws.{HoldsRanks, calls-in}
use Rattle.renumber.specs.Turn.{Inputs, sized_of}
use Rattle.renumber.specs.declared.Ranks.{Ranks}
use Rattle.bodies.specs.Ways.{holds, ranks_in}
use Rattle.fds.specs.Locals.{in_use_lem, fds_in, UsedOf, numbered, all_numbered}
use Rattle.plan.specs.Ranked.{globals_numbered, RanksAll}
use Rattle.plan.specs.FontLaws.{narrow_rows}
use Rattle.plan.specs.declared.RankedAll.{RankedAll}
use Rattle.plan.specs.StandsLaws.{stands_ranked, stands_holds}
use Rattle.faithful.specs.FontHeld.{FontHeld}
use Rattle.culprit.specs.NarrowLaws.{body_at}
use Rattle.culprit.proofs.NarrowLaws.{FdsThere, charstring_fails}
use Rattle.failing.specs.Failing.{FdsMarked, Asks, first_failing, Recorded, Only}

-- ---- the FD of a glyph

module _ (b : List ℕ) (f : Font) (read : FontHeld b f) (g : ℕ) (h : g < f.charstrings.count) where
  pub glyph_fd : (fd : ℕ) → fd ≡ fd_of b f.select g → fd ≡ get_or (program_of b f).fds g 0
  glyph_fd fd e = e ∙ sym (fd-at b f.select f.charstrings.count g h)

  pub fd-inside : get_or (program_of b f).fds g 0 < length (program_of b f).privates
  fd-inside = fd_there (program_of b f) g read.program (omega (arith, h, items-length b f.charstrings))

  pub fd-byte : get_or (program_of b f).fds g 0 < 256
  fd-byte = read.program.fds g

-- ---- marks

module _ (used : List ℕ) (fd : ℕ) (inside : fd < length used) where
  set-use : in_use_lem (set used fd 1) fd ≡ true
  set-use = ap (λ (k : ℕ). not (eqb k 0)) (get_or-set_same used fd 1 0 inside)

  set_keeps : (x : ℕ) → in_use_lem used x ≡ true → in_use_lem (set used fd 1) x ≡ true
  set_keeps x e = by (eqb x fd) refl
    where
      by : (t : Bool) → eqb x fd ≡ t → in_use_lem (set used fd 1) x ≡ true
      by true q = ap (in_use_lem (set used fd 1)) (eqb-true x fd q) ∙ set-use
      by false q = ap (λ (k : ℕ). not (eqb k 0)) (get_or-set_other used fd x 1 0 (eqb-false x fd q)) ∙ e

  set-of : (n : ℕ) → fd < n → UsedOf n used → UsedOf n (set used fd 1)
  set-of n l u x k e = by (eqb x fd) refl
    where
      by : (t : Bool) → eqb x fd ≡ t → x < n
      by true q = omega (arith, eqb-true x fd q)
      by false q = u x k (ap (λ (k : ℕ). not (eqb k 0)) (sym (get_or-set_other used fd x 1 0 (eqb-false x fd q))) ∙ e)

-- the FDs of glyph 0 and of the first i of a keep list are marked
pub record Marking (p : Program) (keep : List ℕ) (i : ℕ) (used : List ℕ) : Type 0 where
  pub within : i ≤ length keep
  pub long : length used ≡ 256
  pub of : UsedOf (length p.privates) used
  pub first : in_use_lem used (get_or p.fds 0 0) ≡ true
  pub each : (j : ℕ) → j < i → in_use_lem used (get_or p.fds (get_or keep j 0) 0) ≡ true

module _ (b : List ℕ) (f : Font) (read : FontHeld b f) (keep : List ℕ) (below : all_below f.charstrings.count keep ≡ true) where
  abbrev p : Program
  p = program_of b f

  pub kept-inside : (i : ℕ) → i < length keep → get_or keep i 0 < f.charstrings.count
  kept-inside i h = below_at f.charstrings.count keep below i h

  pub blank_long : (used : List ℕ) → used ≡ replicate 256 0 → 256 ≤ length used
  blank_long used e = omega (arith, ap length e, length-replicate {A = ℕ} 256 0)

  pub marking_start : (used : List ℕ) → used ≡ replicate 256 0 → Marking p keep 0 (set used (get_or p.fds 0 0) 1)
  marking_start used e =
      let n : length used ≡ 256 = ap length e ∙ length-replicate {A = ℕ} 256 0 in
      let l : get_or p.fds 0 0 < length used = omega (arith, fd-byte b f read 0 read.font.some) in
      record {
        within = omega arith;
        long = simp length-set n;
        of = set-of used (get_or p.fds 0 0) l (length p.privates) (fd-inside b f read 0 read.font.some) (λ x k z. absurd (blank x z));
        first = set-use used (get_or p.fds 0 0) l;
        each = λ j h. absurd (omega arith);
      }
    where
      blank : (x : ℕ) → in_use_lem used x ≡ true → ⊥
      blank x z = zero_one (let q : false ≡ true = sym (ap (λ (l : List ℕ). in_use_lem l x) e ∙ ap (λ (k : ℕ). not (eqb k 0)) (zeros-at 256 x)) ∙ z in cc)

  pub marking_next : (i : ℕ) (used : List ℕ) → Marking p keep i used → i < length keep → Marking p keep (i + 1) (set used (get_or p.fds (get_or keep i 0) 0) 1)
  marking_next i used m h =
      let g = get_or keep i 0 in
      let fd = get_or p.fds g 0 in
      let l : fd < length used = omega (arith, fd-byte b f read g (kept-inside i h), m.long) in
      record {
        within = omega arith;
        long = simp length-set m.long;
        of = set-of used fd l (length p.privates) (fd-inside b f read g (kept-inside i h)) m.of;
        first = set_keeps used fd l (get_or p.fds 0 0) m.first;
        each = λ j k. by l (eqb j i) refl k;
      }
    where
      by : get_or p.fds (get_or keep i 0) 0 < length used → {j : ℕ} (t : Bool) → eqb j i ≡ t → j < i + 1 → in_use_lem (set used (get_or p.fds (get_or keep i 0) 0) 1) (get_or p.fds (get_or keep j 0) 0) ≡ true
      by l {j} true q k =
          ap (λ (x : ℕ). in_use_lem (set used (get_or p.fds (get_or keep i 0) 0) 1) (get_or p.fds (get_or keep x 0) 0)) (eqb-true j i q) ∙ set-use used (get_or p.fds (get_or keep i 0) 0) l
      by l {j} false q k = let d = eqb-false j i q in set_keeps used (get_or p.fds (get_or keep i 0) 0) l (get_or p.fds (get_or keep j 0) 0) (m.each j (omega arith))

  pub marking_done : (i : ℕ) (used : List ℕ) → Marking p keep i used → length keep ≤ i → FdsMarked p keep used
  marking_done i used m h = record { long = m.long; of = m.of; first = m.first; each = λ j k. m.each j (omega arith) }

-- ---- what the words say

numbered_in : (p : Program) (rows : List Row) (fs : List ℕ) (x : ℕ) → all_numbered p rows fs ≡ true → is_in x fs ≡ true → numbered p rows x ≡ true
unfolding all_numbered
numbered_in p rows [] x e h = absurd (in_none x h)
numbered_in p rows (y ∷ fs) x e h =
    let b = both_hold (numbered p rows y) (all_numbered p rows fs) e in
    ⊎_elim (λ z. ap (numbered p rows) (sym z) ∙ b.0) (λ m. numbered_in p rows fs x b.1 m) (in_cases y x fs h)

module _ (b : List ℕ) (f : Font) (rows : List Row) (used ws : List ℕ) (globals : Ranks) (table : List Ranks) (a : Asks b f rows used ws globals table) where
  abbrev q : Program
  q = program_of b f

  global_ranked : Ranked ws globals
  global_ranked = stands_ranked ws globals (global_set rows) (length q.globals) a.ranked.global_ranks a.read.program.globals.count

  global_holds : HoldsRanks ws globals (global_set rows)
  global_holds =
      stands_holds ws globals (global_set rows) (length q.globals) a.ranked.global_ranks a.read.program.globals.count
      (eqb-true _ _ (both_hold (globals_numbered q rows) (all_numbered q rows (fds_in used)) a.numbered).0) a.narrow.globals

  module _ (x : ℕ) (k : x < 256) (u : in_use_lem used x ≡ true) where
    pub local_ranked : Ranked ws (ranks_in table x)
    local_ranked = stands_ranked ws (ranks_in table x) (local_set rows x) (length (locals_of q x)) (a.ranked.local_ranks x k u) (a.read.program.locals x).count

    local_holds : HoldsRanks ws (ranks_in table x) (local_set rows x)
    local_holds =
        stands_holds ws (ranks_in table x) (local_set rows x) (length (locals_of q x)) (a.ranked.local_ranks x k u) (a.read.program.locals x).count
        (eqb-true _ _ (numbered_in q rows (fds_in used) x (both_hold (globals_numbered q rows) (all_numbered q rows (fds_in used)) a.numbered).1
        (those-has (in_use_lem used) 256 0 x (omega arith) (omega arith) u))) (a.narrow.locals x)

    -- calls by the bits are those by the rows
    pub calls_are : calls_by ws (ranks_in table x) globals ≡ calls_in q rows x
    calls_are =
        fun_ext (λ o. fun_ext (λ z.
        calls-in q rows ws (ranks_in table x) globals global_holds a.ranked.global_ranks.many x local_holds (a.ranked.local_ranks x k u).many o z))

  -- ---- the charstring of a glyph

  module _ (g : ℕ) (h : g < f.charstrings.count) (u : in_use_lem used (get_or q.fds g 0) ≡ true) (fd : ℕ) (e : fd ≡ fd_of b f.select g) (locals : Ranks)
      (l : locals ≡ ranks_in table fd) (code : List ℕ) (c : code ≡ get_or q.charstrings g []) where
    abbrev its : ℕ
    its = get_or q.fds g 0

    is_its : locals ≡ ranks_in table its
    is_its = l ∙ ap (ranks_in table) (glyph_fd b f a.read g h fd e)

    pub glyph_asks : Inputs code ws locals globals
    glyph_asks =
        record {
          local_ranks = subst (Ranked ws) (sym is_its) (local_ranked its (fd-byte b f a.read g h) u);
          global_ranks = global_ranked;
          size = let n = ap length c in omega (arith, item-short b f.charstrings a.read.font.glyphs.held.good g h, a.read.size);
        }

    body_is : renumbered_body rows (calls_by ws locals globals) (glyph g) code ≡ body_at q rows (glyph g)
    body_is =
        ap (λ (k : Ranks). renumbered_body rows (calls_by ws k globals) (glyph g) code) is_its
        ∙ ap (λ (l : List ℕ). renumbered_body rows (calls_by ws (ranks_in table its) globals) (glyph g) l) c
        ∙ ap (λ o. renumbered_body rows o (glyph g) (get_or q.charstrings g [])) (calls_are its (fd-byte b f a.read g h) u)

    pub glyph_holds : (r : Option ℕ) → r ≡ sized_of (renumbered_body rows (calls_by ws locals globals) (glyph g) code) → is_some r ≡ holds (body_at q rows (glyph g))
    glyph_holds r s = ap is_some s ∙ by (renumbered_body rows (calls_by ws locals globals) (glyph g) code) ∙ ap holds body_is
      where
        by : (m : Option (List ℕ)) → is_some (sized_of m) ≡ holds m
        by None = refl
        by (Some bs) = refl

-- ---- the first that fails

-- a test that was turned round
pub turned_true : (t : Bool) → not t ≡ true → false ≡ t
turned_true true e = absurd (zero_one cc)
turned_true false e = refl

pub turned_false : (t : Bool) → not t ≡ false → true ≡ t
turned_false true e = refl
turned_false false e = absurd (zero_one cc)

-- what is left to ask
pub record Asking (p : Program) (rows : List Row) (keep : List ℕ) (i : ℕ) : Type 0 where
  pub within : i ≤ length keep
  pub left : first_failing p rows (drop i keep) ≡ first_failing p rows (0 ∷ keep)

module _ (p : Program) (rows : List Row) (keep : List ℕ) where
  pub zero-fails : false ≡ holds (body_at p rows (glyph 0)) → Some 0 ≡ first_failing p rows (0 ∷ keep)
  unfolding first_failing
  zero-fails e = ap (λ (t : Bool). pick t (first_failing p rows keep) (Some 0)) e

  pub asking_start : true ≡ holds (body_at p rows (glyph 0)) → Asking p rows keep 0
  unfolding first_failing
  asking_start e = record { within = omega arith; left = ap (λ (t : Bool). pick t (first_failing p rows keep) (Some 0)) e }

  module _ (i : ℕ) (a : Asking p rows keep i) where
    split : i < length keep → drop i keep ≡ get_or keep i 0 ∷ drop (i + 1) keep
    split h = rw (add-one, drop-cons keep i 0)

    pub asking_next : i < length keep → true ≡ holds (body_at p rows (glyph (get_or keep i 0))) → Asking p rows keep (i + 1)
    unfolding first_failing
    asking_next h e =
        record {
          within = omega arith;
          left = ap (λ (t : Bool). pick t (first_failing p rows (drop (i + 1) keep)) (Some (get_or keep i 0))) e ∙ sym (ap (first_failing p rows) (split h)) ∙ a.left;
        }

    pub asking_found : i < length keep → false ≡ holds (body_at p rows (glyph (get_or keep i 0))) → Some (get_or keep i 0) ≡ first_failing p rows (0 ∷ keep)
    unfolding first_failing
    asking_found h e = ap (λ (t : Bool). pick t (first_failing p rows (drop (i + 1) keep)) (Some (get_or keep i 0))) e ∙ sym (ap (first_failing p rows) (split h)) ∙ a.left

    pub asking_done : length keep ≤ i → None ≡ first_failing p rows (0 ∷ keep)
    unfolding first_failing
    asking_done h = let z : drop i keep ≡ [] = drop_of_length-le keep {i = i} h in sym (ap (first_failing p rows) z) ∙ a.left

-- ---- the only culprit

-- where none is found each may be the culprit
pub each_may : (p : Program) (keep : List ℕ) → Only p keep None
each_may p keep = record { there = λ g h. absurd (zero_one cc); others = λ g h. absurd (zero_one cc) }

module _ (p : Program) (rows : List Row) where
  -- one that is found is of the list, and fails
  failing_is : (gs : List ℕ) (g : ℕ) → first_failing p rows gs ≡ Some g → (is_in g gs ≡ true) × (body_at p rows (glyph g) ≡ None)
  unfolding first_failing
  failing_is [] g h = absurd (zero_one cc)
  failing_is (x ∷ gs) g h = by (body_at p rows (glyph x)) refl (failing_is gs g) h
    where
      by : (m : Option (List ℕ)) → body_at p rows (glyph x) ≡ m → (first_failing p rows gs ≡ Some g → (is_in g gs ≡ true) × (body_at p rows (glyph g) ≡ None))
          → pick (holds m) (first_failing p rows gs) (Some x) ≡ Some g → (is_in g (x ∷ gs) ≡ true) × (body_at p rows (glyph g) ≡ None)
      by None e f k = let z : x ≡ g = cc in (in_head x g gs z, ap (λ (y : ℕ). body_at p rows (glyph y)) (sym z) ∙ e)
      by (Some bs) e f k = let a = f k in (in_more x g gs a.0, a.1)

module _ (b : List ℕ) (f : Font) (read : FontHeld b f) (keep rec : List ℕ) (below : all_below f.charstrings.count keep ≡ true) (r : Recorded (program_of b f) keep rec) where
  abbrev o : Program
  o = program_of b f

  fds_there : FdsThere o
  fds_there = record { any = read.program.some; fds = λ x h. fd_there o x read.program h }

  -- glyph 0 and those of the keep list are of the font, and kept
  one_there : (g : ℕ) → is_in g (0 ∷ keep) ≡ true → g < length o.charstrings
  one_there g h =
      ⊎_elim (λ z. omega (arith, read.program.some, z))
      (λ i. let at = in_place keep g i in omega (arith, kept-inside b f read keep below at.0 at.1, at.2, items-length b f.charstrings))
      (in_cases 0 g keep h)

  one_kept : (g : ℕ) → is_in g (0 ∷ keep) ≡ true → is_in g (kept_of (length o.charstrings) keep) ≡ true
  one_kept g h = kept_is o keep g (record { there = one_there g h; asked = ⊎_elim (λ z. inl (sym z)) (λ i. inr i) (in_cases 0 g keep h) })

  pub only-found : (only : Option ℕ) → only ≡ first_failing o (rows_of rec) (0 ∷ keep) → Only o keep only
  only-found only e =
      record {
        there = λ g h. one_there g (failing_is o (rows_of rec) (0 ∷ keep) g (sym e ∙ h)).0;
        others = λ g h name words lent x d.
            let a = failing_is o (rows_of rec) (0 ∷ keep) g (sym e ∙ h) in
            charstring_fails o fds_there name keep words lent r.rows r.met r.fits g (one_kept g a.0)
            (ap (λ (l : List ℕ). body_at o (rows_of l) (glyph g)) (sym r.is) ∙ a.1) x d;
      }

  -- there is room for the bits
  pub bits_room : (words : ℕ) → small_size o ≤ words → words_for f.charstrings.count + words_for f.globals.count + locals_words o.privates ≤ words
  bits_room words room =
      let g : words_for (length o.globals) ≡ words_for f.globals.count = ap words_for (items-length b f.globals) in
      let n : words_for (length o.charstrings) ≡ words_for f.charstrings.count = ap words_for (items-length b f.charstrings) in
      omega (arith, room, n)

  -- what is asked once all subroutines are ranked
  pub asks_made : (octets : Octets rec) (used old ws : List ℕ) (table : List Ranks) (ranked : RankedAll) → RanksAll o (rows_of rec) used old ws table ranked → ranked.all ≡ true → 256 ≤ length table
      → Asks b f (rows_of rec) used ws ranked.globals table
  asks_made octets used old ws table ranked s all t =
      record { read = read; narrow = narrow_rows rec octets; ranked = s.ranked; numbered = sym s.told ∙ all; table_long = t }
