-- Laws of the search: a keep list with each glyph at its own place keeps the same glyphs, and a 0 at a glyph's place leaves it out; the first that
-- passes, place by place.
use Rattle.std.specs.Prelude.{ℕ, zero, suc, ◌+◌, ◌-◌, ◌≤◌, ◌<◌, ◌≡◌, Bool, ◌⊎◌, ltb, eqb, length, take, set, replicate, Option, Some, None}
use Rattle.std.proofs.Math.Path.{refl, sym, ap}
use Rattle.std.proofs.Common.{◌∙◌, inl, inr, ⊎_elim, add-one, eqb-true, eq-eqb, ne_eqb, ltb-true, get_or-set_same, get_or-set_other}
use Rattle.std.proofs.Math.Bool.{true, false}
use mathlib.Core.List.{List, [], ◌∷◌}
use Rattle.std.proofs.Math.Decide.{dec_le}
use native.Mathlib.Omega.{arith}
use Rattle.std.proofs.lemmas.Bool.{eqb-false}
use Rattle.std.proofs.Math.ListN.{drop, get_or, length-set, drop_of_length-le}
use Rattle.std.proofs.lemmas.List.{length-replicate}
use Rattle.std.proofs.Math.Seq.{drop-cons}
use Rattle.octets.specs.Pick.{pick}
use Rattle.octets.specs.PickLaws.{pick_same, both_hold, not_true}
use Rattle.octets.specs.Lists.{all_below}
use Rattle.octets.specs.ListLaws.{below_at, zeros-at}
use Rattle.prune.specs.StepLaws.{zero_one}
use Rattle.index.specs.IndexLaws.{items-length}
use Rattle.cff.specs.Font.{Program}
use Rattle.cff.specs.Loaded.{program}
use Rattle.cff.specs.declared.opened.Opened.{Opened}
use Rattle.subset.specs.Kept.{is_in, those, keeps}
use Rattle.subset.specs.KeptListLaws.{in_at, in_place}
use Rattle.culprit.specs.Culprit.{traced_cut, without, has_way, is_culprit, first_of, least_culprit}
use Rattle.culprit.proofs.CulpritLaws.{in_without, cut_keeps, first_is, first-none, none_first}
use Rattle.failing.specs.Failing.{Only}
use Rattle.blocking.specs.Search.{spread, frees}
use Rattle.subset.specs.declared.Way.TheVariants.{Renumbered}

-- ---- each glyph at its own place

pub spread-length : (keep list : List ℕ) → length (spread keep list) ≡ length list
unfolding spread
spread-length [] list = refl
spread-length (g ∷ gs) list = spread-length gs (set list g g) ∙ simp length-set

-- a glyph of the keep list stands there, at any other place what stood there
pub spread_at : (keep list : List ℕ) → all_below (length list) keep ≡ true → (x : ℕ) → get_or (spread keep list) x 0 ≡ pick (is_in x keep) x (get_or list x 0)
unfolding spread is_in all_below
spread_at [] list below x = refl
spread_at (g ∷ gs) list below x =
    let b = both_hold (ltb g (length list)) (all_below (length list) gs) below in
    spread_at gs (set list g g) (ap (λ (n : ℕ). all_below n gs) (simp length-set) ∙ b.1) x ∙ by (eqb g x) refl (is_in x gs) (ltb-true g (length list) b.0)
  where
    by : (t : Bool) → eqb g x ≡ t → (i : Bool) → g < length list → pick i x (get_or (set list g g) x 0) ≡ pick (pick t true i) x (get_or list x 0)
    by true q true h = refl
    by true q false h = let e = eqb-true g x q in ap (λ (k : ℕ). get_or (set list g g) k 0) (sym e) ∙ get_or-set_same list g g 0 h ∙ e
    by false q true h = refl
    by false q false h = let d = eqb-false g x q in get_or-set_other list g x g 0 (λ e. d (sym e))

-- ---- a list whose numbers stand at their own places

-- a number but 0 is in it where it stands at its place
in_own : (l : List ℕ) → ((i : ℕ) → (get_or l i 0 ≡ i) ⊎ (get_or l i 0 ≡ 0)) → (x : ℕ) → (x ≡ 0 → ⊥) → is_in x l ≡ eqb (get_or l x 0) x
in_own l own x some = by (eqb (get_or l x 0) x) refl
  where
    past : (m : List ℕ) (i : ℕ) → (get_or m i 0 ≡ 0 → ⊥) → i < length m
    past [] i h = absurd (h refl)
    past (y ∷ m) zero h = omega arith
    past (y ∷ m) (suc i) h = omega (arith, past m i h)

    by : (t : Bool) → eqb (get_or l x 0) x ≡ t → is_in x l ≡ t
    by true q =
        let e = eqb-true (get_or l x 0) x q in
        ap (λ (k : ℕ). is_in k l) (sym e) ∙ in_at l x (past l x (λ z. some (sym e ∙ z)))
    by false q =
        not_true (is_in x l)
        (λ h. let i = in_place l x h in
        let d = eqb-false (get_or l x 0) x q in
        ⊎_elim (λ e. d (ap (λ (k : ℕ). get_or l k 0) (sym i.2 ∙ e) ∙ i.2 ∙ refl)) (λ z. some (sym i.2 ∙ z)) (own i.0))

-- tests that agree on the numbers let the same pass
those-from : (s t : ℕ → Bool) (m g : ℕ) → ((k : ℕ) → g ≤ k → k < g + m → s k ≡ t k) → those s m g ≡ those t m g
unfolding those
those-from s t zero g same = refl
those-from s t (suc m) g same = rw (same g (omega arith) (omega arith), those-from s t m (g + 1) (λ k a b. same k (omega arith) (omega arith)))

module _ (keep : List ℕ) (n : ℕ) (below : all_below n keep ≡ true) where
  -- the list of the code
  abbrev pub own : List ℕ
  own = spread keep (replicate n 0)

  pub own-length : length own ≡ n
  own-length = spread-length keep (replicate n 0) ∙ length-replicate n 0

  own_at : (x : ℕ) → get_or own x 0 ≡ pick (is_in x keep) x 0
  own_at x = spread_at keep (replicate n 0) (ap (λ (m : ℕ). all_below m keep) (length-replicate n 0) ∙ below) x ∙ ap (pick (is_in x keep) x) (zeros-at n x)

  module _ (g : ℕ) (h : g < n) (some : 0 < g) where
    -- with a 0 at g it keeps what the keep list without g does
    left_at : (x : ℕ) → get_or (set own g 0) x 0 ≡ pick (is_in x (without g keep)) x 0
    left_at x = by (eqb x g) refl
      where
        by : (t : Bool) → eqb x g ≡ t → get_or (set own g 0) x 0 ≡ pick (is_in x (without g keep)) x 0
        by true q =
            let e = eqb-true x g q in
            ap (λ (k : ℕ). get_or (set own g 0) k 0) e ∙ get_or-set_same own g 0 0 (omega (arith, own-length))
            ∙ sym (ap (λ (b : Bool). pick b x 0) (in_without g keep x ∙ ap (λ (b : Bool). pick b false (is_in x keep)) q))
        by false q =
            get_or-set_other own g x 0 0 (eqb-false x g q) ∙ own_at x
            ∙ sym (ap (λ (b : Bool). pick b x 0) (in_without g keep x ∙ ap (λ (b : Bool). pick b false (is_in x keep)) q))

    places : (i : ℕ) → (get_or (set own g 0) i 0 ≡ i) ⊎ (get_or (set own g 0) i 0 ≡ 0)
    places i = by (is_in i (without g keep)) (left_at i)
      where
        by : (t : Bool) → get_or (set own g 0) i 0 ≡ pick t i 0 → (get_or (set own g 0) i 0 ≡ i) ⊎ (get_or (set own g 0) i 0 ≡ 0)
        by true e = inl e
        by false e = inr e

    left-keeps : (x : ℕ) → keeps (set own g 0) x ≡ keeps (without g keep) x
    left-keeps x = by (eqb x 0) refl
      where
        at_own : (t : Bool) → (x ≡ 0 → ⊥) → eqb (pick t x 0) x ≡ t
        at_own true d = eq-eqb x x refl
        at_own false d = ne_eqb 0 x (λ e. d (sym e))

        by : (t : Bool) → eqb x 0 ≡ t → pick t true (is_in x (set own g 0)) ≡ pick t true (is_in x (without g keep))
        by true q = refl
        by false q =
            let d = eqb-false x 0 q in
            in_own (set own g 0) places x d ∙ ap (λ (k : ℕ). eqb k x) (left_at x) ∙ at_own (is_in x (without g keep)) d

    -- glyph g is one of the culprits where it is freed
    pub freed_is : (p : Program) (name : List ℕ) (words lent : ℕ) → 0 < length p.charstrings → frees p name own words lent g ≡ is_culprit p name keep words lent g
    unfolding frees is_culprit
    freed_is p name words lent there =
        ap (λ (k : ℕ). pick (eqb k 0) false (has_way Renumbered (traced_cut p name (set own g 0) words lent))) (own_at g)
        ∙ ap (λ (o : Bool). pick (eqb (pick (is_in g keep) g 0) 0) false o)
        (ap (has_way Renumbered) (cut_keeps p name (set own g 0) (without g keep) words lent there left-keeps))
        ∙ by (is_in g keep) (has_way Renumbered (traced_cut p name (without g keep) words lent))
      where
        by : (t b : Bool) → pick (eqb (pick t g 0) 0) false b ≡ pick t b false
        by true b = ap (λ (u : Bool). pick u false b) (ne_eqb g 0 (λ e. omega arith))
        by false b = refl

  pub least_is : (p : Program) (name : List ℕ) (words lent : ℕ) → n ≡ length p.charstrings → 0 < n
      → first_of (those (frees p name own words lent) (length own - 1) 1) ≡ least_culprit p name keep words lent
  unfolding least_culprit
  least_is p name words lent many some =
      ap (λ (m : ℕ). first_of (those (frees p name own words lent) (m - 1) 1)) own-length
      ∙ ap first_of (those-from (frees p name own words lent) (is_culprit p name keep words lent) (n - 1) 1
      (λ k a b. freed_is k (omega arith) (omega arith) p name words lent (omega arith)))
      ∙ ap (λ (m : ℕ). first_of (those (is_culprit p name keep words lent) (m - 1) 1)) many

-- ---- one alone

-- where no other than g passes, the first is g if it does
module _ (test : ℕ → Bool) (m g : ℕ) (others : (h : ℕ) → (g ≡ h → ⊥) → test h ≡ false) where
  first_absent : test g ≡ false → None ≡ first_of (those test m 1)
  first_absent e = sym (none_first test m 1 (λ h l k. by h (eqb g h) refl))
    where
      by : (h : ℕ) (t : Bool) → eqb g h ≡ t → test h ≡ false
      by h true q = ap test (sym (eqb-true g h q)) ∙ e
      by h false q = others h (eqb-false g h q)

  first_present : test g ≡ true → 1 ≤ g → g < 1 + m → Some g ≡ first_of (those test m 1)
  first_present e l k = by (those test m 1) refl
    where
      by : (gs : List ℕ) → those test m 1 ≡ gs → Some g ≡ first_of (those test m 1)
      by [] z = absurd (zero_one (let n : true ≡ false = sym e ∙ first-none test m 1 (ap first_of z) g l k in cc))
      by (x ∷ gs) z =
          let i = first_is test m 1 x (ap first_of z) in
          same x (eqb g x) refl i.2 ∙ sym (ap first_of z)
        where
          same : (y : ℕ) (t : Bool) → eqb g y ≡ t → test y ≡ true → Some g ≡ Some y
          same y true q f = ap Some (eqb-true g y q)
          same y false q f = absurd (zero_one (let n : true ≡ false = sym f ∙ others y (eqb-false g y q) in cc))

  pub first_alone : (t : Bool) → (1 ≤ g → t ≡ test g) → (g ≡ 0 → t ≡ false) → g < 1 + m → pick t (Some g) None ≡ first_of (those test m 1)
  first_alone t some first k = by (dec_le 1 g)
    where
      at : (u : Bool) → test g ≡ u → 1 ≤ g → pick u (Some g) None ≡ first_of (those test m 1)
      at true e l = first_present e l k
      at false e l = first_absent e

      by : Dec (1 ≤ g) → pick t (Some g) None ≡ first_of (those test m 1)
      by (yes l) = ap (λ (u : Bool). pick u (Some g) None) (some l) ∙ at (test g) refl l
      by (no l) =
          let z : g ≡ 0 = omega arith in
          ap (λ (u : Bool). pick u (Some g) None) (first z) ∙ sym (none_first test m 1 (λ h a b. others h (λ e. omega arith)))

-- ---- place by place

-- whether glyph g is freed, by what was read and tried
module _ (p : Program) (name list : List ℕ) (words lent g : ℕ) where
  pub free_zero : get_or list g 0 ≡ 0 → frees p name list words lent g ≡ false
  unfolding frees
  free_zero e = ap (λ (k : ℕ). pick (eqb k 0) false (has_way Renumbered (traced_cut p name (set list g 0) words lent))) e

  pub free_not : false ≡ has_way Renumbered (traced_cut p name (set list g 0) words lent) → frees p name list words lent g ≡ false
  unfolding frees
  free_not e = ap (λ (t : Bool). pick (eqb (get_or list g 0) 0) false t) (sym e) ∙ pick_same (eqb (get_or list g 0) 0) false

  pub free_is : (get_or list g 0 ≡ 0 → ⊥) → true ≡ has_way Renumbered (traced_cut p name (set list g 0) words lent) → frees p name list words lent g ≡ true
  unfolding frees
  free_is n e =
      ap (λ (t : Bool). pick t false (has_way Renumbered (traced_cut p name (set list g 0) words lent))) (ne_eqb (get_or list g 0) 0 n) ∙ sym e

  -- the answer where it is tried alone
  pub alone-none : frees p name list words lent g ≡ false → None ≡ pick (frees p name list words lent g) (Some g) None
  alone-none e = sym (ap (λ (t : Bool). pick t (Some g) None) e)

  pub alone_freed : frees p name list words lent g ≡ true → Some g ≡ pick (frees p name list words lent g) (Some g) None
  alone_freed e = sym (ap (λ (t : Bool). pick t (Some g) None) e)

-- what is left to search from g on gives what the whole search does
pub record Searching (test : ℕ → Bool) (n g : ℕ) : Type 0 where
  pub above : 1 ≤ g
  pub left : first_of (those test (n - 1) 1) ≡ first_of (those test (n - g) g)

module _ (test : ℕ → Bool) (n : ℕ) where
  pub search_start : Searching test n 1
  search_start = record { above = omega arith; left = refl }

  module _ (g : ℕ) (s : Searching test n g) where
    more : g < n → n - g ≡ suc (n - (g + 1))
    more h = omega arith

    -- one that fails
    pub search_next : g < n → test g ≡ false → Searching test n (g + 1)
    unfolding those
    search_next h e = record { above = omega (arith, s.above); left = s.left ∙ ap (λ (m : ℕ). first_of (those test m g)) (more h) ∙ rw e }

    -- one that passes
    pub search_found : g < n → test g ≡ true → Some g ≡ first_of (those test (n - 1) 1)
    unfolding those
    search_found h e = sym (s.left ∙ ap (λ (m : ℕ). first_of (those test m g)) (more h) ∙ rw e)

    -- none is left
    pub search_ends : n ≤ g → None ≡ first_of (those test (n - 1) 1)
    unfolding those
    search_ends h = let z : n - g ≡ 0 = omega arith in sym (s.left ∙ ap (λ (m : ℕ). first_of (those test m g)) z)

-- ---- the list of the code

-- what is left to spread
pub record Spreading (keep old : List ℕ) (i : ℕ) (list : List ℕ) : Type 0 where
  pub within : i ≤ length keep
  pub long : length list ≡ length old
  pub left : spread (drop i keep) list ≡ spread keep old

module _ (keep old : List ℕ) where
  pub spread-start : Spreading keep old 0 old
  spread-start = record { within = omega arith; long = refl; left = refl }

  module _ (i : ℕ) (list : List ℕ) (s : Spreading keep old i list) where
    pub spread-inside : all_below (length old) keep ≡ true → i < length keep → get_or keep i 0 < length list
    spread-inside below h = omega (arith, below_at (length old) keep below i h, s.long)

    pub spread-next : i < length keep → Spreading keep old (i + 1) (set list (get_or keep i 0) (get_or keep i 0))
    unfolding spread
    spread-next h =
        let z : drop i keep ≡ get_or keep i 0 ∷ drop (i + 1) keep = rw (add-one, drop-cons keep i 0) in
        record {
          within = omega arith;
          long = simp length-set s.long;
          left = sym (ap (λ (l : List ℕ). spread l list) z) ∙ s.left;
        }

    pub spread_done : length keep ≤ i → list ≡ spread keep old
    unfolding spread
    spread_done h =
        let z : drop i keep ≡ [] = drop_of_length-le keep {i = i} h in
        sym (ap (λ (l : List ℕ). spread l list) z) ∙ s.left

-- places that are 0
abbrev pub blank : ℕ → List ℕ
blank m = replicate m 0

no_glyphs : (n m : ℕ) → n ≤ m → take n (blank m) ≡ blank n
no_glyphs zero m h = refl
no_glyphs (suc n) zero h = absurd (omega arith)
no_glyphs (suc n) (suc m) h = ap (λ (l : List ℕ). 0 ∷ l) (no_glyphs n m (omega arith))

blank-length : (m : ℕ) → length (blank m) ≡ m
blank-length m = length-replicate m 0

-- the search by the first n of 65,536 places, n being how many glyphs there are
module _ (font : Opened) (keep : List ℕ) (below : all_below font.loaded.f.charstrings.count keep ≡ true) (all : List ℕ) (blanks : all ≡ blank 65536) where
  abbrev p : Program
  p = program font.loaded

  abbrev n : ℕ
  n = font.loaded.f.charstrings.count

  many : n ≡ length p.charstrings
  many = sym (items-length font.loaded.bytes.now font.loaded.f.charstrings)

  some : 0 < n
  some = font.loaded.good.some

  few : n < 65536
  few = font.loaded.good.ids.few

  first-blank : take n all ≡ blank n
  first-blank = ap (take n) blanks ∙ no_glyphs n 65536 (omega arith)

  pub places_there : n ≤ length all
  places_there = omega (arith, ap length blanks, blank-length 65536)

  pub spread-asked : all_below (length (take n all)) keep ≡ true
  spread-asked = ap (λ (l : List ℕ). all_below (length l) keep) first-blank ∙ ap (λ (k : ℕ). all_below k keep) (blank-length n) ∙ below

  module _ (list : List ℕ) (e : list ≡ spread keep (take n all)) where
    spread-own : list ≡ own keep n below
    spread-own = e ∙ ap (spread keep) first-blank

    pub spread_long : length list ≡ n
    spread_long = ap length spread-own ∙ own-length keep n below

    pub spread-few : length list < 65536
    spread-few = omega (arith, spread_long, few)

    -- by the one that alone can be the culprit
    module _ (a : Option ℕ) (only : Only p keep a) (g : ℕ) (is : a ≡ Some g) where
      alone-below : g < n
      alone-below = omega (arith, only.there g is, many)

      pub alone-inside : g < length list
      alone-inside = omega (arith, alone-below, spread_long)

      pub alone-found : (name : List ℕ) (words lent : ℕ) (r : Option ℕ) → r ≡ pick (frees p name list words lent g) (Some g) None
          → r ≡ least_culprit p name keep words lent
      unfolding least_culprit frees
      alone-found name words lent r q =
          q ∙ ap (λ (l : List ℕ). pick (frees p name l words lent g) (Some g) None) spread-own
          ∙ first_alone (is_culprit p name keep words lent) (length p.charstrings - 1) g (λ x. only.others g is name words lent x)
          (frees p name (own keep n below) words lent g)
          (λ l. freed_is keep n below g alone-below l p name words lent (omega (arith, some, many)))
          (λ z. ap (λ (k : ℕ). pick (eqb k 0) false (has_way Renumbered (traced_cut p name (set (own keep n below) g 0) words lent))) (own_at keep n below g ∙ at_zero (is_in g keep) z))
          (omega (arith, alone-below, many))
        where
          at_zero : (t : Bool) → g ≡ 0 → pick t g 0 ≡ 0
          at_zero true z = z
          at_zero false z = refl

    pub least-found : (name : List ℕ) (words lent : ℕ) (r : Option ℕ) → r ≡ first_of (those (frees p name list words lent) (length list - 1) 1)
        → r ≡ least_culprit p name keep words lent
    least-found name words lent r q =
        q ∙ ap (λ (l : List ℕ). first_of (those (frees p name l words lent) (length l - 1) 1)) spread-own ∙ least_is keep n below p name words lent many some
