-- Laws of two lengths at one offset: among the keys of a body in order they are neighbours, and neighbours are seen by windows each of which begins with
-- the last key of the one before it.
use Prim.Native.Nat.{ℕ, zero, suc, ◌+◌, ◌-◌, ◌*◌, ◌/◌, ◌%◌, ◌≤◌, ◌<◌}
use Rattle.std.specs.Prelude.{◌≡◌, refl, Bool, false, ltb, eqb, length, take}
use Rattle.std.proofs.Math.Path.{sym, ap}
use Rattle.std.proofs.Common.{◌∙◌, subst, not-suc-le-zero, eq-eqb, ne_eqb, eqb-true, ltb-true, ltb-false, take-append-drop, take-take, get_or-take}
use Rattle.std.proofs.Math.Bool.{true}
use Rattle.std.proofs.lemmas.Bool.{false≢true}
use mathlib.Core.List.{List, [], ◌∷◌, ◌++◌}
use native.Mathlib.Omega.{arith}
use Rattle.std.proofs.Math.ListN.{drop, get_or}
use Rattle.std.proofs.Math.Seq.{length-take-le, take-append-add, drop-cons}
use Rattle.octets.specs.Pick.{pick}
use Rattle.octets.specs.PickLaws.{not_true}
use Rattle.octets.specs.Octets.{Octets}
use Rattle.unfold.specs.Unfold.{Row, Site, masked}
use Rattle.record.specs.Record.{rows_of, lists, two_lengths_lem}
use Rattle.subset.specs.Kept.{is_in}
use Rattle.unfold.specs.Sites.{site_of}
use Rattle.reach.specs.Reach.{Fits}
use Rattle.reach.specs.RowLaws.{all_fit}
use Rattle.reach.specs.Cases.{by_number, by_order}
use Rattle.unfold.specs.declared.Site as code
use Rattle.unfold.specs.declared.Site.TheVariants.{Glyph, Local, Global}
use Rattle.row_window.specs.Window.{within, Above, Rising, none, one, Gathers}
use Rattle.row_window.specs.WindowLaws.{above-less, rising-gathered}
use Rattle.row_window.specs.MergeLaws.{gathers-few}
use Rattle.row_window.specs.NextLaws.{window-whole, window-next, front-inside}
use Rattle.mask_rows.specs.MaskRows.{keys_in, room_in}
use Rattle.mask_rows.specs.KeyLaws.{mask, in_gathered, in_range, lists-key, lists-none}
use Rattle.mask_rows.specs.SameLaws.{either_left, either-right, same_truth, two-found, two_back}
use Rattle.long_bodies.specs.Offsets.{body_in, keys_to, keys_from, two_in_lem}
use Rattle.long_bodies.specs.declared.offsets.Body.{Body}

-- ---- which keys are among some

pub in_at : (l : List ℕ) (i : ℕ) → i < length l → is_in (get_or l i 0) l ≡ true
unfolding is_in
in_at [] i h = absurd (not-suc-le-zero h)
in_at (x ∷ l) zero h = either_left (eqb x x) (is_in x l) (eq-eqb x x refl)
in_at (x ∷ l) (suc i) h = either-right (eqb x (get_or l i 0)) (is_in (get_or l i 0) l) (in_at l i (omega arith))

above_in : (mid k : ℕ) (l : List ℕ) → Above mid l → is_in k l ≡ true → mid ≤ k
unfolding is_in
above_in mid k [] a e = absurd (false≢true e)
above_in mid k (x ∷ l) (one h a) e = by (eqb x k) refl e (above_in mid k l a)
  where
    by : (t : Bool) → eqb x k ≡ t → pick t true (is_in k l) ≡ true → (is_in k l ≡ true → mid ≤ k) → mid ≤ k
    by true s f again = omega (arith, h, eqb-true x k s)
    by false s f again = again f

in_within : (k low high : ℕ) (ks : List ℕ) → is_in k (within low high ks) ≡ true → (low ≤ k) × (k < high)
unfolding within is_in
in_within k low high [] e = absurd (false≢true e)
in_within k low high (x ∷ ks) e = by (ltb x low) (ltb x high) refl refl e (in_within k low high ks)
  where
    here : (t : Bool) → ltb x low ≡ false → ltb x high ≡ true → eqb x k ≡ t → pick t true (is_in k (within low high ks)) ≡ true
        → (is_in k (within low high ks) ≡ true → (low ≤ k) × (k < high)) → (low ≤ k) × (k < high)
    here true l h s f again = (omega (arith, ltb-false x low l, eqb-true x k s), omega (arith, ltb-true x high h, eqb-true x k s))
    here false l h s f again = again f

    by : (t u : Bool) → ltb x low ≡ t → ltb x high ≡ u → is_in k (pick (pick t false u) (x ∷ within low high ks) (within low high ks)) ≡ true
        → (is_in k (within low high ks) ≡ true → (low ≤ k) × (k < high)) → (low ≤ k) × (k < high)
    by true u l h f again = again f
    by false true l h f again = here (eqb x k) l h refl f again
    by false false l h f again = again f

-- the keys of a range are in it
pub in_to : (rec : List ℕ) (b : Body) (low high k : ℕ) → is_in k (keys_to rec b low high) ≡ true → (low ≤ k) × (k < high)
unfolding is_in
in_to rec b low high k e =
    let ks = keys_in b.kind b.fd rec in
    in_within k low high ks (sym (in_gathered k [] (within low high ks)) ∙ e)

in_from : (rec : List ℕ) (b : Body) (low k : ℕ) → is_in k (keys_from rec b low) ≡ true → (low ≤ k) × (k < (b.number + 1) * 281474976710656)
in_from rec b low k e = in_to rec b low ((b.number + 1) * 281474976710656) k e

-- ---- neighbours

-- two keys of one offset
pub record Pair (l : List ℕ) : Type 0 where
  pub x : ℕ
  pub y : ℕ
  pub less : x < y
  pub same : x / 65536 ≡ y / 65536
  pub first : is_in x l ≡ true
  pub second : is_in y l ≡ true

pair-on : (z : ℕ) (l : List ℕ) → Pair l → Pair (z ∷ l)
unfolding is_in
pair-on z l p =
    record {
      x = p.x;
      y = p.y;
      less = p.less;
      same = p.same;
      first = either-right (eqb z p.x) (is_in p.x l) p.first;
      second = either-right (eqb z p.y) (is_in p.y l) p.second;
    }

pair_found : (l : List ℕ) → Rising l → two_in_lem l ≡ true → Pair l
unfolding two_in_lem is_in
pair_found [] r e = absurd (false≢true e)
pair_found (x ∷ []) r e = absurd (false≢true e)
pair_found (x ∷ y ∷ ks) (one (one h a) r) e = by (eqb (x / 65536) (y / 65536)) refl e (pair_found (y ∷ ks) r)
  where
    by : (t : Bool) → eqb (x / 65536) (y / 65536) ≡ t → pick t true (two_in_lem (y ∷ ks)) ≡ true → (two_in_lem (y ∷ ks) ≡ true → Pair (y ∷ ks)) → Pair (x ∷ y ∷ ks)
    by true s f again =
        record {
          x = x;
          y = y;
          less = omega (arith, h);
          same = eqb-true (x / 65536) (y / 65536) s;
          first = in_at (x ∷ y ∷ ks) 0 (omega arith);
          second = in_at (x ∷ y ∷ ks) 1 (omega arith);
        }
    by false s f again = pair-on x (y ∷ ks) (again f)

pair-two : (l : List ℕ) → Rising l → (a b : ℕ) → a < b → a / 65536 ≡ b / 65536 → is_in a l ≡ true → is_in b l ≡ true → two_in_lem l ≡ true
unfolding two_in_lem is_in
pair-two [] r a b h s e f = absurd (false≢true e)
pair-two (x ∷ []) r a b h s e f = by (eqb x a) (eqb x b) refl refl e f
  where
    by : (t u : Bool) → eqb x a ≡ t → eqb x b ≡ u → pick t true false ≡ true → pick u true false ≡ true → two_in_lem (x ∷ []) ≡ true
    by true true i j k l = absurd (omega (arith, h, eqb-true x a i, eqb-true x b j))
    by true false i j k l = absurd (false≢true l)
    by false u i j k l = absurd (false≢true k)
pair-two (x ∷ y ∷ ks) (one (one q p) r) a b h s e f = by (eqb x a) (eqb x b) refl refl e f (pair-two (y ∷ ks) r a b h s)
  where
    above_of : Rising (y ∷ ks) → Above y (y ∷ ks)
    above_of (one o i) = one {x = y} (omega arith) (above-less ks (omega arith) o)

    by : (t u : Bool) → eqb x a ≡ t → eqb x b ≡ u → pick t true (is_in a (y ∷ ks)) ≡ true → pick u true (is_in b (y ∷ ks)) ≡ true
        → (is_in a (y ∷ ks) ≡ true → is_in b (y ∷ ks) ≡ true → two_in_lem (y ∷ ks) ≡ true) → pick (eqb (x / 65536) (y / 65536)) true (two_in_lem (y ∷ ks)) ≡ true
    by true true i j k l again = absurd (omega (arith, h, eqb-true x a i, eqb-true x b j))
    by true false i j k l again =
        let m = above_in y b (y ∷ ks) (above_of r) l in
        let n = eqb-true x a i in
        either_left (eqb (x / 65536) (y / 65536)) (two_in_lem (y ∷ ks)) (eq-eqb (x / 65536) (y / 65536) (omega (arith, m, n, q, s)))
    by false true i j k l again = absurd (omega (arith, h, q, above_in y a (y ∷ ks) (above_of r) k, eqb-true x b j))
    by false false i j k l again = either-right (eqb (x / 65536) (y / 65536)) (two_in_lem (y ∷ ks)) (again k l)

two-longer : (a b : List ℕ) → two_in_lem a ≡ true → two_in_lem (a ++ b) ≡ true
unfolding two_in_lem
two-longer [] b e = absurd (false≢true e)
two-longer (x ∷ []) b e = absurd (false≢true e)
two-longer (x ∷ y ∷ a) b e = by (eqb (x / 65536) (y / 65536)) e (two-longer (y ∷ a) b)
  where
    by : (t : Bool) → pick t true (two_in_lem (y ∷ a)) ≡ true → (two_in_lem (y ∷ a) ≡ true → two_in_lem ((y ∷ a) ++ b) ≡ true) → pick t true (two_in_lem ((y ∷ a) ++ b)) ≡ true
    by true f again = refl
    by false f again = again f

-- a list in two parts: neighbours of the first and one more, and neighbours of the second
two-split : (a b : List ℕ) → two_in_lem (a ++ b) ≡ pick (two_in_lem (a ++ take 1 b)) true (two_in_lem b)
unfolding two_in_lem
two-split [] [] = refl
two-split [] (y ∷ b) = refl
two-split (x ∷ []) [] = refl
two-split (x ∷ []) (y ∷ b) = by (eqb (x / 65536) (y / 65536))
  where
    by : (t : Bool) → pick t true (two_in_lem (y ∷ b)) ≡ pick (pick t true false) true (two_in_lem (y ∷ b))
    by true = refl
    by false = refl
two-split (x ∷ y ∷ a) b = by (eqb (x / 65536) (y / 65536)) (two-split (y ∷ a) b)
  where
    by : (t : Bool) → two_in_lem ((y ∷ a) ++ b) ≡ pick (two_in_lem ((y ∷ a) ++ take 1 b)) true (two_in_lem b)
        → pick t true (two_in_lem ((y ∷ a) ++ b)) ≡ pick (pick t true (two_in_lem ((y ∷ a) ++ take 1 b))) true (two_in_lem b)
    by true e = refl
    by false e = e

-- ---- a pass over neighbours

two-few : (l : List ℕ) → length l ≤ 1 → two_in_lem l ≡ false
unfolding two_in_lem
two-few [] h = refl
two-few (x ∷ []) h = refl
two-few (x ∷ y ∷ l) h = absurd (omega arith)

module _ (keys : List ℕ) where
  pub pass-start : two_in_lem (drop (1 - 1) keys) ≡ two_in_lem keys
  pass-start = refl

  module _ (i : ℕ) (some : 0 < i) (w : two_in_lem (drop (i - 1) keys) ≡ two_in_lem keys) where
    here : i < length keys → two_in_lem (drop (i - 1) keys) ≡ pick (eqb (get_or keys (i - 1) 0 / 65536) (get_or keys i 0 / 65536)) true (two_in_lem (drop (i + 1 - 1) keys))
    unfolding two_in_lem
    here h =
        let s : suc (i - 1) ≡ i = omega arith in
        let t : i + 1 - 1 ≡ i = omega arith in
        let a : drop (i - 1) keys ≡ get_or keys (i - 1) 0 ∷ drop i keys
        = drop-cons keys (i - 1) 0 (omega arith) ∙ ap (λ (m : ℕ). get_or keys (i - 1) 0 ∷ drop m keys) s in
        let b : drop i keys ≡ get_or keys i 0 ∷ drop (suc i) keys = drop-cons keys i 0 h in
        let c : drop (i + 1 - 1) keys ≡ get_or keys i 0 ∷ drop (suc i) keys = ap (λ (m : ℕ). drop m keys) t ∙ b in
        ap two_in_lem (a ∙ ap (λ (l : List ℕ). get_or keys (i - 1) 0 ∷ l) b)
        ∙ ap (λ (l : List ℕ). pick (eqb (get_or keys (i - 1) 0 / 65536) (get_or keys i 0 / 65536)) true (two_in_lem l)) (sym c)

    pub pass-found : i < length keys → get_or keys (i - 1) 0 / 65536 ≡ get_or keys i 0 / 65536 → true ≡ two_in_lem keys
    pass-found h e = sym (sym w ∙ here h ∙ either_left (eqb (get_or keys (i - 1) 0 / 65536) (get_or keys i 0 / 65536)) (two_in_lem (drop (i + 1 - 1) keys)) (eq-eqb _ _ e))

    pub pass_on : i < length keys → (get_or keys (i - 1) 0 / 65536 ≡ get_or keys i 0 / 65536 → ⊥) → two_in_lem (drop (i + 1 - 1) keys) ≡ two_in_lem keys
    pass_on h e =
        let f = ne_eqb (get_or keys (i - 1) 0 / 65536) (get_or keys i 0 / 65536) e in
        sym (ap (λ (t : Bool). pick t true (two_in_lem (drop (i + 1 - 1) keys))) f) ∙ sym (here h) ∙ w

    pub pass_done : length keys ≤ i → false ≡ two_in_lem keys
    pass_done h = sym (two-few (drop (i - 1) keys) (short (i - 1) keys (omega arith))) ∙ w
      where
        short : (m : ℕ) (l : List ℕ) → length l ≤ m + 1 → length (drop m l) ≤ 1
        short zero l q = omega arith
        short (suc m) [] q = omega arith
        short (suc m) (x ∷ l) q = short m l (omega arith)

-- ---- windows one after the other

module _ (rec : List ℕ) (b : Body) (low : ℕ) (old keys : List ℕ) (n : ℕ)
    (g : Gathers (within low ((b.number + 1) * 281474976710656) (keys_in b.kind b.fd rec)) old keys n) (some : 1 < room_in old) where
  abbrev all : List ℕ
  all = keys_from rec b low

  pub two-whole : n < room_in keys → two_in_lem (take n keys) ≡ two_in_lem all
  two-whole h = ap two_in_lem (window-whole (room_in old) n keys all g.window.fits (omega (arith, g.room)) g.holds)

  module _ (full : room_in keys ≤ n) where
    count : n ≡ room_in old
    count = omega (arith, gathers-few g, g.room)

    first : take n keys ≡ take n all
    first = g.holds ∙ ap (λ (m : ℕ). take m all) (sym count)

    -- the keys behind the last but one
    abbrev rest : List ℕ
    rest = keys_from rec b (get_or keys (n - 2) 0 + 1)

    parts : all ≡ take (n - 1) keys ++ rest
    parts =
        let c = count in
        let e : take (n - 1) keys ≡ take (n - 1) all
        = sym (take-take (n - 1) n keys (omega arith)) ∙ ap (take (n - 1)) first ∙ take-take (n - 1) n all (omega arith) in
        let s : n - 1 - 1 ≡ n - 2 = omega arith in
        window-next low ((b.number + 1) * 281474976710656) (n - 1) keys (keys_in b.kind b.fd rec) (omega arith) (omega (arith, g.window.fits)) e
        ∙ ap (λ (m : ℕ). take (n - 1) keys ++ keys_from rec b (get_or keys m 0 + 1)) s

    one_more : take (n - 1) keys ++ take 1 rest ≡ take n keys
    one_more =
        let c = count in
        let s : length (take (n - 1) keys) + 1 ≡ n = omega (arith, length-take-le (n - 1) keys (omega (arith, g.window.fits))) in
        sym (take-append-add (take (n - 1) keys) rest 1) ∙ ap (λ (m : ℕ). take m (take (n - 1) keys ++ rest)) s ∙ ap (take n) (sym parts) ∙ sym first

    -- THE LAW of two windows: neighbours of the first, or of what begins with its last key
    pub two-next : two_in_lem (take n keys) ≡ false → two_in_lem rest ≡ two_in_lem all
    two-next e =
        sym (ap two_in_lem parts ∙ two-split (take (n - 1) keys) rest ∙ ap (λ (t : Bool). pick t true (two_in_lem rest)) (ap two_in_lem one_more ∙ e))

    inside : is_in (get_or keys (n - 2) 0) all ≡ true
    inside =
        let c = count in
        let size : n ≤ length all = front-inside n all (sym (ap length first) ∙ length-take-le n keys g.window.fits) in
        let e : get_or keys (n - 2) 0 ≡ get_or all (n - 2) 0
        = sym (get_or-take n keys (n - 2) 0 (omega arith)) ∙ ap (λ (l : List ℕ). get_or l (n - 2) 0) first ∙ get_or-take n all (n - 2) 0 (omega arith) in
        ap (λ (k : ℕ). is_in k all) e ∙ in_at all (n - 2) (omega arith)

    pub next_further : (low < get_or keys (n - 2) 0 + 1) × (get_or keys (n - 2) 0 < (b.number + 1) * 281474976710656)
    next_further = let q = in_from rec b low (get_or keys (n - 2) 0) inside in (omega (arith, q.0), q.1)

  pub two-some : two_in_lem (take n keys) ≡ true → true ≡ two_in_lem all
  two-some e =
      sym (ap two_in_lem (sym (take-append-drop (room_in old) all)) ∙ two-longer (take (room_in old) all) (drop (room_in old) all) (ap two_in_lem (sym g.holds) ∙ e))

-- ---- the record

-- a site's rows
pub site_mask : (s : code.Site) (offset len : ℕ) → masked (site_of s) offset len ≡ mask (body_in s).kind (body_in s).fd (body_in s).number offset len
site_mask (Glyph g) offset len = refl
site_mask (Local fd k) offset len = refl
site_mask (Global k) offset len = refl

module _ (rec : List ℕ) (octets : Octets rec) (b : Body) (few : b.number < 65535) (site : Site)
    (is : (offset len : ℕ) → masked site offset len ≡ mask b.kind b.fd b.number offset len) where
  abbrev pub key_at : ℕ → ℕ → ℕ
  key_at offset len = (b.number * 4294967296 + offset) * 65536 + len

  -- what the record lists is among the keys
  pub listed : (low high offset len : ℕ) → offset < 4294967296 → len < 65536 → low ≤ key_at offset len → key_at offset len < high
      → lists (rows_of rec) (masked site offset len) ≡ is_in (key_at offset len) (keys_to rec b low high)
  unfolding is_in
  listed low high offset len near short l h =
      let key = key_at offset len in
      let ks = keys_in b.kind b.fd rec in
      ap (lists (rows_of rec)) (is offset len)
      ∙ lists-key b.kind b.fd b.number offset len few near short (rows_of rec) (all_fit rec octets)
      ∙ sym (in_range key low high l h ks) ∙ sym (in_gathered key [] (within low high ks))

  listed-fits : (offset len : ℕ) → lists (rows_of rec) (masked site offset len) ≡ true → (offset < 4294967296) × (len < 65536)
  listed-fits offset len e = (
    by_order offset 4294967296 (λ near. near) (λ far. other (λ r f o l. absurd (omega (arith, f.offset, o)))),
    by_order len 65536 (λ short. short) (λ long. other (λ r f o l. absurd (omega (arith, f.len, l)))),
  )
    where
      other : {P : Type 0} → ((r : Row) → Fits r → r.offset ≡ offset → r.len ≡ len → ⊥) → P
      other n =
          absurd (false≢true (sym (ap (lists (rows_of rec)) (is offset len) ∙ lists-none (rows_of rec) (mask b.kind b.fd b.number offset len) (all_fit rec octets) n) ∙ e))

  -- THE LAW of two lengths
  pub two-sorted : two_in_lem (keys_from rec b (b.number * 281474976710656)) ≡ two_lengths_lem (rows_of rec) site
  two-sorted = same_truth (two_in_lem all) (two_lengths_lem (rows_of rec) site) forth back
    where
      low : ℕ
      low = b.number * 281474976710656

      high : ℕ
      high = (b.number + 1) * 281474976710656

      all : List ℕ
      all = keys_from rec b low

      rises : Rising all
      rises = rising-gathered [] (within low ((b.number + 1) * 281474976710656) (keys_in b.kind b.fd rec)) none

      forth : two_in_lem all ≡ true → two_lengths_lem (rows_of rec) site ≡ true
      forth e =
          let p = pair_found all rises e in
          let u = in_from rec b low p.x p.first in
          let v = in_from rec b low p.y p.second in
          let offset = p.x / 65536 % 4294967296 in
          let x : key_at offset (p.x % 65536) ≡ p.x = omega (arith, u.0, u.1) in
          let y : key_at offset (p.y % 65536) ≡ p.y = omega (arith, p.same, v.0, v.1) in
          two_back (rows_of rec) site offset (p.x % 65536) (p.y % 65536) (λ h. absurd (omega (arith, h, p.less, p.same)))
          (listed low high offset (p.x % 65536) (omega arith) (omega arith) (omega arith) (omega arith) ∙ ap (λ (k : ℕ). is_in k all) x ∙ p.first)
          (listed low high offset (p.y % 65536) (omega arith) (omega arith) (omega arith) (omega arith) ∙ ap (λ (k : ℕ). is_in k all) y ∙ p.second)

      pair : (offset m n : ℕ) → m < n → lists (rows_of rec) (masked site offset m) ≡ true → lists (rows_of rec) (masked site offset n) ≡ true → two_in_lem all ≡ true
      pair offset m n h e f =
          let u = listed-fits offset m e in
          let v = listed-fits offset n f in
          pair-two all rises (key_at offset m) (key_at offset n) (omega arith) (omega (arith, u.1, v.1))
          (sym (listed low high offset m u.0 u.1 (omega arith) (omega (arith, u.0, u.1))) ∙ e) (sym (listed low high offset n v.0 v.1 (omega arith) (omega (arith, v.0, v.1))) ∙ f)

      back : two_lengths_lem (rows_of rec) site ≡ true → two_in_lem all ≡ true
      back e =
          let w = two-found (rows_of rec) site e in
          by_order w.one w.two (λ h. pair w.offset w.one w.two h w.first w.second)
          (λ h. by_number w.one w.two (λ s. absurd (w.other s)) (λ n. pair w.offset w.two w.one (less w.two w.one h n) w.second w.first))
        where
          less : (m n : ℕ) → m ≤ n → (n ≡ m → ⊥) → m < n
          less m n h d = by_order m n (λ l. l) (λ l. let s : n ≡ m = omega arith in absurd (d s))

-- ---- a pass by windows

-- before the first, the keys of the body are all
pub two-start : (rec : List ℕ) → Octets rec → (s : code.Site) → (body_in s).number < 65535 → (b : Body) → b ≡ body_in s
    → two_in_lem (keys_from rec b (b.number * 281474976710656)) ≡ two_lengths_lem (rows_of rec) (site_of s)
two-start rec octets s few b e =
    two-sorted rec octets b (subst (λ (x : Body). x.number < 65535) (sym e) few) (site_of s)
    (λ o l. site_mask s o l ∙ ap (λ (x : Body). mask x.kind x.fd x.number o l) (sym e))

-- behind the last there is none
pub two_past : (rec : List ℕ) (b : Body) (low : ℕ) → (b.number + 1) * 281474976710656 ≤ low → false ≡ two_in_lem (keys_from rec b low)
two_past rec b low h =
    sym (not_true (two_in_lem (keys_from rec b low)) (λ e.
    let p = pair_found (keys_from rec b low) (rising-gathered [] (within low ((b.number + 1) * 281474976710656) (keys_in b.kind b.fd rec)) none) e in
    let q = in_from rec b low p.x p.first in
    absurd (omega (arith, q.0, q.1))))
