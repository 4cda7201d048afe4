-- Laws of one glyph's id: the ranges before its own are passed, and its id is counted from the first of its range.
use Rattle.std.specs.Prelude.{ℕ, zero, suc, ◌+◌, ◌-◌, ◌*◌, ◌≤◌, ◌<◌, ◌≡◌, List, ◌∷◌, length, drop, get_or, Result, Ok}
use Rattle.std.proofs.Common.{sym, ap, ◌∙◌, subst, not-suc-le-zero, add-zero, sub-one, arith, drop-drop, get_or-drop}
use Rattle.octets.specs.Octets.{num_at}
use Rattle.octets.specs.OctetsLaws.{num-none}
use Rattle.charset.specs.Listed.{numbers_of}
use Rattle.charset.specs.Charset.{ids_from}
use Rattle.charset.specs.CharsetPlaces.{ids_of, GoodCharset}
use Rattle.charset.specs.CharsetLaws.{range_none}
use Rattle.charset.specs.IdCursorLaws.{id_on, id_met}
use Rattle.charset.specs.declared.Charset.{Charset}
use Rattle.refusal.specs.declared.Refusal.{Refusal}

-- the i-th id of the range under way
run_at : (w k id left : ℕ) (bs l : List ℕ) (i : ℕ) → ids_from w k id left bs ≡ Ok l → i < k → i < left → get_or l i 0 ≡ id + i
run_at w zero id left bs l i h m n = absurd (not-suc-le-zero m)
run_at w (suc k) id zero bs l i h m n = absurd (not-suc-le-zero n)
run_at w (suc k) id (suc left) bs l zero h m n =
    let o = id_on w k id left bs l h in
    ap (λ (t : List ℕ). get_or t 0 0) o.1 ∙ sym (add-zero id)
run_at w (suc k) id (suc left) bs l (suc i) h m n =
    let o = id_on w k id left bs l h in
    let e : id + 1 + i ≡ id + suc i = omega arith in
    ap (λ (t : List ℕ). get_or t (suc i) 0) o.1 ∙ run_at w k (id + 1) left bs (drop 1 l) i o.2 (omega arith) (omega arith) ∙ e

run_small : (w k id left : ℕ) (bs l : List ℕ) (i : ℕ) → ids_from w k id left bs ≡ Ok l → i < k → i < left → id + i < 65536
run_small w zero id left bs l i h m n = absurd (not-suc-le-zero m)
run_small w (suc k) id zero bs l i h m n = absurd (not-suc-le-zero n)
run_small w (suc k) id (suc left) bs l zero h m n = rw add-zero (id_on w k id left bs l h).0
run_small w (suc k) id (suc left) bs l (suc i) h m n =
    omega (arith, run_small w k (id + 1) left bs (drop 1 l) i (id_on w k id left bs l h).2 (omega arith) (omega arith))

-- behind the range under way
run_past : (w k id left : ℕ) (bs l : List ℕ) → ids_from w k id left bs ≡ Ok l → left ≤ k → ids_from w (k - left) 0 0 bs ≡ Ok (drop left l)
run_past w k id zero bs l h m = let e : k - 0 ≡ k = omega arith in rw e (range_none w k 0 id bs ∙ h)
run_past w zero id (suc left) bs l h m = absurd (not-suc-le-zero m)
run_past w (suc k) id (suc left) bs l h m =
    let o = id_on w k id left bs l h in
    let e : suc k - suc left ≡ k - left = omega arith in
    rw (e, o.1) (run_past w k (id + 1) left bs (drop 1 l) o.2 (omega arith))

-- ---- ranges that give the list l

-- by the first of them
first_range : (b : List ℕ) (q w k : ℕ) (l : List ℕ) → ids_from w k 0 0 (drop q b) ≡ Ok l → 0 < k
    → (q + 2 + w ≤ length b) × (l ≡ num_at b q 2 ∷ drop 1 l)
    × (ids_from w (k - 1) (num_at b q 2 + 1) (num_at b (q + 2) w) (drop (q + 2 + w) b) ≡ Ok (drop 1 l))
first_range b q w zero l h some = absurd (not-suc-le-zero some)
first_range b q w (suc k) l h some = rw sub-one (id_met b q w k 0 l h)

module _ (b : List ℕ) (q w k : ℕ) (l : List ℕ) (gives : ids_from w k 0 0 (drop q b) ≡ Ok l) where
  pub range_there : 0 < k → q + 2 + w ≤ length b
  range_there h = (first_range b q w k l gives h).0

  -- an id of the first range
  pub id_in : (i left : ℕ) → left ≡ num_at b (q + 2) w → i < k → i ≤ left → num_at b q 2 + i ≡ get_or l i 0
  id_in zero left e m n = add-zero (num_at b q 2) ∙ sym (ap (λ (t : List ℕ). get_or t 0 0) (first_range b q w k l gives m).1)
  id_in (suc i) left e m n =
      let o = first_range b q w k l gives (omega arith) in
      let a : num_at b q 2 + suc i ≡ num_at b q 2 + 1 + i = omega arith in
      a ∙ sym (ap (λ (t : List ℕ). get_or t (suc i) 0) o.1
      ∙ run_at w (k - 1) (num_at b q 2 + 1) (num_at b (q + 2) w) (drop (q + 2 + w) b) (drop 1 l) i o.2 (omega arith) (omega arith))

  pub id_small : (i left : ℕ) → left ≡ num_at b (q + 2) w → i < k → i ≤ left → num_at b q 2 < 65536 → num_at b q 2 + i < 65536
  id_small zero left e m n f = rw add-zero f
  id_small (suc i) left e m n f =
      let o = first_range b q w k l gives (omega arith) in
      omega (arith, run_small w (k - 1) (num_at b q 2 + 1) (num_at b (q + 2) w) (drop (q + 2 + w) b) (drop 1 l) i o.2 (omega arith) (omega arith))

  -- behind the first range
  pub ids-behind : (left : ℕ) → left ≡ num_at b (q + 2) w → left < k → ids_from w (k - 1 - left) 0 0 (drop (q + 2 + w) b) ≡ Ok (drop (1 + left) l)
  ids-behind left e h =
      let o = first_range b q w k l gives (omega arith) in
      rw (← drop-drop left 1 l, e) (run_past w (k - 1) (num_at b q 2 + 1) (num_at b (q + 2) w) (drop (q + 2 + w) b) (drop 1 l) o.2 (omega arith))

-- the walk to glyph g of the list l of n: it stands at a range at q, whose nLeft is left, and the glyph is the i-th from there
pub record Reaches (b : List ℕ) (w n g : ℕ) (l : List ℕ) (q i left : ℕ) : Type 0 where
  pub passed : ℕ
  pub all : passed + i ≡ g
  pub is : left ≡ num_at b (q + 2) w
  pub gives : ids_from w (n - passed) 0 0 (drop q b) ≡ Ok (drop passed l)

pub reach-start : (b : List ℕ) (w n g : ℕ) (l : List ℕ) (q left : ℕ) → ids_from w n 0 0 (drop q b) ≡ Ok l → left ≡ num_at b (q + 2) w
    → Reaches b w n g l q g left
reach-start b w n g l q left h e = let y : n - 0 ≡ n = omega arith in record { passed = 0; all = omega arith; is = e; gives = rw y h }

module _ (b : List ℕ) (w n g : ℕ) (l : List ℕ) (q i left : ℕ) (r : Reaches b w n g l q i left) (h : g < n) where
  pub reach_there : q + 2 + w ≤ length b
  reach_there = range_there b q w (n - r.passed) (drop r.passed l) r.gives (omega (arith, r.all))

  module _ (m : left < i) where
    behind : ids_from w (n - (r.passed + (1 + left))) 0 0 (drop (q + 2 + w) b) ≡ Ok (drop (r.passed + (1 + left)) l)
    behind =
        let o = ids-behind b q w (n - r.passed) (drop r.passed l) r.gives left r.is (omega (arith, r.all)) in
        let e : n - r.passed - 1 - left ≡ n - (r.passed + (1 + left)) = omega arith in
        rw (← e, ← drop-drop (1 + left) r.passed l) o

    pub behind_there : q + 2 + w + 2 + w ≤ length b
    behind_there = range_there b (q + 2 + w) w (n - (r.passed + (1 + left))) (drop (r.passed + (1 + left)) l) behind (omega (arith, r.all))

    pub reach-next : (more : ℕ) → more ≡ num_at b (q + 2 + w + 2) w → Reaches b w n g l (q + 2 + w) (i - 1 - left) more
    reach-next more e = record { passed = r.passed + (1 + left); all = omega (arith, r.all); is = e; gives = behind }

  pub reach_end : (first : ℕ) → first ≡ num_at b q 2 → i ≤ left → first + i ≡ get_or l g 0
  reach_end first e m =
      rw e (id_in b q w (n - r.passed) (drop r.passed l) r.gives i left r.is (omega (arith, r.all)) m
      ∙ get_or-drop r.passed l i 0 ∙ ap (λ (j : ℕ). get_or l j 0) r.all)

  pub reach-small : (first : ℕ) → first ≡ num_at b q 2 → first < 65536 → i ≤ left → first + i < 65536
  reach-small first e f m =
      let z : num_at b q 2 < 65536 = omega arith in
      omega (arith, id_small b q w (n - r.passed) (drop r.passed l) r.gives i left r.is (omega (arith, r.all)) m z)

-- ---- by the kind of the charset

-- format 0: the ids one behind the other
each_at : (b : List ℕ) (q k : ℕ) (l : List ℕ) (g : ℕ) → ids_from 0 k 0 0 (drop q b) ≡ Ok l → g < k
    → (q + 2 * g + 2 ≤ length b) × (num_at b (q + 2 * g) 2 ≡ get_or l g 0)
each_at b q k l zero h m =
    let o = first_range b q 0 k l h m in
    let e : q + 2 * 0 ≡ q = omega arith in
    rw e (omega (arith, o.0), sym (ap (λ (t : List ℕ). get_or t 0 0) o.1))
each_at b q k l (suc g) h m =
    let z = num-none b (q + 2) in
    let o = first_range b q 0 k l h (omega arith) in
    let e : q + 2 + 2 * g ≡ q + 2 * suc g = omega arith in
    let d : q + 2 + 0 ≡ q + 2 = omega arith in
    let y : k - 1 - 0 ≡ k - 1 = omega arith in
    let r = each_at b (q + 2) (k - 1) (drop 1 l) g (rw (d, y) at (ids-behind b q 0 k l h 0 z (omega arith))) (omega arith) in
    rw (← e) (r.0, r.1 ∙ sym (ap (λ (t : List ℕ). get_or t (suc g) 0) o.1))

read_is : (r : Result (List ℕ) Refusal) (l : List ℕ) → r ≡ Ok l → r ≡ Ok (numbers_of r)
read_is r l h = h ∙ ap Ok (sym (ap numbers_of h))

module _ (b : List ℕ) (c : Charset) (n gid : ℕ) (good : GoodCharset b c n) (h : gid < n) where
  -- a glyph whose id is its own number
  pub own_id : gid < c.own → gid ≡ get_or (ids_of b c n) gid 0
  own_id m = let e : 0 + gid ≡ gid = omega arith in sym (run_at c.width n 0 c.own (drop c.at b) (ids_of b c n) gid good.sound h m ∙ e)

  module _ (m : c.own ≤ gid) where
    ranges : ids_from c.width (n - c.own) 0 0 (drop c.at b) ≡ Ok (drop c.own (ids_of b c n))
    ranges = run_past c.width n 0 c.own (drop c.at b) (ids_of b c n) good.sound (omega arith)

    counted : get_or (drop c.own (ids_of b c n)) (gid - c.own) 0 ≡ get_or (ids_of b c n) gid 0
    counted = let e : c.own + (gid - c.own) ≡ gid = omega arith in get_or-drop c.own (ids_of b c n) (gid - c.own) 0 ∙ ap (λ (j : ℕ). get_or (ids_of b c n) j 0) e

    pub ranges-read : ids_from c.width (n - c.own) 0 0 (drop c.at b) ≡ Ok (numbers_of (ids_from c.width (n - c.own) 0 0 (drop c.at b)))
    ranges-read = read_is _ _ ranges

    pub ranges_id : get_or (numbers_of (ids_from c.width (n - c.own) 0 0 (drop c.at b))) (gid - c.own) 0 ≡ get_or (ids_of b c n) gid 0
    ranges_id = ap (λ (r : Result (List ℕ) Refusal). get_or (numbers_of r) (gid - c.own) 0) ranges ∙ counted

    module _ (z : c.width ≡ 0) where
      each : (c.at + 2 * (gid - c.own) + 2 ≤ length b) × (num_at b (c.at + 2 * (gid - c.own)) 2 ≡ get_or (drop c.own (ids_of b c n)) (gid - c.own) 0)
      each =
          each_at b c.at (n - c.own) (drop c.own (ids_of b c n)) (gid - c.own)
          (subst (λ (w : ℕ). ids_from w (n - c.own) 0 0 (drop c.at b) ≡ Ok (drop c.own (ids_of b c n))) z ranges) (omega arith)

      pub each_there : c.at + 2 * (gid - c.own) + 2 ≤ length b
      each_there = each.0

      pub each_id : num_at b (c.at + 2 * (gid - c.own)) 2 ≡ get_or (ids_of b c n) gid 0
      each_id = each.1 ∙ counted
