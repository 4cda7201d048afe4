-- What the one test of the table shows of the names: the order has each id once and rises strictly, so that all names differ.
use Rattle.std.specs.Prelude.{ℕ, zero, suc, ◌<◌, ◌≡◌, refl, Bool, true, false, List, [], ◌∷◌, map, ltb, eqb, length, get_or}
use Rattle.std.proofs.Common.{sym, ◌∙◌, le_of_suc-le-suc, not-suc-le-zero, add-one, arith, below_more, ltb-true, ltb-false, eqb-true}
use Rattle.std.proofs.Math.Path.{ap}
use Rattle.std.proofs.lemmas.List.{length-map}
use Rattle.std.proofs.Math.ListN.{get_or-map}
use Rattle.octets.specs.Pick.{pick_ind}
use Rattle.octets.specs.Lists.{all_below, before}
use Rattle.octets.specs.ListLaws.{below_at}
use Rattle.strings.specs.Table.{standard_order}
use Rattle.strings.specs.Text.{order_of}
use Rattle.strings.specs.TextLaws.{order_refl, order_trans}
use Rattle.strings.specs.Strings.{standard_string}
use Rattle.strings.specs.TableTest.{is_less, ordered, has_all, table_tests}
use Rattle.strings.proofs.TableLaws.{table-passes, and_left, and_right, every-at, order-length}
use Rattle.std.specs.declared.cmp.Ordering.{Ordering}
use Rattle.std.specs.declared.cmp.Ordering.TheVariants.{Less, Equal, Greater}

-- ---- byte order

names-ordered : ordered (map standard_string standard_order) ≡ true
unfolding table_tests
names-ordered = every-at table_tests table-passes 2

ids-below : all_below 391 standard_order ≡ true
unfolding table_tests
ids-below = every-at table_tests table-passes 3

ids_all : has_all 391 standard_order ≡ true
unfolding table_tests
ids_all = every-at table_tests table-passes 4

is-less : (o : Ordering) → is_less o ≡ true → o ≡ Less
unfolding is_less
is-less Less e = refl
is-less Equal e = cc
is-less Greater e = cc

ordered-tail : (s : List ℕ) (ss : List (List ℕ)) → ordered (s ∷ ss) ≡ true → ordered ss ≡ true
unfolding ordered
ordered-tail s [] e = refl
ordered-tail s (t ∷ ss) e = and_right (is_less (order_of s t)) (ordered (t ∷ ss)) e

ordered-head : (s : List ℕ) (ss : List (List ℕ)) (z : List ℕ) → ordered (s ∷ ss) ≡ true → (j : ℕ) → j < length ss → order_of s (get_or ss j z) ≡ Less
unfolding ordered
ordered-head s [] z e j h = absurd (not-suc-le-zero h)
ordered-head s (t ∷ ss) z e zero h = is-less (order_of s t) (and_left (is_less (order_of s t)) (ordered (t ∷ ss)) e)
ordered-head s (t ∷ ss) z e (suc j) h =
    order_trans s t (get_or ss j z) (is-less (order_of s t) (and_left (is_less (order_of s t)) (ordered (t ∷ ss)) e))
    (ordered-head t ss z (and_right (is_less (order_of s t)) (ordered (t ∷ ss)) e) j (le_of_suc-le-suc h))

ordered_at : (ss : List (List ℕ)) (z : List ℕ) → ordered ss ≡ true → (i j : ℕ) → i < j → j < length ss → order_of (get_or ss i z) (get_or ss j z) ≡ Less
ordered_at [] z e i j h k = absurd (not-suc-le-zero k)
ordered_at (s ∷ ss) z e i zero h k = absurd (not-suc-le-zero h)
ordered_at (s ∷ ss) z e zero (suc j) h k = ordered-head s ss z e j (le_of_suc-le-suc k)
ordered_at (s ∷ ss) z e (suc i) (suc j) h k = ordered_at ss z (ordered-tail s ss e) i j (le_of_suc-le-suc h) (le_of_suc-le-suc k)

place_is : (k : ℕ) (ks : List ℕ) → before k ks < length ks → get_or ks (before k ks) 0 ≡ k
unfolding before
place_is k [] h = absurd (not-suc-le-zero h)
place_is k (j ∷ js) h =
    pick_ind (λ p. p < length (j ∷ js) → get_or (j ∷ js) p 0 ≡ k) (eqb j k) 0 (suc (before k js))
    (λ t g. eqb-true j k t)
    (λ t g. place_is k js (le_of_suc-le-suc g))
    h

has-at : (n : ℕ) (ks : List ℕ) → has_all n ks ≡ true → (k : ℕ) → k < n → before k ks < length ks
unfolding has_all
has-at zero ks e k h = absurd (not-suc-le-zero h)
has-at (suc n) ks e k h =
    below_more (λ (j : ℕ). before j ks < length ks) n
    (has-at n ks (and_right (ltb (before n ks) (length ks)) (has_all n ks) e))
    (ltb-true (before n ks) (length ks) (and_left (ltb (before n ks) (length ks)) (has_all n ks) e))
    k (rw add-one h)

-- the i-th standard string in byte order
unfoldable pub in_order : ℕ → List ℕ
in_order i = standard_string (get_or standard_order i 0)

pub order-within : (i : ℕ) → i < 391 → get_or standard_order i 0 < 391
order-within i h = below_at 391 standard_order ids-below i (rw order-length h)

pub order-rises : (i j : ℕ) → i < j → j < 391 → order_of (in_order i) (in_order j) ≡ Less
unfolding in_order
order-rises i j h k =
    rw (← get_or-map standard_string standard_order i 0, ← get_or-map standard_string standard_order j 0)
    (ordered_at (map standard_string standard_order) (standard_string 0) names-ordered i j h (rw (length-map, order-length) k))

-- where an id stands in that order
unfoldable pub rank_of : ℕ → ℕ
rank_of k = before k standard_order

module _ (k : ℕ) (h : k < 391) where
  pub rank-within : rank_of k < 391
  unfolding rank_of
  rank-within = rw order-length at (has-at 391 standard_order ids_all k h)

  rank_is : get_or standard_order (rank_of k) 0 ≡ k
  unfolding rank_of
  rank_is = place_is k standard_order (has-at 391 standard_order ids_all k h)

  pub rank-name : in_order (rank_of k) ≡ standard_string k
  unfolding in_order
  rank-name = ap standard_string rank_is

-- ---- all names differ

apart : (i j : ℕ) → i < j → j < 391 → in_order i ≡ in_order j → ⊥
apart i j h k e =
    let l : order_of (in_order j) (in_order j) ≡ Less = rw e at (order-rises i j h k) in
    let s : order_of (in_order j) (in_order j) ≡ Equal = order_refl (in_order j) in
    let z : ◌≡◌ {A = ℕ} 0 1 = cc in omega arith

same_rank : (i j : ℕ) → i < 391 → j < 391 → in_order i ≡ in_order j → (s t : Bool) → ltb i j ≡ s → ltb j i ≡ t → i ≡ j
same_rank i j h k e true t p q = absurd (apart i j (ltb-true i j p) k e)
same_rank i j h k e false true p q = absurd (apart j i (ltb-true j i q) h (sym e))
same_rank i j h k e false false p q = omega (arith, ltb-false i j p, ltb-false j i q)

pub names-differ : (i j : ℕ) → i < 391 → j < 391 → standard_string i ≡ standard_string j → i ≡ j
names-differ i j h k e =
    let r : rank_of i ≡ rank_of j
    = same_rank (rank_of i) (rank_of j) (rank-within i h) (rank-within j k) (rank-name i h ∙ e ∙ sym (rank-name j k)) _ _ refl refl in
    sym (rank_is i h) ∙ ap (λ (n : ℕ). get_or standard_order n 0) r ∙ rank_is j k
