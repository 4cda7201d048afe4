-- Why halving the names in byte order finds the id of a text: what each comparison leaves out, and what is left at the end.
use Rattle.std.specs.Prelude.{ℕ, ◌+◌, ◌≤◌, ◌<◌, ◌≡◌, refl, Bool, true, false, List, ltb, get_or, None, Some}
use Rattle.std.proofs.Math.Path.{sym}
use Rattle.std.proofs.Common.{◌∙◌, subst, ⊎_elim, eq-or-lt_of_le, not-suc-le-zero, arith, below_more, ltb-true, ltb-false}
use Rattle.strings.specs.Table.{standard_order}
use Rattle.strings.specs.Text.{order_of}
use Rattle.strings.specs.TextLaws.{order_refl, order_same, order_trans, order_flip}
use Rattle.strings.specs.Strings.{standard_string, sid_of}
use Rattle.strings.proofs.NamesLaws.{in_order, order-within, order-rises, rank_of, rank-within, rank-name}
use Rattle.strings.proofs.StringsLaws.{sid_is, sid_none}
use Rattle.std.specs.declared.cmp.Ordering.{Ordering}
use Rattle.std.specs.declared.cmp.Ordering.TheVariants.{Less, Equal, Greater}

-- the names before low are less than the text, and the text is less than the names from high on
pub record Narrowed (text : List ℕ) (low high : ℕ) : Type 0 where
  pub before : (i : ℕ) → i < low → order_of (in_order i) text ≡ Less
  pub behind : (i : ℕ) → high ≤ i → i < 391 → order_of text (in_order i) ≡ Less

pub narrowed_not : (text : List ℕ) → Narrowed text 0 391
narrowed_not text = record { before = λ i h. absurd (not-suc-le-zero h); behind = λ i h k. absurd (omega arith) }

module _ (text : List ℕ) (low high middle : ℕ) (n : Narrowed text low high) (h : middle < 391) where
  pub narrowed_up : order_of (in_order middle) text ≡ Less → Narrowed text (middle + 1) high
  narrowed_up e =
      record {
        before = below_more (λ (i : ℕ). order_of (in_order i) text ≡ Less) middle
            (λ i k. order_trans (in_order i) (in_order middle) text (order-rises i middle k h) e) e;
        behind = n.behind;
      }

  pub narrowed_down : order_of (in_order middle) text ≡ Greater → Narrowed text low middle
  narrowed_down e =
      let f : order_of text (in_order middle) ≡ Less = order_flip (in_order middle) text e in
      record {
        before = n.before;
        behind = λ i k l.
            ⊎_elim
            (λ m. subst (λ (j : ℕ). order_of text (in_order j) ≡ Less) m f)
            (λ m. order_trans text (in_order middle) (in_order i) f (order-rises middle i m l))
            (eq-or-lt_of_le k);
      }

-- the name that is compared
module _ (i : ℕ) (h : i < 391) where
  pub compared : (name text : List ℕ) (o : Ordering) → name ≡ standard_string (get_or standard_order i 0) → o ≡ order_of name text → order_of (in_order i) text ≡ o
  unfolding in_order
  compared name text o f g = sym (g ∙ rw f)

  -- a name that is neither less nor more is the text
  pub searched_same : (text : List ℕ) → order_of (in_order i) text ≡ Equal → Some (get_or standard_order i 0) ≡ sid_of text
  unfolding in_order
  searched_same text f = sym (sid_is text (get_or standard_order i 0) (order-within i h) (order_same (in_order i) text f))

-- no name is the text where none is left
left_out : (text : List ℕ) (low high : ℕ) → Narrowed text low high → high ≤ low → (i : ℕ) → i < 391 → in_order i ≡ text → (t : Bool) → ltb i low ≡ t → ⊥
left_out text low high n h i k e true t =
    let l : order_of text text ≡ Less = rw e at (n.before i (ltb-true i low t)) in
    let s = order_refl text in
    let z : ◌≡◌ {A = ℕ} 0 1 = cc in omega arith
left_out text low high n h i k e false t =
    let g : high ≤ i = omega (arith, ltb-false i low t) in
    let l : order_of text text ≡ Less = rw e at (n.behind i g k) in
    let s = order_refl text in
    let z : ◌≡◌ {A = ℕ} 0 1 = cc in omega arith

pub searched_none : (text : List ℕ) (low high : ℕ) → Narrowed text low high → high ≤ low → None ≡ sid_of text
searched_none text low high n h =
    sym (sid_none text (λ k l e. left_out text low high n h (rank_of k) (rank-within k l) (rank-name k l ∙ e) _ refl))
