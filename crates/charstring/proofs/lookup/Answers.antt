-- `charstring::lookup` meets its contract: the pairs passed do not have the offset.
use Rattle.std.proofs.Common.{List, [], ap, arith, eq-eqb, get_or, length, ne_eqb, ℕ, sym, ◌++◌, ◌∙◌, ◌∷◌, ◌≡◌}
use Rattle.charstring.specs.declared.MaskLen.TheVariants.{Given}
use Rattle.charstring.specs.EncodeLaws.{lookup_end}
use Rattle.charstring.specs.Token.{lookup}
use Rattle.charstring.proofs.lookup.Goals as goal

-- one pair, and those behind it
here : (xs ys : List ℕ) (at : ℕ) → length xs ≡ 2 → get_or xs 0 0 ≡ at → lookup (xs ++ ys) at ≡ Given (get_or xs 1 0)
unfolding lookup
here (o ∷ n ∷ []) ys at h e = rw (eq-eqb o at e)
here [] ys at h e = cc
here (o ∷ []) ys at h e = cc
here (o ∷ n ∷ m ∷ xs) ys at h e = cc

on : (xs ys : List ℕ) (at : ℕ) → length xs ≡ 2 → (get_or xs 0 0 ≡ at → ⊥) → lookup (xs ++ ys) at ≡ lookup ys at
unfolding lookup
on (o ∷ n ∷ []) ys at h e = rw (ne_eqb o at e)
on [] ys at h e = cc
on (o ∷ []) ys at h e = cc
on (o ∷ n ∷ m ∷ xs) ys at h e = cc

pub returns-then-pair-at : goal.returns-then-pair-at
returns-then-pair-at c =
    let s = c.in-Some.ensures.steps in
    let l = c.loop-pair.invariant in
    sym (here _ _ c.args.at (s.1.1 ∙ l.0) c.if-pair-at.true) ∙ sym (ap (λ (r : List ℕ). lookup r c.args.at) s.1.0) ∙ l.1

pub loop-pair-preserved : goal.loop-pair-preserved
loop-pair-preserved c =
    let s = c.in-Some.ensures.steps in
    let l = c.loop-pair.invariant in
    (s.0 ∙ l.0, sym (on _ _ c.args.at (s.1.1 ∙ l.0) c.if-pair-at.false) ∙ sym (ap (λ (r : List ℕ). lookup r c.args.at) s.1.0) ∙ l.1)

pub returns : goal.returns
returns c =
    let s = c.in-None.ensures.steps in
    let l = c.loop-pair.invariant in
    sym (lookup_end _ c.args.at 0 (omega (arith, s.1.0, l.0))) ∙ l.1
