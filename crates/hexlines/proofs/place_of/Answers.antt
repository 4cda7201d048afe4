-- `hexlines::place_of` meets its contract.
use Rattle.std.specs.Prelude.{ℕ, List, length, ◌≡◌, refl}
use Rattle.std.specs.Option.{MatchOption, unwrap_or}
use Rattle.std.specs.List.{AllWithin, HoldsAt}
use Rattle.std.specs.declared.option.Option.{Option}
use Rattle.std.specs.declared.option.Option.TheVariants.{Some, None}
use Rattle.std.proofs.Common.{ap, arith, rules, sym, ◌<◌, ◌∙◌}
use Rattle.std.proofs.lemmas.Iterator.{YieldsList-from_slice, IsFirst-from_position, index_from_first}
use borrow.Author.Tests.{eq-eqb, ne_eqb, tests}
use Rattle.octets.specs.Lists.{before}
use Rattle.hexlines.proofs.place_of.Goals as goal
use Rattle.hexlines.proofs.place_of.Goals.{After-position}

-- what std's answer says
abbrev Place : ℕ → List ℕ → Option ℕ → Type 0
Place b text r =
    MatchOption r (AllWithin (λ x. x ≡ b → ⊥) text 0 (length text)) (λ i. (i < length text) × HoldsAt (λ x. x ≡ b) text i × AllWithin (λ x. x ≡ b → ⊥) text 0 i)

first : (b : ℕ) (text : List ℕ) (r : Option ℕ) → Place b text r → before b text ≡ unwrap_or r (length text)
unfolding before
first b text r =
    index_from_first (before b) (λ x. x ≡ b) (λ x. x ≡ b → ⊥) refl
    (λ x xs h. simp (eq-eqb x b h)) (λ x xs h. simp (ne_eqb x b h) (omega arith)) text r

found : (b : ℕ) (text : List ℕ) (r : Option ℕ) (k : ℕ) → Place b text r → r ≡ Some k → (before b text ≡ k) × (k < length text)
found b text r k h e = (first b text r h ∙ ap (λ (o : Option ℕ). unwrap_or o (length text)) e, (rw e at h).0)

lost : (b : ℕ) (text : List ℕ) (r : Option ℕ) → Place b text r → r ≡ None → before b text ≡ length text
lost b text r h e = first b text r h ∙ ap (λ (o : Option ℕ). unwrap_or o (length text)) e

place : (c : After-position) → Place c.args.b c.args.s.now c.position.result
place c =
    let a = c.args in
    IsFirst-from_position _ _ _ (λ x. x ≡ a.b) (λ x. x ≡ a.b → ⊥) c.position.ensures.ran
    (YieldsList-from_slice a.s.now c.iter.ensures.rest) (λ x q k. search (rules, tests)) (λ x q k. search (rules, tests))

pub returns-in-Some : goal.returns-in-Some
returns-in-Some c =
    let e = found c.args.b c.args.s.now _ _ (place (goal.at.returns-in-Some c).After-position) c.in-Some.is in
    (sym e.0, omega (arith, e.1))

pub returns-in-None : goal.returns-in-None
returns-in-None c =
    let e = lost c.args.b c.args.s.now _ (place (goal.at.returns-in-None c).After-position) c.in-None.is in
    (sym e, omega arith)
