-- What is done with each number below k is what is done with each of a list of k.
use Rattle.std.specs.Prelude.{ℕ, suc, ◌+◌, ◌<◌, ◌≡◌, refl, List, [], ◌∷◌, length, get_or, Option, Some}
use Rattle.std.proofs.Common.{ap, ◌∙◌, arith}
use Rattle.octets.specs.Steps.{and}
use Rattle.subset.specs.Kept.{those}
use Rattle.subset.specs.Pruned.{each}
use Rattle.bodies.specs.Ways.{every, up_to}

-- from a number on
each_from : {A : Type 0} (f g : ℕ → Option A) (k : ℕ) (l : List ℕ) → ((i : ℕ) → i < length l → f (k + i) ≡ g (get_or l i 0)) → each f (those every (length l) k) ≡ each g l
unfolding each those
each_from f g k [] same = refl
each_from {A} f g k (x ∷ l) same =
    let z : k ≡ k + 0 = omega arith in
    let e : f k ≡ g x = ap f z ∙ same 0 (omega arith) in
    ap (λ (m : Option A). and m (λ b. and (each f (those every (length l) (k + 1))) (λ bs. Some (b ∷ bs)))) e
    ∙ ap (λ (m : Option (List A)). and (g x) (λ b. and m (λ bs. Some (b ∷ bs))))
    (each_from f g (k + 1) l (λ i q. let y : k + 1 + i ≡ k + suc i = omega arith in ap f y ∙ same (suc i) (omega arith)))

pub each-order : {A : Type 0} (f g : ℕ → Option A) (k : ℕ) (order : List ℕ) → k ≡ length order → ((i : ℕ) → i < k → f i ≡ g (get_or order i 0))
    → each f (up_to k) ≡ each g order
each-order f g k order many same =
    ap (λ (n : ℕ). each f (up_to n)) many
    ∙ each_from f g 0 order (λ i h. let z : 0 + i ≡ i = omega arith in ap f z ∙ same i (omega (arith, many)))
