-- An answer piece by piece: what is there, before what is left, gives what was there before all of it.
use Rattle.std.specs.Prelude.{ℕ, ◌+◌, ◌≤◌, ◌≡◌, refl, List, [], ◌++◌, length}
use Rattle.std.proofs.Common.{sym, ap, ◌∙◌, arith, append_assoc, append-nil, length-append}

pub record Adding (old all new left : List ℕ) : Type 0 where
  pub is : new ++ left ≡ old ++ all

pub adding_start : (old all : List ℕ) → Adding old all old all
adding_start old all = record { is = refl }

module _ {old all new left : List ℕ} (a : Adding old all new left) where
  pub adding_end : left ≡ [] → new ≡ old ++ all
  adding_end e = sym (append-nil new) ∙ ap (λ (l : List ℕ). new ++ l) (sym e) ∙ a.is

  module _ (bs rest : List ℕ) (e : left ≡ bs ++ rest) where
    pub adding-room : length new + length bs ≤ length old + length all
    adding-room =
        let n = ap length a.is ∙ length-append old all in
        let m = sym (length-append new left) in
        let k = ap length e ∙ length-append bs rest in
        omega (arith, n, m, k)

    pub adding-turn : {newer : List ℕ} → newer ≡ new ++ bs → Adding old all newer rest
    adding-turn {newer} x =
        record { is = ap (λ (l : List ℕ). l ++ rest) x ∙ append_assoc new bs rest ∙ ap (λ (l : List ℕ). new ++ l) (sym e) ∙ a.is }
