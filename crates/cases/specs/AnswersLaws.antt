-- Laws of answers: what was written behind the first bytes of a list, and what is lent of it.
use Rattle.std.specs.Prelude.{ℕ, ◌+◌, ◌≤◌, ◌≡◌, refl, List, ◌++◌, length, take, Option, Some}
use Rattle.std.proofs.Common.{sym, ap, ◌∙◌, arith}
use Rattle.octets.specs.Octets.{Wrote}
use Rattle.octets.specs.PutLaws.{take_put}

-- bytes that were written behind the first of a list
pub wrote_behind : {old new bs before : List ℕ} {at q : ℕ} → at ≤ length old → Wrote old at bs new q → take at old ≡ before → take q new ≡ before ++ bs
wrote_behind {old} {new} {bs} {before} {at} {q} h w e =
    ap (λ (k : ℕ). take k new) w.behind ∙ ap (take (at + length bs)) w.is ∙ take_put old at bs h ∙ ap (λ (l : List ℕ). l ++ bs) e

-- what was written from the start on, as it is lent
pub wrote-front : {old new bs : List ℕ} {k : ℕ} → Wrote old 0 bs new k → take k new ≡ bs
wrote-front w = wrote_behind (omega arith) w refl

-- bytes that are there, and stand at the start of a list
pub record Lent (o : Option (List ℕ)) (new : List ℕ) (k : ℕ) : Type 0 where
  pub bytes : List ℕ
  pub are : o ≡ Some bytes
  pub fits : k ≤ length new
  pub first : take k new ≡ bytes

pub lent-some : {o : Option (List ℕ)} {new : List ℕ} {k : ℕ} → Lent o new k → Some (take k new) ≡ o
lent-some l = ap Some l.first ∙ sym l.are
