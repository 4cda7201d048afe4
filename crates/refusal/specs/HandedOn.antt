-- What `?` hands on: where the answer of a step is a refusal, it is the answer.
use Rattle.std.specs.Prelude.{◌≡◌, Result, Ok, Err}
use Rattle.std.specs.Result.{IsErrAnd}
use Rattle.std.proofs.Common.{sym, subst}
use Rattle.refusal.specs.declared.Refusal.{Refusal}

pub handed_on : {T : Type 0} (r : Result T Refusal) (e : Refusal) (P : Result T Refusal → Type 0) → IsErrAnd r (λ y. y ≡ e) → P (Err e) → P r
handed_on (Ok x) e P h p = absurd h
handed_on (Err y) e P h p = subst (λ z. P (Err z)) (sym h) p
