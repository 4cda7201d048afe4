-- That an INDEX is good is one fact: where its last offset leads is told by the offsets. So a type may hold it.
use Rattle.std.specs.Prelude.{ℕ, ◌≡◌, ◌-◌, List, length, Result, Ok}
use Rattle.std.proofs.Common.{sym, ◌∙◌, arith}
use Rattle.std.proofs.Props.{props}
use mathlib.Core.HLevel.{is_prop→PathP}
use Rattle.index.specs.Index.{run_of, first_of, ends_of}
use Rattle.index.specs.Good.{Good, Lies}
use Rattle.index.specs.declared.Index.{Index}
use Rattle.refusal.specs.declared.Refusal.{Refusal}

passed_once : (r : Result ℕ Refusal) (m n : ℕ) → r ≡ Ok m → r ≡ Ok n → m ≡ n
passed_once r m n p q = Prim.grind arith

results_set : IsSet (Result ℕ Refusal)
results_set = Prim.hlevel props

lies_prop : (n : ℕ) (ix : Index) → IsProp (Lies n ix)
lies_prop n ix = Prim.hlevel props

pub good_prop : (b : List ℕ) (ix : Index) → IsProp (Good b ix)
good_prop b ix x y =
    let r = run_of (length b - ix.base) (first_of b ix.table ix.size) (ends_of b ix.table ix.size ix.count) in
    let same : x.last ≡ y.last = passed_once r _ _ x.run y.run in
    λ i. record {
      lies = lies_prop _ _ x.lies y.lies i;
      last = same i;
      run = is_prop→PathP (λ j. r ≡ Ok (same j)) (λ j. results_set _ _) x.run y.run i;
    }
