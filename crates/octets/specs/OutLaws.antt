-- Laws of writing at an output's place.
use Rattle.std.specs.Prelude.{ℕ, ◌+◌, ◌≤◌, ◌<◌, ◌≡◌, refl, List, [], ◌++◌, length, get_or}
use Rattle.std.proofs.Common.{ap, sym, subst, arith, ◌∙◌}
use Rattle.octets.specs.Octets.{Wrote}
use Rattle.octets.specs.PutLaws.{wrote_none, wrote_then, wrote_as, put-before}
use Rattle.octets.specs.declared.out.Out.{Out}
use Rattle.octets.specs.Out.{Writes}

-- nothing
pub writes_none : (o : Out) → Writes o [] o
writes_none o = record { wrote = wrote_none o.bytes.now o.at; same = refl; size = refl }

-- one after the other
pub writes_then : {old mid new : Out} {xs ys : List ℕ} → old.at ≤ length old.bytes.now → Writes old xs mid → Writes mid ys new → Writes old (xs ++ ys) new
writes_then h v w = record { wrote = wrote_then h v.wrote w.wrote; same = w.same ∙ v.same; size = w.size ∙ v.size }

pub writes_as : {old new : Out} {bs cs : List ℕ} → Writes old bs new → bs ≡ cs → Writes old cs new
writes_as w e = record { wrote = wrote_as w.wrote e; same = w.same; size = w.size }

-- what stood before the place stays
pub writes-before : {old new : Out} {bs : List ℕ} → Writes old bs new → old.at ≤ length old.bytes.now → (i : ℕ) → i < old.at
    → get_or new.bytes.now i 0 ≡ get_or old.bytes.now i 0
writes-before {old} {new} {bs} w h i k = ap (λ (l : List ℕ). get_or l i 0) w.wrote.is ∙ put-before old.bytes.now old.at bs h i k

-- the room that is left behind what was written
pub writes-room : {old new : Out} {bs : List ℕ} (n : ℕ) → Writes old bs new → old.at + (length bs + n) ≤ length old.bytes.now → new.at + n ≤ length new.bytes.now
writes-room n w h = omega (arith, w.wrote.behind, w.size)

-- what the lender of the memory holds at the end, where it is what the last output held
pub writes_lent : {old new : Out} {bs last : List ℕ} → Writes old bs new → (old.bytes.ghost_name ≡ new.bytes.ghost_name → last ≡ new.bytes.now)
    → Wrote old.bytes.now old.at bs last new.at
writes_lent {old} {new} {bs} {last} w e = subst (λ (l : List ℕ). Wrote old.bytes.now old.at bs l new.at) (sym (e (sym w.same))) w.wrote
