-- Laws of steps that may give nothing.
use Rattle.std.specs.Prelude.{◌≡◌, refl, Bool, true, false, None, Option, Some}
use Rattle.octets.specs.Pick.{pick}
use Rattle.octets.specs.Steps.{and}

-- what holds of none and of each next step
pub and_ind {κ} : {A B : Type 0} (P : Option B → Type κ) (o : Option A) (f : A → Option B) → P None → ((a : A) → P (f a)) → P (and o f)
and_ind P None f n s = n
and_ind P (Some a) f n s = s a

-- a step that is tested first
pub and-pick : {A B : Type 0} (t : Bool) (o : Option A) (f : A → Option B) → and (pick t o None) f ≡ pick t (and o f) None
and-pick true o f = refl
and-pick false o f = refl
