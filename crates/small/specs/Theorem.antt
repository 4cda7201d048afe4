-- The small call answers as the large one does, and keeps what every call promises.
use Rattle.std.specs.Prelude.{ℕ, ◌≤◌, ◌≡◌, refl, Bool, List, Result, Ok, Err}
use Rattle.std.proofs.Common.{sym, ap, ◌∙◌, arith}
use Rattle.octets.specs.Octets.{Octets}
use Rattle.cff.specs.Font.{Program, read_font}
use Rattle.cff.specs.Find.{work_size}
use Rattle.subset.specs.Cut.{cut_read, cut_with, cut_of}
use Rattle.subset.specs.SizeLaws.{enough_same}
use Rattle.faithful.specs.Faithful.{Faithful}
use Rattle.faithful.specs.Matrices.{Scaled}
use Rattle.faithful.specs.Codes.{KeepsCodes}
use Rattle.faithful.proofs.Theorem.{faithful, matrix_back, codes-back}
use Rattle.small.specs.Small.{small_size, cut_small, SameAsLarge}
use Rattle.refusal.specs.declared.Refusal.{Refusal}

-- a font that reading refuses is refused whatever is asked for
refused_same : (s t : Program → ℕ) (cid ask : Bool) (font name keep rec : List ℕ) (flag words words' room : ℕ) (n : Refusal) → read_font font ≡ Err n
    → cut_with s cid ask font name keep rec flag words room ≡ cut_with t cid ask font name keep rec flag words' room
unfolding cut_with
refused_same s t cid ask font name keep rec flag words words' room n e =
    ap (λ (g : Result Program Refusal). cut_read s cid ask g name keep rec flag words room) e
    ∙ sym (ap (λ (g : Result Program Refusal). cut_read t cid ask g name keep rec flag words' room) e)

-- THE THEOREM
pub small_same : SameAsLarge
small_same cid ask font name keep rec flag words words' room large small = go (read_font font) refl
  where
    go : (x : Result Program Refusal) → read_font font ≡ x → cut_small cid ask font name keep rec flag words' room ≡ cut_of cid ask font name keep rec flag words room
    go (Err n) e = refused_same small_size work_size cid ask font name keep rec flag words' words room n e
    go (Ok p) e = enough_same small_size work_size cid ask font name keep rec flag words' words room p e (small p e) (large p e)

-- it asks for no more than the large one
pub small-less : (p : Program) → small_size p ≤ work_size p
small-less p = omega arith

-- demand 3, letter size and codes: stated of any W
module _ (cid ask : Bool) (font name keep rec : List ℕ) (flag words room : ℕ) (bytes : Octets font) (octets : Octets rec) where
  pub small_faithful : Faithful font keep rec flag (cut_small cid ask font name keep rec flag words room)
  small_faithful = faithful small_size cid ask font name keep rec flag words room bytes octets

  pub small-scaled : Scaled font keep (cut_small cid ask font name keep rec flag words room)
  small-scaled = matrix_back small_size cid ask font name keep rec flag words room bytes octets

  pub small-codes : KeepsCodes ask font keep (cut_small cid ask font name keep rec flag words room)
  small-codes = codes-back small_size cid ask font name keep rec flag words room bytes octets
