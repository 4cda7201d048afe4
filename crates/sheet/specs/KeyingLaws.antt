-- Cutting by the keying of the font (document 01, 'One sheet, whole'): cut as name-keyed, and where that is refusal 3 as CID-keyed. Reading's own
-- refusals come first either way. Refusal 3 may also tell of a stroked font (document 02, Wish 11): such a font is refused by both calls alike.
use Rattle.std.specs.Prelude.{ℕ, ◌≡◌, refl, Bool, true, false, List, Result, Ok, Err}
use Rattle.std.proofs.Common.{sym, ap, ◌∙◌}
use Rattle.std.proofs.lemmas.Bool.{false≢true}
use Rattle.octets.specs.Pick.{pick}
use Rattle.octets.specs.PickLaws.{pick_same}
use Rattle.refusal.specs.declared.Refusal.{Refusal}
use Rattle.refusal.specs.declared.Refusal.TheVariants.{Unsupported}
use Rattle.dict.specs.Lookup.{cid_keyed}
use Rattle.cff.specs.Font.{Program, read_font}
use Rattle.cff.specs.Find.{work_size}
use Rattle.subset.specs.Cut.{Outcome, refused, subset, same_bool_lem, cut_program, cut_read, cut_with, cut_of}
use Rattle.sheet.specs.Sheet.{keying}

-- is this refusal 3?
abbrev pub is_three : Refusal → Bool
is_three Unsupported = true
is_three n = false

abbrev pub unsupported : Outcome → Bool
unsupported (refused n) = is_three n
unsupported (subset way bs) = false

-- ---- the call of the other keying is refused with 3, whatever else holds

cid_other : (b : Bool) (x : Outcome) → b ≡ false → pick (same_bool_lem true b) x (refused Unsupported) ≡ refused Unsupported
cid_other true x e = absurd (false≢true (sym e))
cid_other false x e = refl

name_other : (b : Bool) (x : Outcome) → b ≡ true → pick (same_bool_lem false b) x (refused Unsupported) ≡ refused Unsupported
name_other true x e = refl
name_other false x e = absurd (false≢true e)

-- so the call by the keying is the first that is not refused with 3, or both are
pub three : (o : Outcome) → unsupported o ≡ true → refused Unsupported ≡ o
three (refused Unsupported) e = refl
three (refused n) e = absurd (false≢true e)
three (subset way bs) e = absurd (false≢true e)

first_stays : (o : Outcome) (b : Bool) → unsupported o ≡ b → pick b (refused Unsupported) o ≡ o
first_stays o true e = three o e
first_stays o false e = refl

module _ (name keep rec : List ℕ) (flag words room : ℕ) where
  program-by : (p : Program) (b : Bool) → cid_keyed p.top ≡ b
      → pick (unsupported (cut_program work_size false false p name keep rec flag words room)) (cut_program work_size true false p name keep rec flag words room) (cut_program work_size false false p name keep rec flag words room)
      ≡ cut_program work_size (cid_keyed p.top) false p name keep rec flag words room
  program-by p false e =
      let o = cut_program work_size false false p name keep rec flag words room in
      let k : cut_program work_size true false p name keep rec flag words room ≡ refused Unsupported = cid_other (cid_keyed p.top) _ e in
      ap (λ (x : Outcome). pick (unsupported o) x o) k ∙ first_stays o (unsupported o) refl
      ∙ ap (λ (c : Bool). cut_program work_size c false p name keep rec flag words room) (sym e)
  program-by p true e =
      let k : cut_program work_size false false p name keep rec flag words room ≡ refused Unsupported = name_other (cid_keyed p.top) _ e in
      ap (λ (o : Outcome). pick (unsupported o) (cut_program work_size true false p name keep rec flag words room) o) k
      ∙ ap (λ (c : Bool). cut_program work_size c false p name keep rec flag words room) (sym e)

  read_by : (g : Result Program Refusal) → pick (unsupported (cut_read work_size false false g name keep rec flag words room)) (cut_read work_size true false g name keep rec flag words room) (cut_read work_size false false g name keep rec flag words room)
      ≡ cut_read work_size (keying g) false g name keep rec flag words room
  read_by (Err n) = pick_same (is_three n) (refused n)
  read_by (Ok p) = program-by p (cid_keyed p.top) refl

  -- the outcome by the keying of the font
  pub cut-by-keying : (font : List ℕ)
      → pick (unsupported (cut_of false false font name keep rec flag words room)) (cut_of true false font name keep rec flag words room) (cut_of false false font name keep rec flag words room)
      ≡ cut_of (keying (read_font font)) false font name keep rec flag words room
  unfolding cut_with
  cut-by-keying font = read_by (read_font font)
