-- Laws of fields, as the functions meet them.
use Rattle.std.specs.Prelude.{ℕ, ◌+◌, ◌≤◌, ◌≡◌, refl, Bool, true, false, List, [], eqb, length, take, get_or, None, Option, Some}
use Rattle.std.proofs.Common.{sym, ap, ◌∙◌, subst, arith, eq-eqb, ne_eqb}
use Rattle.std.proofs.lemmas.Bool.{false≢true}
use Rattle.octets.specs.Pick.{pick}
use Rattle.octets.specs.PutLaws.{wrote_none, wrote-length, take_put}
use Rattle.hexlines.specs.Hexlines.{hex_bytes, room_for, Unhexes}
use Rattle.hexlines.specs.HexlinesLaws.{unhexes_done, done_wrote, room-some}
use Rattle.strings.specs.Text.{same_text_lem}
use Rattle.strings.specs.TextLaws.{same_refl, same_true}
use Rattle.cases.specs.AnswersLaws.{Lent}
use Rattle.cases.specs.Fields.{is_dash, field_bytes, both_same}

pub dash-one : (t : List ℕ) → length t ≡ 1 → eqb (get_or t 0 0) 45 ≡ is_dash t
unfolding is_dash
dash-one t e = rw (eq-eqb (length t) 1 e)

pub dash_not : (t : List ℕ) → (length t ≡ 1 → ⊥) → false ≡ is_dash t
unfolding is_dash
dash_not t n = rw (ne_eqb (length t) 1 n)

module _ (room : ℕ) (t : List ℕ) where
  field-dash : is_dash t ≡ true → field_bytes room t ≡ Some []
  unfolding field_bytes
  field-dash e = rw e

  field-hex : is_dash t ≡ false → room_for room 0 (hex_bytes t) ≡ field_bytes room t
  unfolding field_bytes
  field-hex e = rw e

pub read-dash : (t old : List ℕ) → is_dash t ≡ true → Unhexes (field_bytes (length old) t) old 0 old (Some 0)
read-dash t old e = unhexes_done _ [] old old 0 0 (field-dash (length old) t e) (wrote_none old 0)

pub read-hex : (t old new : List ℕ) (r : Option ℕ) → is_dash t ≡ false → Unhexes (room_for (length old) 0 (hex_bytes t)) old 0 new r
    → Unhexes (field_bytes (length old) t) old 0 new r
read-hex t old new r e u = subst (λ (o : Option (List ℕ)). Unhexes o old 0 new r) (field-hex (length old) t e) u

bad-none : (o : Option (List ℕ)) (old new : List ℕ) → Unhexes o old 0 new None → o ≡ None
unfolding Unhexes
bad-none None old new u = refl
bad-none (Some bs) old new u = absurd (let e = u.0 in let z : ◌≡◌ {A = ℕ} 0 1 = cc in (let y : ⊥ = omega arith in y))

chosen : (t : Bool) (room : ℕ) (o : Option (List ℕ)) (bs : List ℕ) → pick t (Some []) (room_for room 0 o) ≡ Some bs → length bs ≤ room
chosen true room o bs e = let z : [] ≡ bs = cc in omega (arith, ap length z)
chosen false room o bs e = omega (arith, (room-some room 0 o bs e).1)

field_room : (room : ℕ) (t bs : List ℕ) → field_bytes room t ≡ Some bs → length bs ≤ room
unfolding field_bytes
field_room room t bs e = chosen (is_dash t) room (hex_bytes t) bs e

module _ (room : ℕ) (t old new : List ℕ) (r : Option ℕ) (u : Unhexes (field_bytes room t) old 0 new r) (h : room ≤ length old) where
  pub field_done : (k : ℕ) → r ≡ Some k → Lent (field_bytes room t) new k
  field_done k e =
      let w = done_wrote (field_bytes room t) old new 0 k (subst (λ (x : Option ℕ). Unhexes (field_bytes room t) old 0 new x) e u) in
      let n = field_room room t w.0 w.1 in
      let l = wrote-length w.2 (omega arith) in
      record {
        bytes = w.0;
        are = w.1;
        fits = omega (arith, w.2.behind);
        first = ap (λ (j : ℕ). take j new) w.2.behind ∙ ap (take (0 + length w.0)) w.2.is ∙ take_put old 0 w.0 (omega arith);
      }

  pub field-bad : r ≡ None → field_bytes room t ≡ None
  field-bad e = bad-none (field_bytes room t) old new (subst (λ (x : Option ℕ). Unhexes (field_bytes room t) old 0 new x) e u)

-- ---- the same bytes

-- an answer that is true just where two lists are equal
pub same_is : (a b : List ℕ) (r : Bool) → (r ≡ true → a ≡ b) → (a ≡ b → r ≡ true) → r ≡ same_text_lem a b
same_is a b true f g = sym (same_refl a) ∙ ap (same_text_lem a) (f refl)
same_is a b false f g = other (same_text_lem a b) refl
  where
    other : (t : Bool) → same_text_lem a b ≡ t → false ≡ same_text_lem a b
    other true e = absurd (false≢true (g (same_true a b e)))
    other false e = sym e

-- the stored answer, compared
pub stored_same : (a b : List ℕ) (o : Option (List ℕ)) (r : Bool) → (r ≡ true → a ≡ b) → (a ≡ b → r ≡ true) → Some b ≡ o → r ≡ both_same (Some a) o
stored_same a b o r f g e = same_is a b r f g ∙ ap (both_same (Some a)) e
