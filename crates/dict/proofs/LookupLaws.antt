-- Laws of looking an entry up: the place that was found holds the operands of the last entry, and what one, two or three operands say.
use Prim.Native.Nat.{ℕ, zero, suc, ◌+◌, ◌-◌, ◌≤◌, ◌<◌}
use Rattle.std.specs.Prelude.{◌≡◌, Bool, true, false, not, ltb, eqb, length, get_or, None, Option, Some, Result, Ok, Err}
use Rattle.std.proofs.Math.Path.{refl}
use Rattle.std.proofs.Common.{sym, ap, ◌∙◌, subst, not-suc-le-zero, add-one, arith, ltb-true, ltb-false}
use mathlib.Core.List.{List, [], ◌∷◌}
use Rattle.std.proofs.Math.ListN.{get_or-eq_default}
use Rattle.octets.specs.Pick.{pick, pick_ind}
use Rattle.octets.specs.Octets.{Octets}
use Rattle.decimal.specs.declared.Decimal.{Decimal}
use Rattle.decimal.specs.Decimal.{nought, Normal}
use Rattle.decimal.specs.TakenLaws.{number-taken, answer-number}
use Rattle.decimal.specs.Values.{trunc_of}
use Rattle.decimal.specs.Number.{Number, refused as refusedNumber, not_number, number, number_at, answer_of}
use Rattle.decimal.specs.NumberLaws.{form_none}
use Rattle.dict.specs.Dict.{Entry, Reading, stopped, got, entry_at, followed, readings_from, readings_at, before, gathered, dict_of}
use Rattle.dict.specs.Lookup.{Operands, absent, operands, last_from, last_of, only, one_of, private_as, private_in, id_as, is_there, ros_as, ros_in, stroked_as, stroked_in}
use Rattle.dict.specs.Op.{private, ros, paint_type}
use Rattle.dict.specs.Proper.{AllNormal}
use Rattle.dict.specs.Held.{private_read}
use Rattle.dict.specs.Places.{refusal_of, listed, entries_of, Good, last_place, place_of, or_none, operands_at, found_at}
use Rattle.dict.specs.TokenLaws.{Further, further}
use Rattle.dict.proofs.WalkLaws.{before-refusal}
use Rattle.dict.specs.EntryLaws.{Entered, entered}
use Rattle.dict.specs.declared.OperandsAt.{OperandsAt}
use Rattle.dict.specs.declared.RosEntry.{RosEntry}
use Rattle.dict.specs.declared.PrivateEntry.{PrivateEntry}
use Rattle.decimal.specs.declared.NumberAt.{NumberAt}
use Rattle.refusal.specs.declared.Refusal.{Refusal}
use Rattle.refusal.specs.declared.Refusal.TheVariants.{Malformed}

no : ◌≡◌ {A = ℕ} 0 1 → ⊥
no h = omega arith

pub number_out : (b : List ℕ) (at : ℕ) → length b ≤ at → number_at b at ≡ not_number
number_out b at h =
    let z : get_or b at 0 ≡ 0 = get_or-eq_default b 0 h in
    form_none b at (λ q. omega arith) (λ q. omega arith) (λ q. omega arith) (omega arith)

-- ---- the operands from a position on

module _ (b : List ℕ) (at : ℕ) where
  pub operands_next : (n next : ℕ) (d : Decimal) → number_at b at ≡ number d next → operands_at (suc n) b at ≡ d ∷ operands_at n b next
  unfolding operands_at
  operands_next n next d e = rw e

  none_told : (n : ℕ) (q : Number) → number_at b at ≡ q → ((t : NumberAt) → answer_of q ≡ Ok (Some t) → ⊥) → operands_at n b at ≡ []
  unfolding operands_at
  none_told zero q e f = refl
  none_told (suc n) (refusedNumber m) e f = rw e
  none_told (suc n) not_number e f = rw e
  none_told (suc n) (number d next) e f = absurd (f (record { value = d; next = next }) refl)

  -- no number there: no operand
  pub operands_none : (n : ℕ) (r : Result (Option NumberAt) Refusal) → r ≡ answer_of (number_at b at) → ((t : NumberAt) → r ≡ Ok (Some t) → ⊥) → operands_at n b at ≡ []
  operands_none n r e f = none_told n (number_at b at) refl (λ t g. f t (e ∙ g))

  pub operands_out : (n : ℕ) → length b ≤ at → operands_at n b at ≡ []
  operands_out n h = none_told n not_number (number_out b at h) (λ t g. no cc)

-- ---- skipping to the k-th operand: what is left of the way leads to it
pub record Skipping (b : List ℕ) (start k at left : ℕ) : Type 0 where
  pub rest : get_or (operands_at (left + 1) b at) left nought ≡ get_or (operands_at (k + 1) b start) k nought

module _ (b : List ℕ) (start k at left : ℕ) (w : Skipping b start k at left) where
  nothing : operands_at (left + 1) b at ≡ [] → nought ≡ get_or (operands_at (k + 1) b start) k nought
  nothing e = sym (ap (λ (l : List Decimal). get_or l left nought) e) ∙ w.rest

  pub skipping_over : length b ≤ at → nought ≡ get_or (operands_at (k + 1) b start) k nought
  skipping_over h = nothing (operands_out b at (left + 1) h)

  module _ (r : Result (Option NumberAt) Refusal) (e : r ≡ answer_of (number_at b at)) where
    pub skipping_refused : (n : Refusal) → r ≡ Err n → nought ≡ get_or (operands_at (k + 1) b start) k nought
    skipping_refused n f = nothing (operands_none b at (left + 1) r e (λ t g. no cc))

    pub skipping_none : r ≡ Ok None → nought ≡ get_or (operands_at (k + 1) b start) k nought
    skipping_none f = nothing (operands_none b at (left + 1) r e (λ t g. no cc))

    module _ (t : NumberAt) (f : r ≡ Ok (Some t)) where
      pub skipping_further : at < length b → (at < t.next) × (t.next ≤ length b)
      skipping_further h = subst (Further b at) (answer-number (number_at b at) t (sym f ∙ e)) (further b at h)

      this : operands_at (left + 1) b at ≡ t.value ∷ operands_at left b t.next
      this = ap (λ (n : ℕ). operands_at n b at) (add-one left) ∙ operands_next b at left t.next t.value (answer-number (number_at b at) t (sym f ∙ e))

      pub skipping_here : left ≡ 0 → t.value ≡ get_or (operands_at (k + 1) b start) k nought
      skipping_here z = sym (ap (λ (n : ℕ). get_or (t.value ∷ operands_at left b t.next) n nought) z) ∙ sym (ap (λ (l : List Decimal). get_or l left nought) this) ∙ w.rest

      second : (n : ℕ) → left ≡ suc n → get_or (operands_at left b t.next) n nought ≡ get_or (operands_at (k + 1) b start) k nought
      second n z = sym (ap (λ (m : ℕ). get_or (t.value ∷ operands_at left b t.next) m nought) z) ∙ sym (ap (λ (l : List Decimal). get_or l left nought) this) ∙ w.rest

      pub skipping_turn : (left ≡ 0 → ⊥) → Skipping b start k t.next (left - 1)
      skipping_turn z =
          let p : left ≡ suc (left - 1) = omega arith in
          let q : left - 1 + 1 ≡ left = omega arith in
          record { rest = ap (λ (m : ℕ). get_or (operands_at m b t.next) (left - 1) nought) q ∙ second (left - 1) p }

-- ---- what was read stands where it was read

unfoldable pub Chain : List ℕ → ℕ → List Reading → Type 0
Chain b at [] = Unit
Chain b at (stopped n ∷ rs) = Unit
Chain b at (got op ds end next ∷ rs) = (operands_at (length ds) b at ≡ ds) × Chain b next rs

module _ (b : List ℕ) where
  followed-chain : (at : ℕ) (r : Reading) → Entered b at r → (f : ℕ → List Reading) → ((next : ℕ) → Chain b next (f next)) → Chain b at (followed r f)
  unfolding Chain
  followed-chain at (stopped n) p f h = tt
  followed-chain at (got op ds end next) p f h = (p.here, h next)

  from-chain : (k at : ℕ) → Chain b at (readings_from k b at)
  unfolding Chain readings_from
  from-chain zero at = tt
  from-chain (suc k) at =
      pick_ind (Chain b at) (ltb at (length b)) _ _ (λ e. followed-chain at (entry_at b at) (entered b at) (readings_from k b) (from-chain k)) (λ e. tt)

  pub chain : (at : ℕ) → Chain b at (readings_at b at)
  unfolding readings_at
  chain at = from-chain (length b) at

-- a place holds these operands
pub record Held (b : List ℕ) (start count : ℕ) (ds : List Decimal) : Type 0 where
  pub counted : count ≡ length ds
  pub here : operands_at (length ds) b start ≡ ds

abbrev Matches : List ℕ → Option OperandsAt → Operands → Type 0
Matches b None absent = Unit
Matches b None (operands ds) = ⊥
Matches b (Some q) absent = ⊥
Matches b (Some q) (operands ds) = Held b q.start q.count ds

module _ (b : List ℕ) (op : ℕ) where
  pick-matches : (t : Bool) (f g : Option OperandsAt) (o p : Operands) → Matches b f o → Matches b g p → Matches b (pick t f g) (pick t o p)
  pick-matches true f g o p m n = m
  pick-matches false f g o p m n = n

  last-matches : (rs : List Reading) (at : ℕ) (found : Option OperandsAt) (o : Operands) → Chain b at rs → Matches b found o → Matches b (last_place op at found rs) (last_from op o (listed rs))
  unfolding Chain last_place last_from listed
  last-matches [] at found o c m = m
  last-matches (stopped n ∷ rs) at found o c m = m
  last-matches (got p ds end next ∷ rs) at found o c m =
      last-matches rs next (pick (eqb p op) (found_at at (length ds)) found) (pick (eqb p op) (operands ds) o) c.1
      (pick-matches (eqb p op) (found_at at (length ds)) found (operands ds) o (record { counted = refl; here = c.0 }) m)

  place-matches : Matches b (place_of op b) (last_of op (entries_of b))
  unfolding last_of
  place-matches = last-matches (readings_at b 0) 0 None absent (chain b 0) tt

-- the operands at the place that was found are those of the last entry
pub record Last (b : List ℕ) (op start count : ℕ) : Type 0 where
  pub numbers : List Decimal
  pub last : last_of op (entries_of b) ≡ operands numbers
  pub held : Held b start count numbers

absent-of : (b : List ℕ) (o : Operands) → Matches b None o → o ≡ absent
absent-of b absent m = refl
absent-of b (operands ds) m = absurd m

last-of : (b : List ℕ) (op start count : ℕ) (o : Operands) → last_of op (entries_of b) ≡ o → Matches b (found_at start count) o → Last b op start count
last-of b op start count absent e m = absurd m
last-of b op start count (operands ds) e m = record { numbers = ds; last = e; held = m }

module _ (b : List ℕ) (op : ℕ) (r : Option OperandsAt) (e : r ≡ place_of op b) where
  found-matches : (f : Option OperandsAt) → r ≡ f → Matches b f (last_of op (entries_of b))
  found-matches f q = subst (λ (x : Option OperandsAt). Matches b x (last_of op (entries_of b))) (sym e ∙ q) (place-matches b op)

  pub none_last : r ≡ None → last_of op (entries_of b) ≡ absent
  none_last q = absent-of b (last_of op (entries_of b)) (found-matches None q)

  pub found-last : (start count : ℕ) → r ≡ found_at start count → Last b op start count
  found-last start count q = last-of b op start count (last_of op (entries_of b)) refl (found-matches (found_at start count) q)

-- ---- the k-th of them

module _ (b : List ℕ) where
  operand_same : (k n m at : ℕ) (q : Number) → number_at b at ≡ q → k < n → k < m → get_or (operands_at n b at) k nought ≡ get_or (operands_at m b at) k nought
  unfolding operands_at
  operand_same k zero m at q e h l = absurd (not-suc-le-zero h)
  operand_same k (suc n) zero at q e h l = absurd (not-suc-le-zero l)
  operand_same k (suc n) (suc m) at (refusedNumber x) e h l = rw e
  operand_same k (suc n) (suc m) at not_number e h l = rw e
  operand_same zero (suc n) (suc m) at (number d next) e h l = rw e
  operand_same (suc k) (suc n) (suc m) at (number d next) e h l = rw e (operand_same k n m next (number_at b next) refl (omega arith) (omega arith))

  held_operand : (start count : ℕ) (ds : List Decimal) → Held b start count ds → (k : ℕ) → k < count → get_or (operands_at (k + 1) b start) k nought ≡ get_or ds k nought
  held_operand start count ds h k l =
      operand_same k (k + 1) (length ds) start (number_at b start) refl (omega arith) (omega (arith, h.counted)) ∙ ap (λ (x : List Decimal). get_or x k nought) h.here

  pub last_operand : (op start count : ℕ) (l : Last b op start count) (k : ℕ) (v : Decimal) → k < count → v ≡ get_or (operands_at (k + 1) b start) k nought → v ≡ get_or l.numbers k nought
  last_operand op start count l k v h e = e ∙ held_operand start count l.numbers l.held k h

-- ---- one operand

only_one : (ds : List Decimal) → length ds ≡ 1 → Some (get_or ds 0 nought) ≡ only (operands ds)
only_one [] e = absurd (no e)
only_one (d ∷ []) e = refl
only_one (d ∷ f ∷ ds) e = absurd (no (omega arith))

only_other : (ds : List Decimal) → (length ds ≡ 1 → ⊥) → None ≡ only (operands ds)
only_other [] e = refl
only_other (d ∷ []) e = absurd (e refl)
only_other (d ∷ f ∷ ds) e = refl

module _ (b : List ℕ) (op : ℕ) (r : Option OperandsAt) (e : r ≡ place_of op b) where
  pub one-absent : r ≡ None → None ≡ one_of op (entries_of b)
  one-absent q = sym (ap only (none_last b op r e q))

  module _ (start count : ℕ) (q : r ≡ found_at start count) where
    pub one_other : (count ≡ 1 → ⊥) → None ≡ one_of op (entries_of b)
    one_other n =
        let l = found-last b op r e start count q in
        only_other l.numbers (λ z. n (l.held.counted ∙ z)) ∙ sym (ap only l.last)

    pub one_is : count ≡ 1 → (v : Decimal) → v ≡ get_or (operands_at 1 b start) 0 nought → Some v ≡ one_of op (entries_of b)
    one_is n v f =
        let l = found-last b op r e start count q in
        ap Some (last_operand b op start count l 0 v (omega arith) f) ∙ only_one l.numbers (sym l.held.counted ∙ n) ∙ sym (ap only l.last)

  pub there_not : r ≡ None → false ≡ is_there (last_of op (entries_of b))
  there_not q = sym (ap is_there (none_last b op r e q))

  pub there_is : (start count : ℕ) → r ≡ found_at start count → true ≡ is_there (last_of op (entries_of b))
  there_is start count q = sym (ap is_there (found-last b op r e start count q).last)

-- ---- its numbers are normal

module _ (b : List ℕ) (o : Octets b) where
  none-normal : (q : Number) (f : ℕ → List Decimal) → ((d : Decimal) (next : ℕ) → q ≡ number d next → Normal d) → ((next : ℕ) → AllNormal (f next)) → AllNormal (or_none q f)
  unfolding AllNormal
  none-normal (refusedNumber n) f h l = tt
  none-normal not_number f h l = tt
  none-normal (number d next) f h l = (h d next refl, l next)

  number-normal : (at : ℕ) (d : Decimal) (next : ℕ) → number_at b at ≡ number d next → (t : Bool) → ltb at (length b) ≡ t → Normal d
  number-normal at d next e true h = (number-taken b at d next o (ltb-true at (length b) h) e).normal
  number-normal at d next e false h = absurd (no (let f = number_out b at (ltb-false at (length b) h) in cc))

  pub operands_normal : (n at : ℕ) → AllNormal (operands_at n b at)
  unfolding operands_at AllNormal
  operands_normal zero at = tt
  operands_normal (suc n) at =
      none-normal (number_at b at) (operands_at n b) (λ d next e. number-normal at d next e (ltb at (length b)) refl) (operands_normal n)

-- ---- a string id has 16 bits

low_id : (t s u : Bool) (m sid : ℕ) → ltb m 65536 ≡ u → pick t (Some 0) (pick s None (pick u (Some m) None)) ≡ Some sid → sid < 65536
low_id true s u m sid h e = let z : 0 ≡ sid = cc in omega arith
low_id false true u m sid h e = absurd (no cc)
low_id false false true m sid h e = let z : m ≡ sid = cc in omega (arith, ltb-true m 65536 h)
low_id false false false m sid h e = absurd (no cc)

pub id_low : (o : Option Decimal) (sid : ℕ) → id_as o ≡ Some sid → sid < 65536
id_low None sid e = absurd (no cc)
id_low (Some d) sid e = low_id (eqb (trunc_of d) 0) d.neg (ltb (trunc_of d) 65536) (trunc_of d) sid refl e

-- ---- PaintType

module _ (es : List Entry) (r : Option Decimal) (e : r ≡ one_of paint_type es) where
  pub stroked_absent : r ≡ None → false ≡ stroked_in es
  stroked_absent f = ap stroked_as (sym f ∙ e)

  pub stroked_number : (v : Decimal) → r ≡ Some v → not (eqb v.digits 0) ≡ stroked_in es
  stroked_number v f = ap stroked_as (sym f ∙ e)

-- ---- two operands, and three

private-two : (ds : List Decimal) → length ds ≡ 2 → private_as (operands (get_or ds 0 nought ∷ get_or ds 1 nought ∷ [])) ≡ private_as (operands ds)
private-two [] e = absurd (no (omega arith))
private-two (s ∷ []) e = absurd (no (omega arith))
private-two (s ∷ o ∷ []) e = refl
private-two (s ∷ o ∷ d ∷ ds) e = absurd (no (omega arith))

private_other : (ds : List Decimal) → (length ds ≡ 2 → ⊥) → Err Malformed ≡ private_as (operands ds)
private_other [] n = refl
private_other (s ∷ []) n = refl
private_other (s ∷ o ∷ []) n = absurd (n refl)
private_other (s ∷ o ∷ d ∷ ds) n = refl

ros-three : (ds : List Decimal) → length ds ≡ 3 → ros_as (operands (get_or ds 0 nought ∷ get_or ds 1 nought ∷ get_or ds 2 nought ∷ [])) ≡ ros_as (operands ds)
ros-three [] e = absurd (no (omega arith))
ros-three (r ∷ []) e = absurd (no (omega arith))
ros-three (r ∷ o ∷ []) e = absurd (no (omega arith))
ros-three (r ∷ o ∷ s ∷ []) e = refl
ros-three (r ∷ o ∷ s ∷ d ∷ ds) e = absurd (no (omega arith))

ros_other : (ds : List Decimal) → (length ds ≡ 3 → ⊥) → None ≡ ros_as (operands ds)
ros_other [] n = refl
ros_other (r ∷ []) n = refl
ros_other (r ∷ o ∷ []) n = refl
ros_other (r ∷ o ∷ s ∷ []) n = absurd (n refl)
ros_other (r ∷ o ∷ s ∷ d ∷ ds) n = refl

module _ (b : List ℕ) (r : Option OperandsAt) where
  module _ (e : r ≡ place_of private b) where
    pub private-absent : r ≡ None → Ok None ≡ private_in (entries_of b)
    private-absent q = sym (ap private_as (none_last b private r e q))

    module _ (start count : ℕ) (q : r ≡ found_at start count) where
      pub private_wrong : (count ≡ 2 → ⊥) → Err Malformed ≡ private_in (entries_of b)
      private_wrong n =
          let l = found-last b private r e start count q in
          private_other l.numbers (λ z. n (l.held.counted ∙ z)) ∙ sym (ap private_as l.last)

      pub private_is : count ≡ 2 → (s o : Decimal) → s ≡ get_or (operands_at 1 b start) 0 nought → o ≡ get_or (operands_at 2 b start) 1 nought
          → (x : Result (Option PrivateEntry) Refusal) → x ≡ private_as (operands (s ∷ o ∷ [])) → x ≡ private_in (entries_of b)
      private_is n s o f g x h =
          let l = found-last b private r e start count q in
          let u = last_operand b private start count l 0 s (omega arith) f in
          let v = last_operand b private start count l 1 o (omega arith) g in
          h ∙ ap (λ (y : Decimal). private_as (operands (y ∷ o ∷ []))) u ∙ ap (λ (y : Decimal). private_as (operands (get_or l.numbers 0 nought ∷ y ∷ []))) v
          ∙ private-two l.numbers (sym l.held.counted ∙ n) ∙ sym (ap private_as l.last)

  module _ (e : r ≡ place_of ros b) where
    pub ros-absent : r ≡ None → None ≡ ros_in (entries_of b)
    ros-absent q = sym (ap ros_as (none_last b ros r e q))

    module _ (start count : ℕ) (q : r ≡ found_at start count) where
      pub ros_wrong : (count ≡ 3 → ⊥) → None ≡ ros_in (entries_of b)
      ros_wrong n =
          let l = found-last b ros r e start count q in
          ros_other l.numbers (λ z. n (l.held.counted ∙ z)) ∙ sym (ap ros_as l.last)

      pub ros_is : count ≡ 3 → (g o s : Decimal) → g ≡ get_or (operands_at 1 b start) 0 nought → o ≡ get_or (operands_at 2 b start) 1 nought
          → s ≡ get_or (operands_at 3 b start) 2 nought → (x : Option RosEntry) → x ≡ ros_as (operands (g ∷ o ∷ s ∷ [])) → x ≡ ros_in (entries_of b)
      ros_is n g o s h i j x k =
          let l = found-last b ros r e start count q in
          let u = last_operand b ros start count l 0 g (omega arith) h in
          let v = last_operand b ros start count l 1 o (omega arith) i in
          let w = last_operand b ros start count l 2 s (omega arith) j in
          k ∙ ap (λ (y : Decimal). ros_as (operands (y ∷ o ∷ s ∷ []))) u ∙ ap (λ (y : Decimal). ros_as (operands (get_or l.numbers 0 nought ∷ y ∷ s ∷ []))) v
          ∙ ap (λ (y : Decimal). ros_as (operands (get_or l.numbers 0 nought ∷ get_or l.numbers 1 nought ∷ y ∷ []))) w
          ∙ ros-three l.numbers (sym l.held.counted ∙ n) ∙ sym (ap ros_as l.last)

-- ---- a DICT that is not refused holds the entries that were read

gathered-listed : (b : List ℕ) (at : ℕ) (rs : List Reading) → Chain b at rs → refusal_of (gathered rs) ≡ None → gathered rs ≡ Ok (listed rs)
unfolding Chain gathered listed
gathered-listed b at [] c e = refl
gathered-listed b at (stopped n ∷ rs) c e = absurd (no cc)
gathered-listed b at (got op ds end next ∷ rs) c e =
    ap (before (record { op = op; operands = ds }))
    (gathered-listed b next rs c.1 (sym (before-refusal (record { op = op; operands = ds }) (gathered rs)) ∙ e))

pub good-entries : (b : List ℕ) → Good b → dict_of b ≡ Ok (entries_of b)
unfolding dict_of
good-entries b g = gathered-listed b 0 (readings_at b 0) (chain b 0) g.accepted

pub entries_are : (b : List ℕ) (es : List Entry) → dict_of b ≡ Ok es → entries_of b ≡ es
entries_are b es e = let g = good-entries b (record { accepted = ap refusal_of e }) in cc

-- ---- its Private entry

unread : (g : Result (List Entry) Refusal) (n : Refusal) → refusal_of g ≡ Some n → Err n ≡ private_read g
unread (Err m) n e = let k : m ≡ n = cc in ap Err (sym k)
unread (Ok es) n e = absurd (no cc)

module _ (b : List ℕ) where
  pub private_unread : (n : Refusal) → refusal_of (dict_of b) ≡ Some n → Err n ≡ private_read (dict_of b)
  private_unread n e = unread (dict_of b) n e

  pub private_told : refusal_of (dict_of b) ≡ None → (x : Result (Option PrivateEntry) Refusal) → x ≡ private_in (entries_of b) → x ≡ private_read (dict_of b)
  private_told e x h = h ∙ sym (ap private_read (good-entries b (record { accepted = e })))
