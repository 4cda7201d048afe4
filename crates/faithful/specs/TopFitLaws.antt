-- The top DICT of a subset is its parts, and each part fits a DICT: operators that there are, and numbers within the limits.
use Prim.Native.Nat.{ℕ, ◌+◌, ◌≤◌, ◌<◌, min}
use Rattle.std.specs.Prelude.{◌≡◌, Bool, true, false, eqb, length, None, Option, Some}
use Rattle.std.proofs.Math.Path.{refl, ap}
use Rattle.std.proofs.Common.{◌∙◌, arith}
use mathlib.Core.List.{List, [], ◌∷◌, ◌++◌, append-nil}
use Rattle.octets.specs.Pick.{pick, pick_ind}
use Rattle.decimal.specs.declared.Decimal.{Decimal}
use Rattle.decimal.specs.declared.Signed.{Signed}
use Rattle.decimal.specs.Decimal.{Normal, whole}
use Rattle.decimal.specs.TakenLaws.{whole-normal}
use Rattle.decimal.specs.Values.{trunc_of, i32_of}
use Rattle.strings.specs.Text.{same_text_lem}
use Rattle.strings.specs.Strings.{string_text, sid_of}
use Rattle.strings.proofs.StringsLaws.{sid_below}
use Rattle.dict.specs.Op.{is_operator, ros, cid_count, copied_top_entries, copied_top_strings}
use Rattle.dict.specs.Dict.{Entry}
use Rattle.dict.specs.Proper.{AllNormal, Proper, AllProper}
use Rattle.dict.specs.Lookup.{Operands, absent, operands, last_from, last_of, one_of, id_in, ros_as, ros_in, count_as, cid_count_in}
use Rattle.dict.specs.declared.RosEntry.{RosEntry}
use Rattle.dict_write.specs.Written.{copied_entry, entry_bytes, offset_entry, private_entry}
use Rattle.dict_write.specs.Parts.{Part, plain, offset, private_part, part_bytes, parts_bytes, AllFit}
use Rattle.dict_write.specs.EntriesRound.{parts-append, fit_append}
use Rattle.cff.specs.Font.{Program, charset, encoding, char_strings, fd_array, fd_select_lem}
use Rattle.subset.specs.Texts.{Named, named_by, named_entries, place_in, id_after, new_id}
use Rattle.subset.specs.Codes.{encoding_entry}
use Rattle.subset.specs.Subset.{named, named_bytes, copied_bytes, ros_entry, top_by_name, top_by_cid}
use Rattle.faithful.specs.Laid.{GoodProgram}
use Rattle.faithful.specs.TopParts.{named_parts, copied_part, copied_parts, ros_parts, shared_parts, encoding_parts, name_top_parts, cid_top_parts}

-- ---- the bytes

-- of the string entries
pub named-bytes : (own : List (List ℕ)) (ns : List Named) → parts_bytes (named_parts own ns) ≡ named_bytes own ns
unfolding named_parts parts_bytes named_bytes
named-bytes own [] = refl
named-bytes own (n ∷ ns) = ap (λ (l : List ℕ). entry_bytes n.op (whole (new_id own n.text) ∷ []) ++ l) (named-bytes own ns)

-- of one copied entry
copied-one : (op : ℕ) (o : Operands) (ps : List Part) → parts_bytes (copied_part op o ++ ps) ≡ copied_entry op o ++ parts_bytes ps
unfolding parts_bytes copied_entry
copied-one op absent ps = refl
copied-one op (operands ds) ps = refl

-- of the copied entries
pub copied-bytes : (es : List Entry) (ops : List ℕ) → parts_bytes (copied_parts es ops) ≡ copied_bytes es ops
unfolding copied_parts parts_bytes copied_bytes
copied-bytes es [] = refl
copied-bytes es (op ∷ ops) =
    copied-one op (last_of op es) (copied_parts es ops) ∙ ap (λ (l : List ℕ). copied_entry op (last_of op es) ++ l) (copied-bytes es ops)

-- of ROS
ros-bytes : (p : Program) (own : List (List ℕ)) (r : Option RosEntry) (ps : List Part) → parts_bytes (ros_parts p own r ++ ps) ≡ ros_entry p own r ++ parts_bytes ps
unfolding parts_bytes
ros-bytes p own None ps = refl
ros-bytes p own (Some q) ps = refl

-- of what both keyings share
shared-bytes : (p : Program) (own : List (List ℕ)) (ps : List Part)
    → parts_bytes (shared_parts p own ps) ≡ named_bytes own (named p) ++ (copied_bytes p.top copied_top_entries ++ parts_bytes ps)
shared-bytes p own ps =
    let copied = copied_parts p.top copied_top_entries in
    parts-append (named_parts own (named p)) (copied ++ ps) ∙ ap (λ (l : List ℕ). l ++ parts_bytes (copied ++ ps)) (named-bytes own (named p))
    ∙ ap (λ (l : List ℕ). named_bytes own (named p) ++ l) (parts-append copied ps ∙ ap (λ (l : List ℕ). l ++ parts_bytes ps) (copied-bytes p.top copied_top_entries))

-- of the encoding
encoding-bytes : (t : Bool) (v : ℕ) (ps : List Part)
    → parts_bytes (pick t [] (offset encoding v ∷ []) ++ ps) ≡ pick t [] (offset_entry encoding v) ++ parts_bytes ps
unfolding parts_bytes
encoding-bytes true v ps = refl
encoding-bytes false v ps = refl

module _ (p : Program) (own : List (List ℕ)) where
  -- the top DICT of a name-keyed subset
  pub name-bytes : (at₁ v at₂ size at₃ : ℕ) → parts_bytes (name_top_parts p own at₁ v at₂ size at₃) ≡ top_by_name p own at₁ v at₂ size at₃
  unfolding parts_bytes
  name-bytes at₁ v at₂ size at₃ =
      let rest = offset char_strings at₂ ∷ private_part size at₃ ∷ [] in
      let front : List ℕ → List ℕ = λ l. named_bytes own (named p) ++ (copied_bytes p.top copied_top_entries ++ (offset_entry charset at₁ ++ l)) in
      shared-bytes p own (offset charset at₁ ∷ (encoding_parts v ++ rest))
      ∙ ap front (encoding-bytes (eqb v 0) v rest)
      ∙ ap (λ (l : List ℕ). front (encoding_entry v ++ (offset_entry char_strings at₂ ++ l))) (append-nil (private_entry size at₃))

  -- the top DICT of a CID-keyed subset
  pub cid_bytes : (at₁ at₂ at₃ at₄ : ℕ) → parts_bytes (cid_top_parts p own at₁ at₂ at₃ at₄) ≡ top_by_cid p own at₁ at₂ at₃ at₄
  unfolding parts_bytes
  cid_bytes at₁ at₂ at₃ at₄ =
      let count = plain (record { op = cid_count; operands = whole (cid_count_in p.top) ∷ [] }) in
      let ps = count ∷ offset charset at₁ ∷ offset fd_select_lem at₂ ∷ offset char_strings at₃ ∷ offset fd_array at₄ ∷ [] in
      ros-bytes p own (ros_in p.top) (shared_parts p own ps)
      ∙ ap (λ (l : List ℕ). ros_entry p own (ros_in p.top) ++ l)
      (shared-bytes p own ps
      ∙ ap (λ (l : List ℕ). named_bytes own (named p) ++ (copied_bytes p.top copied_top_entries
      ++ (part_bytes count ++ (offset_entry charset at₁ ++ (offset_entry fd_select_lem at₂ ++ (offset_entry char_strings at₃ ++ l))))))
      (append-nil (offset_entry fd_array at₄)))

-- ---- new string ids

-- a text's place among some is at most their number
place-within : (t : List ℕ) (own : List (List ℕ)) → place_in t own ≤ length own
unfolding place_in
place-within t [] = omega arith
place-within t (x ∷ xs) =
    pick_ind (λ (n : ℕ). n ≤ length (x ∷ xs)) (same_text_lem x t) 0 (place_in t xs + 1) (λ e. omega arith) (λ e. omega (arith, place-within t xs))

-- by the kind of the text
after-below : (own : List (List ℕ)) (t : List ℕ) → length own ≤ 64609 → (s : Option ℕ) → sid_of t ≡ s → id_after s t own < 65536
after-below own t h (Some k) e = omega (arith, sid_below t k e)
after-below own t h None e = omega (arith, place-within t own)

-- a new string id fits two bytes
pub new-below : (own : List (List ℕ)) (t : List ℕ) → length own ≤ 64609 → new_id own t < 65536
unfolding new_id
new-below own t h = after-below own t h (sid_of t) refl

-- ---- the parts fit

-- each of some numbers is an operator
unfoldable pub Operators : List ℕ → Type 0
Operators [] = Unit
Operators (op ∷ ops) = (is_operator op ≡ true) × Operators ops

-- a number of 32 bits is one that a DICT can hold
number-normal : (n : ℕ) → n < 4294967296 → Normal (whole n)
number-normal n h = whole-normal false n (omega arith)

-- and so is an entry of it alone
one_proper : (op n : ℕ) → is_operator op ≡ true → n < 4294967296 → Proper (record { op = op; operands = whole n ∷ [] })
unfolding AllNormal
one_proper op n o h = record { operator = o; numbers = (number-normal n h, tt) }

module _ (p : Program) (own : List (List ℕ)) (few : length own ≤ 64609) where
  -- a string entry
  named-one-fits : (op : ℕ) → is_operator op ≡ true → (i : Option ℕ) (ns : List Named) → AllFit (named_parts own ns) → AllFit (named_parts own (named_by p op i ns))
  unfolding named_parts AllFit
  named-one-fits op o None ns h = h
  named-one-fits op o (Some sid) ns h =
      let t = string_text p.strings sid in (one_proper op (new_id own t) o (omega (arith, new-below own t few)), h)

  -- the string entries
  pub named_fit : (ops : List ℕ) → Operators ops → AllFit (named_parts own (named_entries p ops))
  unfolding named_entries named_parts AllFit Operators
  named_fit [] o = tt
  named_fit (op ∷ ops) o = named-one-fits op o.0 (id_in op p.top) (named_entries p ops) (named_fit ops o.1)

-- the operands of an entry that was found are numbers of a DICT
abbrev pub NormalOperands : Operands → Type 0
NormalOperands absent = Unit
NormalOperands (operands ds) = AllNormal ds

-- of the last entry
pub last-normal : (op : ℕ) (o : Operands) (es : List Entry) → AllProper es → NormalOperands o → NormalOperands (last_from op o es)
unfolding last_from AllProper
last-normal op o [] h n = n
last-normal op o (e ∷ es) h n =
    last-normal op (pick (eqb e.op op) (operands e.operands) o) es h.1
    (pick_ind NormalOperands (eqb e.op op) (operands e.operands) o (λ t. h.0.numbers) (λ t. n))

-- a copied entry
copied-one-fits : (op : ℕ) → is_operator op ≡ true → (o : Operands) → NormalOperands o → AllFit (copied_part op o)
unfolding AllFit
copied-one-fits op h absent n = tt
copied-one-fits op h (operands ds) n = (record { operator = h; numbers = n }, tt)

-- the copied entries
pub copied_fit : (es : List Entry) → AllProper es → (ops : List ℕ) → Operators ops → AllFit (copied_parts es ops)
unfolding copied_parts AllFit Operators last_of
copied_fit es h [] o = tt
copied_fit es h (op ∷ ops) o =
    fit_append (copied_part op (last_of op es)) (copied_parts es ops)
    (copied-one-fits op o.0 (last_of op es) (last-normal op absent es h tt)) (copied_fit es h ops o.1)

-- the supplement of a ROS has 32 bits
abbrev SmallRos : Option RosEntry → Type 0
SmallRos None = Unit
SmallRos (Some q) = q.supplement.size ≤ 2147483648

-- of any number
supplement_small : (d : Decimal) → (i32_of d).size ≤ 2147483648
supplement_small d =
    pick_ind (λ (s : Signed). s.size ≤ 2147483648) (eqb (trunc_of d) 0) _ _ (λ e. omega arith)
    (λ e. pick_ind (λ (n : ℕ). min (trunc_of d) n ≤ 2147483648) d.neg 2147483648 2147483647 (λ t. omega arith) (λ t. omega arith))

-- of any operands
ros-small : (o : Operands) → SmallRos (ros_as o)
ros-small absent = tt
ros-small (operands []) = tt
ros-small (operands (r ∷ [])) = tt
ros-small (operands (r ∷ o ∷ [])) = tt
ros-small (operands (r ∷ o ∷ s ∷ [])) = supplement_small s
ros-small (operands (r ∷ o ∷ s ∷ d ∷ ds)) = tt

-- ROS
ros-fits : (p : Program) (own : List (List ℕ)) → length own ≤ 64609 → (r : Option RosEntry) → SmallRos r → AllFit (ros_parts p own r)
unfolding AllFit AllNormal
ros-fits p own few None h = tt
ros-fits p own few (Some q) h =
    let text : ℕ → List ℕ = string_text p.strings in
    let id : (t : List ℕ) → Normal (whole (new_id own t)) = λ t. number-normal (new_id own t) (omega (arith, new-below own t few)) in
    (record { operator = refl; numbers = (id (text q.registry), (id (text q.ordering), (whole-normal q.supplement.neg q.supplement.size (omega arith), tt))) }, tt)

-- CIDCount is below 4294967296
count_small : (o : Option Decimal) → count_as o < 4294967296
count_small None = omega arith
count_small (Some d) = pick_ind (λ (n : ℕ). n < 4294967296) d.neg 0 (min (trunc_of d) 4294967295) (λ t. omega arith) (λ t. omega arith)

-- the encoding
encoding-fits : (t : Bool) (v : ℕ) (ps : List Part) → v < 2147483648 → AllFit ps → AllFit (pick t [] (offset encoding v ∷ []) ++ ps)
unfolding AllFit
encoding-fits true v ps h f = f
encoding-fits false v ps h f = ((refl, h), f)

module _ (p : Program) (own : List (List ℕ)) (good : GoodProgram p) (few : length own ≤ 64609) where
  -- what both keyings share
  shared_fit : (ps : List Part) → AllFit ps → AllFit (shared_parts p own ps)
  unfolding Operators
  shared_fit ps h =
      fit_append (named_parts own (named p)) _ (named_fit p own few copied_top_strings (refl, (refl, (refl, (refl, (refl, (refl, tt)))))))
      (fit_append (copied_parts p.top copied_top_entries) ps (copied_fit p.top good.top copied_top_entries (refl, (refl, (refl, (refl, (refl, (refl, tt))))))) h)

  -- the parts of the top DICT of a name-keyed subset
  pub name_fit : (at₁ v at₂ size at₃ : ℕ) → at₁ < 2147483648 → v < 2147483648 → at₂ < 2147483648 → size < 2147483648 → at₃ < 2147483648
      → AllFit (name_top_parts p own at₁ v at₂ size at₃)
  unfolding AllFit
  name_fit at₁ v at₂ size at₃ h₁ hᵥ h₂ h h₃ =
      let rest : List Part = offset char_strings at₂ ∷ private_part size at₃ ∷ [] in
      let fits : AllFit rest = ((refl, h₂), ((h, h₃), tt)) in
      shared_fit _ ((refl, h₁), encoding-fits (eqb v 0) v rest hᵥ fits)

  -- the parts of the top DICT of a CID-keyed subset
  pub cid_fit : (at₁ at₂ at₃ at₄ : ℕ) → at₁ < 2147483648 → at₂ < 2147483648 → at₃ < 2147483648 → at₄ < 2147483648 → AllFit (cid_top_parts p own at₁ at₂ at₃ at₄)
  unfolding AllFit
  cid_fit at₁ at₂ at₃ at₄ h₁ h₂ h₃ h₄ =
      fit_append (ros_parts p own (ros_in p.top)) _ (ros-fits p own few (ros_in p.top) (ros-small (last_of ros p.top)))
      (shared_fit _ (one_proper cid_count (cid_count_in p.top) refl (count_small (one_of cid_count p.top)), ((refl, h₁), ((refl, h₂), ((refl, h₃), ((refl, h₄), tt))))))
