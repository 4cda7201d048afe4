-- A Private DICT that was written reads back (document 01, 'Layout'): its entries but for Subrs, and the local subroutines, which stand directly
-- behind it; and those of the FDs in use, which their Font DICTs name.
use Prim.Native.Nat.{ℕ, zero, suc, ◌+◌, ◌≤◌, ◌<◌}
use Rattle.std.specs.Prelude.{◌≡◌, Bool, false, eqb, take, drop, Result, Ok, Err, Option, Some, None}
use Rattle.std.proofs.Math.Path.{refl, ap}
use Rattle.std.proofs.Common.{sym, ◌∙◌, not-suc-le-zero, arith, le-ltb, ne_eqb}
use mathlib.Core.List.{List, [], ◌∷◌, ◌++◌, append_assoc, append-nil}
use Rattle.std.proofs.Math.ListN.{length, get_or, length-append}
use Rattle.octets.specs.Pick.{pick}
use Rattle.index.specs.Index.{read_index}
use Rattle.index.specs.Write.{index_bytes}
use Rattle.decimal.specs.Decimal.{whole}
use Rattle.dict.specs.Op.{private, subrs, font_matrix}
use Rattle.dict.specs.Dict.{Entry, dict_of}
use Rattle.dict.specs.Lookup.{Operands, absent, operands, last_from, last_of, only, offset_told, offset_as, offset_in, private_in, private_there}
use Rattle.dict.specs.Proper.{AllProper}
use Rattle.dict.specs.Places.{entries_of}
use Rattle.dict.proofs.LookupLaws.{entries_are}
use Rattle.dict_write.specs.Written.{entry_bytes, copied_entry, offset_entry, private_entry, without, private_bytes}
use Rattle.dict_write.specs.WriteLaws.{subrs-length}
use Rattle.dict_write.specs.Parts.{Part, parts_bytes, parts_entries, AllFit}
use Rattle.dict_write.specs.DictRound.{parts-read}
use Rattle.dict_write.specs.EntriesRound.{entries-read, offset_read, without_proper}
use Rattle.cff.specs.Font.{then, index_got, locals_at, Private, private_data, private_at, privates_at, dicts_at, Program, empty_private}
use Rattle.subset.specs.Kept.{private_of}
use Rattle.subset.specs.Subset.{private_dict, private_part, private_parts, matrix_of, font_dicts}
use Rattle.faithful.specs.Laid.{GoodProgram, matrices_of}
use Rattle.faithful.specs.WholeLaws.{offset-whole, private-whole, last_snoc, last-without}
use Rattle.faithful.specs.TopFitLaws.{NormalOperands, last-normal}
use Rattle.faithful.specs.LiesLaws.{lies_behind, lies_part, lies_within, index_back}
use Rattle.dict.specs.declared.PrivateEntry.{PrivateEntry}
use Rattle.refusal.specs.declared.Refusal.{Refusal}
use Rattle.refusal.specs.declared.Refusal.TheVariants.{Truncated}

-- ---- one Private DICT

-- a Private DICT of these bytes, whose entries and local subroutines are known, is read
module _ (bs : List ℕ) (at : ℕ) (dict post : List ℕ) (within : at ≤ length bs) (lies : drop at bs ≡ dict ++ post) where
  data-back : (es : List Entry) (ls : List (List ℕ)) → dict_of dict ≡ Ok es → locals_at bs at (offset_in subrs es) ≡ Ok ls
      → private_data bs (length dict) at ≡ Ok (record { entries = es; locals = ls })
  unfolding private_data
  data-back es ls d l =
      let rest : Result (List Entry) Refusal → Result Private Refusal
      = λ g. then g (λ es. then (locals_at bs at (offset_in subrs es)) (λ subrs. Ok (record { entries = es; locals = subrs }))) in
      ap (λ (t : Bool). pick t (Err Truncated) (rest (dict_of (take (length dict) (drop at bs)))))
      (le-ltb (length bs) (at + length dict) (lies_within bs at dict post lies within))
      ∙ ap (λ (x : List ℕ). rest (dict_of x)) (lies_part bs at dict post lies)
      ∙ ap rest d
      ∙ ap (λ (g : Result (List (List ℕ)) Refusal). then g (λ subrs. Ok (record { entries = es; locals = subrs }))) l

-- Subrs is not among the entries of other operators
no_subrs : (es : List Entry) → offset_in subrs (without subrs es) ≡ Ok None
unfolding last_of
no_subrs es = ap (λ (o : Operands). offset_as (only o)) (last-without subrs absent es)

-- and is where it was written behind them
the_subrs : (es : List Entry) (v : ℕ) → v < 2147483648 → offset_in subrs (es ++ (record { op = subrs; operands = whole v ∷ [] } ∷ [])) ≡ Ok (Some v)
unfolding last_of
the_subrs es v h = ap (λ (o : Operands). offset_as (only o)) (last_snoc subrs absent es (whole v ∷ [])) ∙ ap offset_told (offset-whole v h)

module _ (bs : List ℕ) (at : ℕ) (es : List Entry) (proper : AllProper es) (short : length bs ≤ 67108864) (within : at ≤ length bs) where
  -- where no local subroutine is left
  none-back : (post : List ℕ) → drop at bs ≡ private_bytes es ++ post
      → private_data bs (length (private_bytes es)) at ≡ Ok (record { entries = without subrs es; locals = [] })
  unfolding locals_at
  none-back post lies =
      data-back bs at (private_bytes es) post within lies (without subrs es) [] (entries-read (without subrs es) (without_proper subrs es proper))
      (ap (locals_at bs at) (no_subrs es))

  -- where some are
  abbrev with_subrs : List ℕ
  with_subrs = private_bytes es ++ offset_entry subrs (length (private_bytes es) + 6)

  abbrev written : List Entry
  written = without subrs es ++ (record { op = subrs; operands = whole (length (private_bytes es) + 6) ∷ [] } ∷ [])

  module _ (ls : List (List ℕ)) (post : List ℕ) (few : length ls < 65536) (lies : drop at bs ≡ with_subrs ++ (index_bytes ls ++ post)) where
    -- its size, and the local subroutines behind it
    size_is : length with_subrs ≡ length (private_bytes es) + 6
    size_is = length-append (private_bytes es) _ ∙ ap (λ (n : ℕ). length (private_bytes es) + n) (subrs-length (length (private_bytes es) + 6))

    small : length (private_bytes es) + 6 < 2147483648
    small = omega (arith, size_is, lies_within bs at with_subrs (index_bytes ls ++ post) lies within)

    locals-back : locals_at bs at (Ok (Some (length (private_bytes es) + 6))) ≡ Ok ls
    unfolding locals_at
    locals-back =
        ap (λ (n : ℕ). index_got (read_index bs (at + n))) (sym size_is)
        ∙ ap index_got (index_back bs (at + length with_subrs) ls post few short (lies_behind bs at with_subrs (index_bytes ls ++ post) lies))

    some_back : private_data bs (length with_subrs) at ≡ Ok (record { entries = written; locals = ls })
    some_back =
        data-back bs at with_subrs (index_bytes ls ++ post) within lies written ls
        (offset_read (without subrs es) subrs (length (private_bytes es) + 6) (without_proper subrs es proper) refl small)
        (ap (locals_at bs at) (the_subrs (without subrs es) (length (private_bytes es) + 6) small) ∙ locals-back)

-- a Private DICT and its local subroutines that stand at a place read back
pub private-back : (bs : List ℕ) (at : ℕ) (q : Private) (ls : List (List ℕ)) (post : List ℕ) → AllProper q.entries → length ls < 65536
    → length bs ≤ 67108864 → at ≤ length bs → drop at bs ≡ private_part q ls ++ post
    → (es : List Entry) × (private_data bs (length (private_dict q ls)) at ≡ Ok (record { entries = es; locals = ls }))
private-back bs at q [] post proper few short within lies =
    let e : private_bytes q.entries ++ [] ≡ private_bytes q.entries = append-nil (private_bytes q.entries) in
    let l : drop at bs ≡ private_bytes q.entries ++ post
    = lies ∙ ap (λ (x : List ℕ). x ++ post) (append-nil (private_bytes q.entries ++ []) ∙ e) in
    (without subrs q.entries, ap (λ (x : List ℕ). private_data bs (length x) at) e ∙ none-back bs at q.entries proper short within post l)
private-back bs at q (x ∷ xs) post proper few short within lies =
    let bytes : List ℕ = private_bytes q.entries in
    let t : eqb (suc (length xs)) 0 ≡ false = ne_eqb (suc (length xs)) 0 (λ e. omega arith) in
    let d : private_dict q (x ∷ xs) ≡ bytes ++ offset_entry subrs (length bytes + 6)
    = ap (λ (u : Bool). bytes ++ pick u [] (offset_entry subrs (length bytes + 6))) t in
    let e : private_part q (x ∷ xs) ≡ (bytes ++ offset_entry subrs (length bytes + 6)) ++ index_bytes (x ∷ xs)
    = ap (λ (y : List ℕ). y ++ pick (eqb (suc (length xs)) 0) [] (index_bytes (x ∷ xs))) d
    ∙ ap (λ (u : Bool). (bytes ++ offset_entry subrs (length bytes + 6)) ++ pick u [] (index_bytes (x ∷ xs))) t in
    let l = lies ∙ ap (λ (y : List ℕ). y ++ post) e ∙ append_assoc (bytes ++ offset_entry subrs (length bytes + 6)) (index_bytes (x ∷ xs)) post in (
      written bs at q.entries proper short within,
      ap (λ (y : List ℕ). private_data bs (length y) at) d ∙ some_back bs at q.entries proper short within (x ∷ xs) post few l,
    )

-- ---- those of the FDs in use

-- the entries of a Font DICT with this FontMatrix
abbrev dict_entries : Operands → ℕ → ℕ → List Entry
dict_entries absent size at = record { op = private; operands = whole size ∷ whole at ∷ [] } ∷ []
dict_entries (operands ds) size at = record { op = font_matrix; operands = ds } ∷ record { op = private; operands = whole size ∷ whole at ∷ [] } ∷ []

-- a Font DICT that was written reads back
font-dict-back : (o : Operands) → NormalOperands o → (size at : ℕ) → size < 2147483648 → at < 2147483648
    → dict_of (copied_entry font_matrix o ++ private_entry size at) ≡ Ok (dict_entries o size at)
unfolding parts_bytes parts_entries AllFit copied_entry
font-dict-back absent n size at h k = ap dict_of (sym (append-nil (private_entry size at))) ∙ parts-read (Part.private_part size at ∷ []) ((h, k), tt)
font-dict-back (operands ds) n size at h k =
    ap (λ (l : List ℕ). dict_of (entry_bytes font_matrix ds ++ l)) (sym (append-nil (private_entry size at)))
    ∙ parts-read (Part.plain (record { op = font_matrix; operands = ds }) ∷ Part.private_part size at ∷ []) (record { operator = refl; numbers = n }, ((h, k), tt))

-- it names its Private DICT where that was written, and has that FontMatrix
private-named : (o : Operands) (size at : ℕ) → size < 2147483648 → at < 2147483648 → private_in (dict_entries o size at) ≡ private_there size at
unfolding last_of last_from
private-named absent size at h k = private-whole size at h k
private-named (operands ds) size at h k = private-whole size at h k

matrix_named : (o : Operands) (size at : ℕ) → last_of font_matrix (dict_entries o size at) ≡ o
unfolding last_of last_from
matrix_named absent size at = refl
matrix_named (operands ds) size at = refl

-- the FontMatrix of an FD has numbers that a DICT can hold
matrix_normal : (p : Program) → GoodProgram p → (f : ℕ) → NormalOperands (matrix_of p f)
unfolding last_of
matrix_normal p good f = last-normal font_matrix absent (get_or p.dicts f []) (good.dicts f) tt

-- the Private DICTs that these Font DICTs name, with their local subroutines; and the FontMatrix of each Font DICT
record Back (bs : List ℕ) (dicts : List (List ℕ)) (lss : List (List (List ℕ))) (matrices : List Operands) : Type 0 where
  privates : List Private
  read : privates_at bs dicts ≡ Ok privates
  many : length privates ≡ length lss
  locals : (k : ℕ) → k < length lss → (get_or privates k empty_private).locals ≡ get_or lss k []
  matrix : (k : ℕ) → last_of font_matrix (get_or (dicts_at dicts) k []) ≡ get_or matrices k absent

-- no Font DICT
back_none : (bs : List ℕ) → Back bs [] [] []
unfolding privates_at dicts_at last_of last_from
back_none bs = record { privates = []; read = refl; many = refl; locals = λ k h. absurd (not-suc-le-zero h); matrix = λ k. refl }

module _ (bs : List ℕ) (o : Operands) (n : NormalOperands o) (size at : ℕ) (h : size < 2147483648) (k : at < 2147483648) (p : Private)
    (is : private_data bs size at ≡ Ok p) (dicts : List (List ℕ)) (lss : List (List (List ℕ))) (matrices : List Operands) (more : Back bs dicts lss matrices) where
  -- one Font DICT more
  first_read : privates_at bs ((copied_entry font_matrix o ++ private_entry size at) ∷ dicts) ≡ Ok (p ∷ more.privates)
  unfolding privates_at private_at
  first_read =
      let rest : Result Private Refusal → Result (List Private) Refusal = λ g. then g (λ p. then (privates_at bs dicts) (λ ps. Ok (p ∷ ps))) in
      ap (λ (d : Result (List Entry) Refusal). then d (λ es. rest (private_at bs (private_in es)))) (font-dict-back o n size at h k)
      ∙ ap (λ (x : Result (Option PrivateEntry) Refusal). rest (private_at bs x)) (private-named o size at h k)
      ∙ ap rest is
      ∙ ap (λ (g : Result (List Private) Refusal). then g (λ ps. Ok (p ∷ ps))) more.read

  back_more : (ls : List (List ℕ)) → p.locals ≡ ls → Back bs ((copied_entry font_matrix o ++ private_entry size at) ∷ dicts) (ls ∷ lss) (o ∷ matrices)
  unfolding dicts_at
  back_more ls e = record { privates = p ∷ more.privates; read = first_read; many = ap suc more.many; locals = each; matrix = its }
    where
      its : (j : ℕ) → last_of font_matrix (get_or (entries_of (copied_entry font_matrix o ++ private_entry size at) ∷ dicts_at dicts) j []) ≡ get_or (o ∷ matrices) j absent
      its zero = ap (last_of font_matrix) (entries_are _ _ (font-dict-back o n size at h k)) ∙ matrix_named o size at
      its (suc j) = more.matrix j

      each : (j : ℕ) → j < suc (length lss) → (get_or (p ∷ more.privates) j empty_private).locals ≡ get_or (ls ∷ lss) j []
      each zero g = e
      each (suc j) g = more.locals j (omega arith)

module _ (bs : List ℕ) (p : Program) (good : GoodProgram p) (short : length bs ≤ 67108864) where
  -- all of them
  all_back : (at : ℕ) (used : List ℕ) (lss : List (List (List ℕ))) (post : List ℕ) → length lss ≡ length used → ((k : ℕ) → length (get_or lss k []) < 65536)
      → at ≤ length bs → drop at bs ≡ private_parts p used lss ++ post → Back bs (font_dicts p at used lss) lss (matrices_of p used)
  unfolding private_parts font_dicts matrices_of
  all_back at [] [] post same few within lies = back_none bs
  all_back at [] (ls ∷ lss) post same few within lies = absurd (omega arith)
  all_back at (f ∷ fs) [] post same few within lies = absurd (omega arith)
  all_back at (f ∷ fs) (ls ∷ lss) post same few within lies =
      let q : Private = private_of p f in
      let l = lies ∙ append_assoc (private_part q ls) (private_parts p fs lss) post in
      let w = lies_within bs at (private_part q ls) (private_parts p fs lss ++ post) l within in
      let b = private-back bs at q ls (private_parts p fs lss ++ post) (good.privates f) (few 0) short within l in
      let n = length-append (private_dict q ls) (pick (eqb (length ls) 0) [] (index_bytes ls)) in
      back_more bs (matrix_of p f) (matrix_normal p good f) (length (private_dict q ls)) at (omega arith) (omega arith) (record { entries = b.0; locals = ls }) b.1
      (font_dicts p (at + length (private_part q ls)) fs lss) lss (matrices_of p fs)
      (all_back (at + length (private_part q ls)) fs lss post (omega arith) (λ k. few (suc k)) w (lies_behind bs at (private_part q ls) (private_parts p fs lss ++ post) l))
      ls refl

-- the Font DICTs of the FDs in use and their Private DICTs, which stand at a place
pub privates-back : (bs : List ℕ) (at : ℕ) (p : Program) (used : List ℕ) (lss : List (List (List ℕ))) (post : List ℕ) → GoodProgram p
    → length lss ≡ length used → ((k : ℕ) → length (get_or lss k []) < 65536) → length bs ≤ 67108864 → at ≤ length bs
    → drop at bs ≡ private_parts p used lss ++ post
    → (ps : List Private) × (privates_at bs (font_dicts p at used lss) ≡ Ok ps) × (length ps ≡ length used)
    × ((k : ℕ) → k < length used → (get_or ps k empty_private).locals ≡ get_or lss k [])
    × ((k : ℕ) → last_of font_matrix (get_or (dicts_at (font_dicts p at used lss)) k []) ≡ get_or (matrices_of p used) k absent)
privates-back bs at p used lss post good same few short within lies =
    let b = all_back bs p good short at used lss post same few within lies in
    (b.privates, b.read, b.many ∙ same, (λ k h. b.locals k (omega arith)), b.matrix)
