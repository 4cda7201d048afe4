-- Entries that were written read back: those of any list, those of a DICT, and a Private DICT that was copied.
use Rattle.std.specs.Prelude.{ℕ, ◌<◌, ◌≡◌, refl, true, List, [], ◌∷◌, ◌++◌, eqb, Ok}
use Rattle.std.proofs.Common.{sym, ap, ◌∙◌, append_assoc, append-nil}
use Rattle.octets.specs.Pick.{pick_ind}
use Rattle.octets.specs.Octets.{Octets}
use Rattle.decimal.specs.Decimal.{whole}
use Rattle.dict.specs.Op.{is_operator, subrs}
use Rattle.dict.specs.Dict.{Entry, dict_of}
use Rattle.dict.specs.Places.{entries_of}
use Rattle.dict.specs.Proper.{AllProper}
use Rattle.dict.proofs.ProperLaws.{entries_proper}
use Rattle.dict_write.specs.Written.{entry_bytes, entries_bytes, offset_entry, without, private_bytes}
use Rattle.dict_write.specs.Parts.{Part, plain, offset, part_bytes, parts_bytes, part_entry, parts_entries, AllFit}
use Rattle.dict_write.specs.DictRound.{parts-read}

-- ---- parts in a row

pub parts-append : (ps qs : List Part) → parts_bytes (ps ++ qs) ≡ parts_bytes ps ++ parts_bytes qs
unfolding parts_bytes
parts-append [] qs = refl
parts-append (p ∷ ps) qs = ap (λ (l : List ℕ). part_bytes p ++ l) (parts-append ps qs) ∙ sym (append_assoc (part_bytes p) (parts_bytes ps) (parts_bytes qs))

pub entries-append : (ps qs : List Part) → parts_entries (ps ++ qs) ≡ parts_entries ps ++ parts_entries qs
unfolding parts_entries
entries-append [] qs = refl
entries-append (p ∷ ps) qs = ap (λ (l : List Entry). part_entry p ∷ l) (entries-append ps qs)

pub fit_append : (ps qs : List Part) → AllFit ps → AllFit qs → AllFit (ps ++ qs)
unfolding AllFit
fit_append [] qs f g = g
fit_append (p ∷ ps) qs f g = (f.0, fit_append ps qs f.1 g)

-- ---- entries as parts

unfoldable pub plains : List Entry → List Part
plains [] = []
plains (e ∷ es) = plain e ∷ plains es

pub plains-bytes : (es : List Entry) → parts_bytes (plains es) ≡ entries_bytes es
unfolding plains parts_bytes entries_bytes
plains-bytes [] = refl
plains-bytes (e ∷ es) = ap (λ (l : List ℕ). entry_bytes e.op e.operands ++ l) (plains-bytes es)

pub plains-entries : (es : List Entry) → parts_entries (plains es) ≡ es
unfolding plains parts_entries
plains-entries [] = refl
plains-entries (e ∷ es) = ap (λ (l : List Entry). e ∷ l) (plains-entries es)

pub plains_fit : (es : List Entry) → AllProper es → AllFit (plains es)
unfolding plains AllFit AllProper
plains_fit [] h = tt
plains_fit (e ∷ es) h = (h.0, plains_fit es h.1)

-- ---- what was written reads back

pub entries-read : (es : List Entry) → AllProper es → dict_of (entries_bytes es) ≡ Ok es
entries-read es h = ap dict_of (sym (plains-bytes es)) ∙ parts-read (plains es) (plains_fit es h) ∙ ap Ok (plains-entries es)

-- entries, and an offset behind them
pub offset_read : (es : List Entry) (op value : ℕ) → AllProper es → is_operator op ≡ true → value < 2147483648
    → dict_of (entries_bytes es ++ offset_entry op value) ≡ Ok (es ++ (record { op = op; operands = whole value ∷ [] } ∷ []))
unfolding parts_bytes parts_entries AllFit
offset_read es op value h o v =
    let last = offset op value ∷ [] in
    let bs : parts_bytes (plains es ++ last) ≡ entries_bytes es ++ offset_entry op value
    = parts-append (plains es) last ∙ ap (λ (l : List ℕ). l ++ parts_bytes last) (plains-bytes es) ∙ ap (λ (l : List ℕ). entries_bytes es ++ l) (append-nil (offset_entry op value)) in
    let en : parts_entries (plains es ++ last) ≡ es ++ (record { op = op; operands = whole value ∷ [] } ∷ [])
    = entries-append (plains es) last ∙ ap (λ (l : List Entry). l ++ parts_entries last) (plains-entries es) in
    ap dict_of (sym bs) ∙ parts-read (plains es ++ last) (fit_append (plains es) last (plains_fit es h) ((o, v), tt)) ∙ ap Ok en

-- ---- a Private DICT

pub without_proper : (op : ℕ) (es : List Entry) → AllProper es → AllProper (without op es)
unfolding without AllProper
without_proper op [] h = tt
without_proper op (e ∷ es) h =
    pick_ind AllProper (eqb e.op op) _ _ (λ t. without_proper op es h.1) (λ t. (h.0, without_proper op es h.1))

module _ (b : List ℕ) (o : Octets b) where
  pub private-read : dict_of (private_bytes (entries_of b)) ≡ Ok (without subrs (entries_of b))
  private-read = entries-read (without subrs (entries_of b)) (without_proper subrs (entries_of b) (entries_proper b o))

  -- with the offset of its subroutines
  pub private-subrs-read : (value : ℕ) → value < 2147483648
      → dict_of (private_bytes (entries_of b) ++ offset_entry subrs value) ≡ Ok (without subrs (entries_of b) ++ (record { op = subrs; operands = whole value ∷ [] } ∷ []))
  private-subrs-read value v = offset_read (without subrs (entries_of b)) subrs value (without_proper subrs (entries_of b) (entries_proper b o)) refl v
