-- Laws of copying a Private DICT: its entries walked one after the other, each but Subrs measured or written.
use Rattle.std.specs.Prelude.{ℕ, ◌≤◌, ◌<◌, ◌≡◌, refl, true, Result, Ok, Err}
use Rattle.std.proofs.Math.Path.{sym, ap}
use Rattle.std.proofs.Common.{◌∙◌, subst, eq-eqb, ne_eqb}
use mathlib.Core.List.{List, [], ◌∷◌, ◌++◌, append_assoc, append-nil}
use Rattle.std.proofs.Math.ListN.{length}
use Rattle.octets.specs.Octets.{Octets}
use Rattle.decimal.specs.declared.Decimal.{Decimal}
use Rattle.dict.specs.Op.{is_operator, subrs}
use Rattle.dict.specs.Dict.{Entry, Reading, entry_at, readings_at}
use Rattle.dict.specs.Places.{entry_told, listed, operands_at}
use Rattle.dict.specs.EntryLaws.{readings_end}
use Rattle.dict.proofs.WalkLaws.{Answered, answered, left_stopped, left-entry}
use Rattle.dict.proofs.ProperLaws.{Named, entry_named}
use Rattle.dict_write.specs.Written.{entry_bytes, entries_bytes, without}
use Rattle.dict.specs.declared.EntryAt.{EntryAt}
use Rattle.refusal.specs.declared.Refusal.{Refusal}

pub no_entry : entries_bytes [] ≡ []
unfolding entries_bytes
no_entry = refl

pub entries-append : (es fs : List Entry) → entries_bytes (es ++ fs) ≡ entries_bytes es ++ entries_bytes fs
unfolding entries_bytes
entries-append [] fs = refl
entries-append (e ∷ es) fs =
    ap (λ (l : List ℕ). entry_bytes e.op e.operands ++ l) (entries-append es fs)
    ∙ sym (append_assoc (entry_bytes e.op e.operands) (entries_bytes es) (entries_bytes fs))

pub one_entry : (op : ℕ) (ds : List Decimal) → entries_bytes (record { op = op; operands = ds } ∷ []) ≡ entry_bytes op ds
unfolding entries_bytes
one_entry op ds = append-nil (entry_bytes op ds)

-- what is copied from a position on
abbrev pub copied_from : List ℕ → ℕ → List Entry
copied_from b at = without subrs (listed (readings_at b at))

pub copied_end : (b : List ℕ) (at : ℕ) → length b ≤ at → copied_from b at ≡ []
unfolding listed without
copied_end b at h = ap (λ (l : List Reading). without subrs (listed l)) (readings_end b at h)

module _ (b : List ℕ) (at : ℕ) (h : at < length b) (r : Result EntryAt Refusal) (e : r ≡ entry_told at 0 (entry_at b at)) where
  pub copied_stopped : (n : Refusal) → r ≡ Err n → copied_from b at ≡ []
  unfolding listed without
  copied_stopped n f = ap (λ (l : List Reading). without subrs (listed l)) (left_stopped b at h r e n f)

  module _ (t : EntryAt) (f : r ≡ Ok t) where
    -- the entry as its place gives it
    pub entry-placed : Answered b at t
    entry-placed = answered b at h r e t f

    entry-bytes : entry_bytes t.op (operands_at t.count b t.start) ≡ entry_bytes t.op entry-placed.operands
    entry-bytes = ap (entry_bytes t.op) (ap (operands_at t.count b) entry-placed.starts ∙ ap (λ (n : ℕ). operands_at n b at) entry-placed.counted ∙ entry-placed.stands.here)

    pub one-placed : entries_bytes (record { op = t.op; operands = entry-placed.operands } ∷ []) ≡ entry_bytes t.op (operands_at t.count b t.start)
    one-placed = one_entry t.op entry-placed.operands ∙ sym entry-bytes

    first : listed (readings_at b at) ≡ record { op = t.op; operands = entry-placed.operands } ∷ listed (readings_at b t.next)
    unfolding listed
    first = ap listed (left-entry b at h r e t entry-placed)

    pub copied-kept : (t.op ≡ subrs → ⊥) → copied_from b at ≡ record { op = t.op; operands = entry-placed.operands } ∷ copied_from b t.next
    unfolding without
    copied-kept n = ap (without subrs) first ∙ rw (ne_eqb t.op 19 n)

    pub copied-left_out : t.op ≡ subrs → copied_from b at ≡ copied_from b t.next
    unfolding without
    copied-left_out q = ap (without subrs) first ∙ rw (eq-eqb t.op 19 q)

    pub entry-operator : Octets b → is_operator t.op ≡ true
    entry-operator o = subst Named entry-placed.entry (entry_named b o at)
