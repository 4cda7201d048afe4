-- The kinds of items that a lookup takes, by their numbers (document 01, 'Entries and their refusals').
use Rattle.std.specs.Prelude.{ℕ, ◌≡◌, eqb}
use Rattle.std.proofs.Common.{eq-eqb, ne_eqb}
use Rattle.octets.specs.Pick.{pick}
use Rattle.cff.specs.declared.ItemKind.{ItemKind}
use Rattle.cff.specs.declared.ItemKind.TheVariants.{Charstring, Global, Text}

-- the kinds of items by their numbers: 0 charstrings, 1 global subroutines, 2 strings
abbrev pub kind_of : ℕ → ItemKind
kind_of kind = pick (eqb kind 0) Charstring (pick (eqb kind 1) Global Text)

pub kind_charstring : (kind : ℕ) → kind ≡ 0 → Charstring ≡ kind_of kind
kind_charstring kind e = rw (eq-eqb kind 0 e)

pub kind_global : (kind : ℕ) → kind ≡ 1 → Global ≡ kind_of kind
kind_global kind e = rw e

pub kind-text : (kind : ℕ) → (kind ≡ 0 → ⊥) → (kind ≡ 1 → ⊥) → Text ≡ kind_of kind
kind-text kind f g = rw (ne_eqb kind 0 f, ne_eqb kind 1 g)
