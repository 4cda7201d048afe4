-- Laws of where an item stands, by the number of its kind.
use Rattle.std.specs.Prelude.{ℕ, ◌≤◌, ◌<◌, ◌≡◌, refl, List, Result}
use Rattle.std.proofs.Common.{sym, ◌∙◌, subst}
use Rattle.refusal.specs.declared.Refusal.{Refusal}
use Rattle.cff.specs.Font.{read_font}
use Rattle.cff.specs.Find.{item_refusal_lem, item_of}
use Rattle.cff.specs.declared.ItemKind.{ItemKind}
use Rattle.cff_entries.specs.Kinds.{kind_of}
use Rattle.glyph_entries.specs.Place.{Shows}
use Rattle.glyph_entries.specs.PlaceLaws.{shows_refused}
use Rattle.capi.specs.Capi.{no_kind_lem, lookup_refusal}
use Rattle.capi.specs.CapiLaws.{lookup-of-kind, no_kind}

module _ (file : List ℕ) (kind number : ℕ) (answer : List ℕ) where
  -- of a kind below 3
  pub shows-kind : (k : ItemKind) → kind < 3 → k ≡ kind_of kind → (answer' : List ℕ) (r : Result Unit Refusal)
      → Shows file (item_refusal_lem (read_font file) k number) (item_of (read_font file) k number) answer answer' r
      → Shows file (lookup_refusal (read_font file) kind number) (item_of (read_font file) (kind_of kind) number) answer answer' r
  shows-kind k h e answer' r s =
      subst (λ (x : ItemKind). Shows file (lookup_refusal (read_font file) kind number) (item_of (read_font file) x number) answer answer' r) e
      (subst (λ (x : Result Unit Refusal). Shows file x (item_of (read_font file) k number) answer answer' r)
      (lookup-of-kind (read_font file) kind number k h e (item_refusal_lem (read_font file) k number) refl) s)

  -- of another
  pub shows-other : 3 ≤ kind → (r : Result Unit Refusal) → r ≡ lookup_refusal (read_font file) kind number
      → Shows file (lookup_refusal (read_font file) kind number) (item_of (read_font file) (kind_of kind) number) answer answer r
  shows-other h r e =
      let o = no_kind (read_font file) kind number h in
      subst (λ (x : Result Unit Refusal). Shows file (lookup_refusal (read_font file) kind number) (item_of (read_font file) (kind_of kind) number) answer answer x)
      (o ∙ sym e) (shows_refused file (item_of (read_font file) (kind_of kind) number) answer (lookup_refusal (read_font file) kind number) (no_kind_lem (read_font file)) o)
