-- Laws of the plan: the way by what was measured; where nothing is renumbered, no part fails.
use Rattle.std.specs.Prelude.{ℕ, ◌≡◌, refl, Bool, true, false, eqb, List, [], ◌∷◌, Option, None, Some, unwrap_or}
use Rattle.std.proofs.Common.{sym, ap, ◌∙◌, subst, eq-eqb, ne_eqb}
use Rattle.octets.specs.Pick.{pick}
use Rattle.unfold.specs.Unfold.{Row}
use Rattle.prune.specs.StepLaws.{zero_one}
use Rattle.cff.specs.Font.{Program}
use Rattle.renumber.specs.declared.Ranks.{Ranks}
use Rattle.bodies.specs.Ways.{holds}
use Rattle.glyph_bodies.specs.Charstrings.{charstring_of}
use Rattle.bodies.specs.Pruning.{all_hold}
use Rattle.bodies.specs.WaysLaws.{holds-each}
use Rattle.fds.specs.Locals.{fds_in}
use Rattle.fds.specs.NewLocals.{locals_by}
use Rattle.plan.specs.Sizes.{first_way, way_by, glyphs_by, all_made, Totaled, MeasuresAll, Plans}
use Rattle.plan.specs.declared.sizes.Totals.{Totals}
use Rattle.plan.specs.declared.Plan.{Plan}
use Rattle.subset.specs.declared.Way.{Way}
use Rattle.subset.specs.declared.Way.TheVariants.{Renumbered, Stubbed, Copied}

-- all of a list hold where each does
hold_all : {A : Type 0} (f : ℕ → Option A) → ((x : ℕ) → holds (f x) ≡ true) → (fs : List ℕ) → all_hold f fs ≡ true
unfolding all_hold
hold_all f h [] = refl
hold_all f h (x ∷ fs) = ap (λ (t : Bool). pick t (all_hold f fs) false) (h x) ∙ hold_all f h fs

abbrev planned : Way → ℕ → ℕ → Plan
planned w g c = record { way = w; globals_total = g; glyphs_total = c }

-- the way that is tried first, by the tests of the code
module _ (traced : ℕ) (all : Bool) where
  pub first-copied : traced ≡ 0 → Copied ≡ first_way traced all
  first-copied e = sym (ap (λ (t : Bool). pick t Copied (pick all Renumbered Stubbed)) (eq-eqb traced 0 e))

  pub first-renumbered : (traced ≡ 0 → ⊥) → all ≡ true → Renumbered ≡ first_way traced all
  first-renumbered n a = sym (ap (λ (t : Bool). pick t Copied (pick all Renumbered Stubbed)) (ne_eqb traced 0 n) ∙ ap (λ (t : Bool). pick t Renumbered Stubbed) a)

  pub first-stubbed : (traced ≡ 0 → ⊥) → all ≡ false → Stubbed ≡ first_way traced all
  first-stubbed n a = sym (ap (λ (t : Bool). pick t Copied (pick all Renumbered Stubbed)) (ne_eqb traced 0 n) ∙ ap (λ (t : Bool). pick t Renumbered Stubbed) a)

module _ (p : Program) (rows : List Row) (ws used : List ℕ) (table : List Ranks) (globals : Ranks) (order : List ℕ) where
  abbrev Sized : Way → List ℕ → Option Totals → Type 0
  Sized way totals m = MeasuresAll way p rows ws used table globals order totals m

  -- the other ways hold
  stubs_made : all_made Stubbed p rows ws used table globals order ≡ true
  stubs_made =
      ap (λ (t : Bool). pick t (holds (glyphs_by Stubbed p rows ws used table globals order)) false)
      (hold_all (locals_by Stubbed p rows ws table globals) (λ f. refl) (fds_in used))
      ∙ holds-each (charstring_of Stubbed rows p.fds ws table globals p.charstrings) order
      ∙ hold_all (charstring_of Stubbed rows p.fds ws table globals p.charstrings) (λ g. refl) order

  copies-made : all_made Copied p rows ws used table globals order ≡ true
  copies-made =
      ap (λ (t : Bool). pick t (holds (glyphs_by Copied p rows ws used table globals order)) false)
      (hold_all (locals_by Copied p rows ws table globals) (λ f. refl) (fds_in used))
      ∙ holds-each (charstring_of Copied rows p.fds ws table globals p.charstrings) order
      ∙ hold_all (charstring_of Copied rows p.fds ws table globals p.charstrings) (λ g. refl) order

  -- stubs are measured, whatever stands for a failure
  stubs_measured : (totals : List ℕ) (m : Option Totals) → Sized Stubbed totals m → (d : Totals) → Totaled Stubbed p rows ws used table globals order totals (unwrap_or m d)
  stubs_measured totals None s d = absurd (zero_one (let y : ◌≡◌ {A = Bool} false true = s.told ∙ stubs_made in cc))
  stubs_measured totals (Some t) s d = s.sums t refl

  abbrev made : Way → Bool
  made way = all_made way p rows ws used table globals order

  -- the way that is tried first, or stubbed where a part fails by it
  first_or_stubbed : (t u : Bool) → pick (made (pick t Copied (pick u Renumbered Stubbed))) (pick t Copied (pick u Renumbered Stubbed)) Stubbed ≡ pick t Copied (pick u (pick (made Renumbered) Renumbered Stubbed) Stubbed)
  first_or_stubbed true u = ap (λ (b : Bool). pick b Copied Stubbed) copies-made
  first_or_stubbed false true = refl
  first_or_stubbed false false = ap (λ (b : Bool). pick b Stubbed Stubbed) stubs_made

  -- the way that is found by the one that is tried first
  pub way-found : (traced : ℕ) (all : Bool) (way : Way) → way ≡ first_way traced all → pick (made way) way Stubbed ≡ way_by traced all (made Renumbered)
  way-found traced all way first = ap (λ (w : Way). pick (made w) w Stubbed) first ∙ first_or_stubbed (eqb traced 0) all

  -- what the code returns
  module _ (way : Way) where
    abbrev Whole : List ℕ → Plan → Type 0
    Whole totals r = Plans p rows ws used table globals order way totals r

    -- no part fails by the way that was tried first
    pub returns_first : (totals : List ℕ) (m : Option Totals) → Sized way totals m → (t : Totals) → m ≡ Some t
        → (r : Plan) → r ≡ planned way t.globals t.glyphs → Whole totals r
    returns_first totals m s t e r is =
        subst (Whole totals) (sym is)
        (record {
          is = sym (ap (λ (b : Bool). pick b way Stubbed) (sym s.told ∙ ap holds e));
          sizes = s.sums t e;
        })

    -- a part fails by it
    pub returns_stubbed : (mid : List ℕ) (f : Option Totals) → Sized way mid f → f ≡ None → (totals : List ℕ) (m : Option Totals) → Sized Stubbed totals m
        → (d t : Totals) → t ≡ unwrap_or m d → (r : Plan) → r ≡ planned Stubbed t.globals t.glyphs → Whole totals r
    returns_stubbed mid f z e totals m s d t u r is =
        subst (Whole totals) (sym is)
        (record {
          is = sym (ap (λ (b : Bool). pick b way Stubbed) (sym z.told ∙ ap holds e));
          sizes = subst (Totaled Stubbed p rows ws used table globals order totals) (sym u) (stubs_measured totals m s d);
        })
