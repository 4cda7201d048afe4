-- `capi::lookup` meets its contract: a kind below 3 is looked up, another has no items.
use Rattle.std.proofs.Common.{sym, ◌∙◌, ◌≡◌, Result}
use Rattle.refusal.specs.HandedOn.{handed_on}
use Rattle.refusal.specs.declared.Refusal.{Refusal}
use Rattle.cff.specs.Font.{read_font}
use Rattle.capi.specs.Capi.{lookup_refusal}
use Rattle.capi.specs.CapiLaws.{lookup-of-kind, lookup_refused, lookup-none}
use Rattle.capi.proofs.lookup.Goals as goal

pub returns-then-kind-lt3 : goal.returns-then-kind-lt3
returns-then-kind-lt3 c = lookup-of-kind _ _ _ _ c.if-kind-lt3.true c.kind_of.ensures _ c.item_refusal.ensures

pub returns-in_err-read : goal.returns-in_err-read
returns-in_err-read c =
    handed_on _ _ (λ (r : Result Unit Refusal). r ≡ lookup_refusal (read_font c.args.font.now) c.args.kind c.args.number) c.from_residual.ensures.1
    (lookup_refused _ _ _ c.if-kind-lt3.false _ (sym c.read.ensures ∙ c.in_err-read.was))

pub returns : goal.returns
returns c = lookup-none _ _ _ c.if-kind-lt3.false _ (sym c.read.ensures ∙ c.in_ok-read.was)
