-- `first_glyphs::put_leads` meets its contract.
use Rattle.std.proofs.Common.{refl, sym, ◌∙◌}
use Rattle.index.specs.Items.{items}
use Rattle.first_glyphs.specs.LeadLaws.{lead-same, lead-new, lead_done}
use Rattle.first_glyphs.proofs.put_leads.Goals as goal
use Rattle.first_glyphs.proofs.put_leads.Goals.{then-not-same_name, else-not-same_name}

pub loop-id-preserved : goal.loop-id-preserved
loop-id-preserved c =
    let l = c.loop-id in
    let a = c.args in
    let h = c.loop-id-test.true in
    elim c.if-not-same_name.branch [
      | then-not-same_name w ↦
          rw w.lead-is (lead-new (items a.strings.now) a.ids.now l.leads l.lead l.id-index _ h refl (sym c.same_name.ensures ∙ w.if-not-same_name.true) ∙ l.invariant)
      | else-not-same_name w ↦
          rw w.lead-is (lead-same (items a.strings.now) a.ids.now l.leads l.lead l.id-index _ h refl (sym c.same_name.ensures ∙ w.if-not-same_name.false) ∙ l.invariant)
    ]

pub returns : goal.returns
returns c =
    let a = c.args in (
      lead_done (items a.strings.now) a.ids.now c.loop-id.leads c.loop-id.lead c.loop-id.id-index c.loop-id-test.false ∙ c.loop-id.invariant,
      λ i. (c.type_inv.ids i).fits,
    )
