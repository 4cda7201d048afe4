-- The invariant: the ids that are left give what all give.
use Rattle.std.proofs.Common.{drop, get_or, ◌≡◌}
use Rattle.index.specs.Items.{items}
use Rattle.first_glyphs.specs.Lead.{leading}
use Rattle.first_glyphs.proofs.put_leads.Given as goal

abbrev pub invariant-loop-id : goal.invariant-loop-id
invariant-loop-id l =
    leading (items l.strings) l.lead (drop l.id-index l.ids) l.leads ≡ leading (items l.strings) (get_or l.ids 0 0) l.ids l.initial.leads
