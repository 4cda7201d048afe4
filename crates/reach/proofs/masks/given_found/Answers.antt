-- `reach::masks::given_found` meets its contract: only the first row whose key is not below can have the key.
use Rattle.std.proofs.Common.{ap, sym, ◌∙◌}
use Rattle.charstring.specs.declared.MaskLen.TheVariants.{Given}
use Rattle.unfold.specs.Unfold.{Row}
use Rattle.reach.specs.Reach.{key_of_lem}
use Rattle.reach.specs.SearchLaws.{found_here, found_other, found_end}
use Rattle.reach.proofs.masks.given_found.Goals as goal

pub returns-then-key_of-key : goal.returns-then-key_of-key
returns-then-key_of-key c =
    let e = sym (ap key_of_lem c.row_at-r.ensures) ∙ sym c.key_of.ensures ∙ c.if-key_of-key.true in
    ap (λ (q : Row). Given q.len) c.row_at-r.ensures ∙ found_here _ _ _ c.first_at-i.ensures c.if-i-rows.true e

pub returns-then-i-rows : goal.returns-then-i-rows
returns-then-i-rows c =
    let e = c.key_of.ensures ∙ ap key_of_lem c.row_at-r.ensures in
    found_other _ _ _ c.first_at-i.ensures c.args.rows.now.order c.if-i-rows.true (λ z. c.if-key_of-key.false (e ∙ z))

pub returns : goal.returns
returns c = found_end _ _ _ c.first_at-i.ensures c.if-i-rows.false
