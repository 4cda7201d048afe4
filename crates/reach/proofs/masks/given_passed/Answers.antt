-- `reach::masks::given_passed` meets its contract.
use Rattle.std.proofs.Common.{ap, arith, sym, ◌∙◌}
use Rattle.charstring.specs.declared.MaskLen.TheVariants.{Given}
use Rattle.unfold.specs.Unfold.{Row}
use Rattle.reach.specs.Reach.{key_of_lem}
use Rattle.reach.specs.Masks.{len_at}
use Rattle.reach.specs.RowLaws.{rest_all}
use Rattle.reach.specs.MaskLaws.{given-here, given-on, given_end}
use Rattle.reach.proofs.masks.given_passed.Goals as goal

pub loop-i-init : goal.loop-i-init
loop-i-init c = ap (len_at _) (rest_all _)

pub returns-then-key_of-key : goal.returns-then-key_of-key
returns-then-key_of-key c =
    let l = c.loop-i in
    let b = c.args.rows.now in
    let e = sym (ap key_of_lem c.row_at-r.ensures) ∙ sym c.key_of.ensures ∙ c.if-key_of-key.true in
    ap (λ (q : Row). Given q.len) c.row_at-r.ensures ∙ given-here b l.i (omega arith) _ e ∙ l.invariant

pub loop-i-preserved : goal.loop-i-preserved
loop-i-preserved c =
    let l = c.loop-i in
    let b = c.args.rows.now in
    let e = c.key_of.ensures ∙ ap key_of_lem c.row_at-r.ensures in
    given-on b l.i (omega arith) _ (λ z. c.if-key_of-key.false (e ∙ z)) ∙ l.invariant

pub returns : goal.returns
returns c =
    let l = c.loop-i in
    given_end c.args.rows.now l.i (omega arith) c.args.key ∙ l.invariant
