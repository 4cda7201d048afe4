-- `reach::masks::two_found` meets its contract.
use Rattle.std.proofs.Common.{ap, arith, refl, sym, ◌+◌, ◌∙◌, ◌≡◌}
use Rattle.reach.specs.Reach.{row_in, row_no, key_of_lem}
use Rattle.reach.specs.Masks.{body_of_lem, clashes}
use Rattle.reach.specs.TwoLaws.{clash_rows, neighbours_start, neighbours_off, neighbours_clash, neighbours_on, neighbours_done}
use Rattle.reach.proofs.masks.two_found.Goals as goal
use Rattle.reach.proofs.masks.two_found.Goals.{After-clashes, Else-body_of-body}

-- the row of a turn is of the body
own : (c : Else-body_of-body)
    → body_of_lem (row_no c.args.rows.now.bytes.now c.loop-i.i)
    ≡ c.args.body
own c = sym (c.body_of.ensures ∙ ap body_of_lem c.row_at-r.ensures) ∙ c.if-body_of-body.false

-- whether it and the next one clash
told : (c : After-clashes) → let b = c.args.rows.now.bytes.now in
    clashes (key_of_lem (row_no b c.loop-i.i)) (row_no b c.loop-i.i).len (row_no b (c.loop-i.i + 1)) ≡ c.clashes.result
told c =
    clash_rows c.args.rows.now.bytes.now c.loop-i.i (row_in c.row_at-r.result) (row_in c.row_at.result) c.row_at-r.ensures c.row_at.ensures _ c.key_of.ensures _ c.clashes.ensures

pub loop-i-init : goal.loop-i-init
loop-i-init c = neighbours_start _ _ _ _ refl c.first_at-i.ensures

pub returns-then-body_of-body : goal.returns-then-body_of-body
returns-then-body_of-body c =
    let e = c.body_of.ensures ∙ ap body_of_lem c.row_at-r.ensures in
    neighbours_off _ c.args.rows.now.octets c.args.rows.now.order _ _ c.loop-i.invariant (omega arith) (λ z. c.if-body_of-body.true (e ∙ z))

pub returns-then-clashes : goal.returns-then-clashes
returns-then-clashes c =
    neighbours_clash _ c.args.rows.now.octets c.args.rows.now.order _ _ c.loop-i.invariant (omega arith) (own (goal.at.returns-then-clashes c).Else-body_of-body) (told (goal.at.returns-then-clashes c).After-clashes ∙ c.if-clashes.true)

pub loop-i-preserved : goal.loop-i-preserved
loop-i-preserved c =
    neighbours_on _ c.args.rows.now.octets c.args.rows.now.order _ _ c.loop-i.invariant (omega arith) (own (goal.at.loop-i-preserved c).Else-body_of-body) (told (goal.at.loop-i-preserved c).After-clashes ∙ c.if-clashes.false)

pub returns : goal.returns
returns c =
    neighbours_done _ c.args.rows.now.octets c.args.rows.now.order _ _ c.loop-i.invariant (omega arith)
