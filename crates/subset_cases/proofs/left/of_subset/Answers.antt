-- `left::of_subset` meets its contract: the way and the subset, where the output behind it is as it was lent.
use Rattle.std.proofs.Common.{Some, ap, arith, drop, length, length-take-le, refl, sym, ◌∙◌, ◌≡◌}
use Rattle.std.proofs.lemmas.List.{take_rest}
use Rattle.subset_cases.specs.Left.{bytes_left_lem}
use Rattle.subset_cases.specs.LeftLaws.{subset-past, subset-kept, subset-changed}
use Rattle.subset_cases.proofs.left.of_subset.Goals as goal
use Rattle.subset_cases.proofs.left.of_subset.Goals.{After-bytes_left}

pub returns-then-found-len : goal.returns-then-found-len
returns-then-found-len c = sym (subset-past _ _ _ c.if-found-len.true)

pub slice_bounds-copy-end : goal.slice_bounds-copy-end
slice_bounds-copy-end c = sym (length-take-le _ _ c.if-found-len.false)

pub copy-requires : goal.copy-requires
copy-requires c =
    let e = length-take-le c.before.args.len c.before.args.found.now c.if-found-len.false in
    let n = ap length c.one-answer.ensures in
    omega (arith, e, n, c.byte.ensures.1)

-- the bytes behind the subset
tested : (c : After-bytes_left) → bytes_left_lem (drop c.args.len c.args.found.now) ≡ c.bytes_left.result
tested c = ap bytes_left_lem (sym (take_rest c.args.found.now c.args.len)) ∙ sym c.bytes_left.ensures

pub returns-then-bytes_left : goal.returns-then-bytes_left
returns-then-bytes_left c = ap Some (rw (c.copy.ensures.0, c.byte.ensures.0, c.one-answer.ensures) refl) ∙ sym (subset-kept _ _ _ c.if-found-len.false (tested (goal.at.returns-then-bytes_left c).After-bytes_left ∙ c.if-bytes_left.true))

pub returns : goal.returns
returns c = sym (subset-changed _ _ _ c.if-found-len.false (tested (goal.at.returns c).After-bytes_left ∙ c.if-bytes_left.false))
