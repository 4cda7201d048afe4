-- `short_charstrings::first_from` meets its contract.
use Rattle.std.proofs.Common.{List, ℕ, ap, arith, length, length-take-le, sym, ◌∙◌, ◌≡◌, ◌≤◌}
use Rattle.octets.specs.PutLaws.{wrote-length}
use Rattle.short_charstrings.specs.Short.{is_short}
use Rattle.short_charstrings.specs.Next.{candidate, found_place}
use Rattle.short_charstrings.specs.CodeLaws.{candidate-least, taken, first-behind, first-here, first_on}
use Rattle.short_charstrings.proofs.first_from.Goals as goal
use Rattle.short_charstrings.proofs.first_from.Goals.{After-is_short, After-put_candidate-n}

-- there is room for four bytes, and what is written has at most so many
room : (k : ℕ) (code : List ℕ) → length code ≡ 4 → length (candidate k) ≤ length code
room k code e = let n = candidate-least k in omega arith

kept : (c : After-put_candidate-n) → length c.put_candidate-n.new.out ≡ 4
kept c = wrote-length c.put_candidate-n.ensures (omega (arith, room c.loop-at.at _ c.loop-at.invariant.0)) ∙ c.loop-at.invariant.0

within : (c : After-put_candidate-n) → c.put_candidate-n.result ≤ length c.put_candidate-n.new.out
within c = let n = candidate-least c.loop-at.at in omega (arith, n, kept c, c.put_candidate-n.ensures.behind)

-- whether the one of this turn is short
told : (c : After-is_short) → is_short (candidate c.loop-at.at) ≡ c.is_short.result
told c = ap is_short (sym (taken _ _ _ _ c.put_candidate-n.ensures)) ∙ sym c.is_short.ensures

pub put_candidate-n-requires : goal.put_candidate-n-requires
put_candidate-n-requires c = (c.loop-at-test.true, room c.loop-at.at _ c.loop-at.invariant.0)

pub slice_bounds-code-end : goal.slice_bounds-code-end
slice_bounds-code-end c = within (goal.at.slice_bounds-code-end c).After-put_candidate-n

pub slice_bounds-is_short-end : goal.slice_bounds-is_short-end
slice_bounds-is_short-end c = sym (length-take-le _ _ (within (goal.at.slice_bounds-is_short-end c).After-put_candidate-n))

pub returns-then-is_short : goal.returns-then-is_short
returns-then-is_short c = (ap found_place (first-here c.loop-at.at c.loop-at-test.true (told (goal.at.returns-then-is_short c).After-is_short ∙ c.if-is_short.true) ∙ c.loop-at.invariant.1), c.loop-at-test.true)

pub loop-at-preserved : goal.loop-at-preserved
loop-at-preserved c = (kept (goal.at.loop-at-preserved c).After-put_candidate-n, first_on c.loop-at.at c.loop-at-test.true (told (goal.at.loop-at-preserved c).After-is_short ∙ c.if-is_short.false) ∙ c.loop-at.invariant.1)

pub returns : goal.returns
returns c = (ap found_place (first-behind c.loop-at.at c.loop-at-test.false ∙ c.loop-at.invariant.1), tt)
