-- `turns::clearing_turn` meets its contract: the tests of the definition, in its order.
use Rattle.std.proofs.Common.{eq-eqb, le-ltb, lt-ltb, ne_eqb, sym, ◌∙◌}
use Rattle.turns.specs.Turns.{clearing_turn_lem}
use Rattle.turns.proofs.clearing_turn.Goals as goal

pub returns-then-b-eq12 : goal.returns-then-b-eq12
unfolding clearing_turn_lem
returns-then-b-eq12 c = rw (eq-eqb _ _ c.if-b-eq12.true) c.escape_turn.ensures

pub returns-then-is_mask : goal.returns-then-is_mask
unfolding clearing_turn_lem
returns-then-is_mask c = rw (ne_eqb _ _ c.if-b-eq12.false, sym c.is_mask.ensures ∙ c.if-is_mask.true) c.mask_turn.ensures

pub returns-then-n-gt96 : goal.returns-then-n-gt96
unfolding clearing_turn_lem
returns-then-n-gt96 c = rw (ne_eqb _ _ c.if-b-eq12.false, sym c.is_mask.ensures ∙ c.if-is_mask.false, sym c.is_stem.ensures ∙ c.if-is_stem.true, lt-ltb _ _ c.if-n-gt96.true)

pub returns-then-is_stem : goal.returns-then-is_stem
unfolding clearing_turn_lem
returns-then-is_stem c = rw (ne_eqb _ _ c.if-b-eq12.false, sym c.is_mask.ensures ∙ c.if-is_mask.false, sym c.is_stem.ensures ∙ c.if-is_stem.true, le-ltb _ _ c.if-n-gt96.false) c.goes_on.ensures

pub returns-then-is_path : goal.returns-then-is_path
unfolding clearing_turn_lem
returns-then-is_path c = rw (ne_eqb _ _ c.if-b-eq12.false, sym c.is_mask.ensures ∙ c.if-is_mask.false, sym c.is_stem.ensures ∙ c.if-is_stem.false, sym c.is_path.ensures ∙ c.if-is_path.true) c.goes_on-then-is_path.ensures

pub returns : goal.returns
unfolding clearing_turn_lem
returns c = rw (ne_eqb _ _ c.if-b-eq12.false, sym c.is_mask.ensures ∙ c.if-is_mask.false, sym c.is_stem.ensures ∙ c.if-is_stem.false, sym c.is_path.ensures ∙ c.if-is_path.false)
