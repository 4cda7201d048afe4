-- `iter::Iter::new` meets its contract: the cursor begins before all glyphs.
use Rattle.std.proofs.Common.{ap, subst, sym, ◌∙◌}
use Rattle.charset.specs.CharsetFound.{good-small}
use Rattle.charset.specs.Ahead.{ids_ahead, Ahead}
use Rattle.charset.specs.AheadLaws.{ahead_all, ahead-start}
use Rattle.charset.proofs.iter.Iter.new.Goals as goal

pub invariant_of-result : goal.invariant_of-result
invariant_of-result c =
    let a = c.args in
    record { stands = subst (λ u. Ahead a.bytes.now u a.n) (sym c.charset_start.ensures) (ahead-start a.bytes.now a.charset a.n c.requires) }

pub returns-clause-all : goal.returns-clause-all
returns-clause-all c =
    let a = c.args in
    ap (λ u. ids_ahead a.bytes.now u a.n) c.charset_start.ensures ∙ ahead_all a.bytes.now a.charset a.n

pub returns-clause-small : goal.returns-clause-small
returns-clause-small c = let a = c.args in good-small a.bytes.now a.charset a.n (λ i. (c.type_inv.bytes i).fits) c.requires
