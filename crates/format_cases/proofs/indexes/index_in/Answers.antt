-- `indexes::index_in` meets its contract: each way out is a case of `index_found`.
use Rattle.std.proofs.Common.{List, Some, [], ap, sym, ℕ, ◌++◌, ◌∙◌, ◌∷◌}
use Rattle.index.proofs.FoundLaws.{found-good}
use Rattle.format_cases.specs.Indexes.{items_bytes}
use Rattle.format_cases.specs.IndexesLaws.{found_refused, found_many, found-index}
use Rattle.format_cases.proofs.indexes.index_in.Goals as goal

pub returns-then-ix-gt600 : goal.returns-then-ix-gt600
returns-then-ix-gt600 c = sym (found_many c.args.font.now _ _ c.read_index.ensures _ c.in-Ok.is c.if-ix-gt600.true)

pub invariant_of-items : goal.invariant_of-items
invariant_of-items c = record { good = found-good c.args.font.now c.args.at _ (sym c.read_index.ensures ∙ c.in-Ok.is) }

pub returns-in-Err : goal.returns-in-Err
returns-in-Err c = ap Some (c.one.ensures ∙ ap (λ (n : ℕ). n ∷ []) c.number.ensures) ∙ sym (found_refused c.args.font.now _ _ c.read_index.ensures _ c.in-Err.is)

pub returns-else-ix-gt600 : goal.returns-else-ix-gt600
returns-else-ix-gt600 c =
    ap Some (c.put_items.ensures ∙ ap (λ (l : List ℕ). l ++ items_bytes c.args.font.now c.in-Ok.ix 0 c.in-Ok.ix.count) c.of_head-answer.ensures.0)
    ∙ sym (found-index c.args.font.now _ _ c.read_index.ensures _ c.in-Ok.is c.if-ix-gt600.false)
