-- `names::names_in` meets its contract: by the tests, in the order of the definition.
use Rattle.std.proofs.Common.{false, length, ltb, sym, ◌∙◌, ◌≡◌}
use borrow.Author.Tests.{not-true, not-false}
use Rattle.octets.specs.Lists.{sum_of}
use Rattle.find_many.specs.ManyLaws.{names_long, names-full, names-put}
use Rattle.find_many.proofs.names.names_in.Goals as goal
use Rattle.find_many.proofs.names.names_in.Goals.{Then-fit}

fits : (t : Then-fit) → ltb (length t.args.names.now) (sum_of t.args.lens.now) ≡ false
fits t = not-true _ (sym t.fit.ensures ∙ t.if-fit.true)

pub returns-then-glyphs-lens : goal.returns-then-glyphs-lens
returns-then-glyphs-lens c = let a = c.args in names-full a.font.now.bytes.now a.font.now.f a.names.now a.lens.now _ (fits (goal.at.returns-then-glyphs-lens c).Then-fit) c.if-glyphs-lens.true

pub returns-then-fit : goal.returns-then-fit
returns-then-fit c =
    let a = c.args in
    names-put a.font.now.bytes.now a.font.now.f a.names.now a.lens.now a.glyphs.now (fits (goal.at.returns-then-fit c).Then-fit) c.if-glyphs-lens.false _ c.put_names.ensures

pub returns : goal.returns
returns c =
    let a = c.args in
    names_long a.font.now.bytes.now a.font.now.f a.names.now a.lens.now _ (not-false _ (sym c.fit.ensures ∙ c.if-fit.false))
