-- `encode_asked` meets its contract: by the offset of the font's encoding; the table of glyphs begins empty.
use Rattle.std.proofs.Common.{arith, refl}
use Rattle.order_window.specs.Stays.{stays-refl}
use Rattle.encoding.specs.EncodedLaws.{encodes-standard, encodes-expert, encodes-pairs}
use Rattle.encoding.proofs.encode_asked.Goals as goal

pub returns-then-at-eq0 : goal.returns-then-at-eq0
returns-then-at-eq0 c = (encodes-standard _ c.args.kept.now.o.f.encoding _ _ _ _ c.if-at-eq0.true, stays-refl _, c.told-table, λ l. l)

pub returns-then-at-eq1 : goal.returns-then-at-eq1
returns-then-at-eq1 c = (encodes-expert _ c.args.kept.now.o.f.encoding _ _ _ _ c.if-at-eq1.true, stays-refl _, c.told-table, λ l. l)

pub returns : goal.returns
returns c = (
  encodes-pairs _ c.args.kept.now.o.f _ _ (omega (arith, c.if-at-eq0.false, c.if-at-eq1.false)) _ _ _ refl c.fill.ensures c.rename.ensures.0 _ c.pair_count.ensures,
  c.rename.ensures.1,
  omega (arith, c.told-table),
  λ l. c.rename.ensures.2,
)
