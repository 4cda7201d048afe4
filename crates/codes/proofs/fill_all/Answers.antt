-- `codes::fill_all` meets its contract: an encoding that passed its checks lies within the font; the codes or ranges are stored, and then the supplements.
use Rattle.std.proofs.Common.{arith, length, refl, ◌%◌, ◌*◌, ◌+◌, ◌≤◌}
use Rattle.index.specs.IndexLaws.{items-length}
use Rattle.cff.specs.Loaded.{program}
use Rattle.charset.specs.CodesFound.{GoodEncoding}
use Rattle.codes.specs.FillLaws.{coded-good, fill_plain, fill_supplied, encoding-within, count-within, supplied-within}
use Rattle.codes.proofs.fill_all.Goals as goal
use Rattle.codes.proofs.fill_all.Goals.{After-u8_at-count, Start}

-- the checks of its encoding were passed
good : (s : Start) → GoodEncoding s.args.font.now.bytes.now s.args.font.now.f.encoding
good s = coded-good _ s.args.font.now.f s.args.font.now.good s.requires.1

-- where its codes or ranges end
within : (c : After-u8_at-count) → (c.u8_at-format.result % 128 ≤ 1)
    × (c.args.font.now.f.encoding + 2 + c.u8_at-count.result * (c.u8_at-format.result % 128 + 1) ≤ length c.args.font.now.bytes.now)
within c = encoding-within _ _ _ _ (good c.before.before.before.before.before.before) c.u8_at-format.ensures.0 c.u8_at-count.ensures.0

pub u8_at-format-requires : goal.u8_at-format-requires
u8_at-format-requires c = omega (arith, (good (goal.at.u8_at-format-requires c).Start).begun)

pub overflow_add-at : goal.overflow_add-at
overflow_add-at c = omega (arith, (good (goal.at.overflow_add-at c).Start).begun, c.requires.0)

pub u8_at-count-requires : goal.u8_at-count-requires
u8_at-count-requires c = omega (arith, (good (goal.at.u8_at-count-requires c).Start).begun)

pub overflow_add-behind : goal.overflow_add-behind
overflow_add-behind c = omega (arith, (good (goal.at.overflow_add-behind c).Start).begun, c.requires.0)

pub overflow_mul-behind : goal.overflow_mul-behind
overflow_mul-behind c = omega (arith, (within c).1, c.requires.0)

pub overflow_add-behind-3 : goal.overflow_add-behind-3
overflow_add-behind-3 c = omega (arith, (within c).1, c.requires.0)

pub overflow_add-at-2 : goal.overflow_add-at-2
overflow_add-at-2 c = omega (arith, (good (goal.at.overflow_add-at-2 c).Start).begun, c.requires.0)

pub fill_first-requires : goal.fill_first-requires
fill_first-requires c = ((within (goal.at.fill_first-requires c).After-u8_at-count).0, (within (goal.at.fill_first-requires c).After-u8_at-count).1, c.u8_at-count.ensures.1)

pub returns-then-format-eq0 : goal.returns-then-format-eq0
returns-then-format-eq0 c =
    fill_plain (program c.args.font.now) _ _ _ _ _ (items-length c.args.font.now.bytes.now c.args.font.now.f.charstrings)
    c.u8_at-format.ensures.0 c.u8_at-count.ensures.0 _ _ c.fill_first.ensures c.if-format-eq0.true

pub overflow_add-behind-4 : goal.overflow_add-behind-4
overflow_add-behind-4 c = omega (arith, (within (goal.at.overflow_add-behind-4 c).After-u8_at-count).1, c.requires.0)

pub u8_at-requires : goal.u8_at-requires
u8_at-requires c = count-within _ _ _ _ (good (goal.at.u8_at-requires c).Start) c.u8_at-format.ensures.0 c.u8_at-count.ensures.0 c.if-format-eq0.false

pub fill_supplements-requires : goal.fill_supplements-requires
fill_supplements-requires c =
    supplied-within _ _ _ _ (good (goal.at.fill_supplements-requires c).Start) c.u8_at-format.ensures.0 c.u8_at-count.ensures.0 c.if-format-eq0.false _ c.u8_at.ensures.0

pub returns : goal.returns
returns c =
    fill_supplied (program c.args.font.now) _ _ _ _ _ (items-length c.args.font.now.bytes.now c.args.font.now.f.charstrings)
    c.u8_at-format.ensures.0 c.u8_at-count.ensures.0 _ _ c.fill_first.ensures c.if-format-eq0.false _ _ refl c.u8_at.ensures.0 _ c.fill_supplements.ensures
