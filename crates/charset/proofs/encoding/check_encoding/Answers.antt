-- `charset::encoding::check_encoding` meets its contract: each test is one of `encoding_at`, in its order.
use Rattle.std.proofs.Common.{arith, drop, ℕ, ◌%◌, ◌*◌, ◌+◌, ◌∙◌, ◌≡◌, ◌≤◌, Ok}
use Rattle.charset.specs.Encoding.{entries, supplements, encoding_at}
use Rattle.charset.specs.EncodingLaws.{no_count, entries_lost, entries-behind, encoding_lost, encoding_unknown, encoding-codes, no_supplements, some-supplements, codes-small}
use Rattle.charset.proofs.encoding.check_encoding.Goals as goal
use Rattle.charset.proofs.encoding.check_encoding.Lts.View as view
use Rattle.charset.proofs.encoding.check_encoding.Goals.{After-u8_at, Else-format-eq0, Else-kind-gt1, Else-len-sups}

-- where the supplements start
abbrev P : Else-len-sups → ℕ
P c = c.args.at + 1 + 1 + c.u8_at.result * (c.u8_at-format.result % 128 + 1)

-- from the codes on, from the supplements on, and with supplements
codes : (c : Else-kind-gt1) → entries (c.u8_at-format.result % 128 + 1) (drop (c.args.at + 1) c.args.font.now) (supplements c.u8_at-format.result) ≡ encoding_at c.args.font.now c.args.at
codes c = encoding-codes _ _ _ c.if-len-at.false c.u8_at-format.ensures.0 c.if-kind-gt1.false

behind : (c : Else-len-sups)
    → (supplements c.u8_at-format.result (drop (P c) c.args.font.now) ≡ encoding_at c.args.font.now c.args.at)
behind c =
    entries-behind _ _ _ _ (supplements c.u8_at-format.result) c.if-len-codes.false c.u8_at.ensures.0 c.if-len-sups.false ∙ codes (view.up-Else-kind-gt1 _ _ _ c.before.before.before.before)

sups : (c : Else-format-eq0)
    → (entries 3 (drop (P (view.up-Else-len-sups _ _ _ c.before.before)) c.args.font.now) (λ end. Ok tt) ≡ encoding_at c.args.font.now c.args.at)
sups c = some-supplements _ (drop (P (view.up-Else-len-sups _ _ _ c.before.before)) c.args.font.now) c.if-format-eq0.false ∙ behind (view.up-Else-len-sups _ _ _ c.before.before)

small : (c : After-u8_at) → c.u8_at.result * (c.u8_at-format.result % 128 + 1) ≤ 512
small c = codes-small _ _ c.u8_at.ensures.1 c.if-kind-gt1.false

pub returns-then-len-at : goal.returns-then-len-at
returns-then-len-at c = encoding_lost _ _ c.if-len-at.true

pub returns-then-kind-gt1 : goal.returns-then-kind-gt1
returns-then-kind-gt1 c = encoding_unknown _ _ _ c.if-len-at.false c.u8_at-format.ensures.0 c.if-kind-gt1.true

pub returns-then-len-codes : goal.returns-then-len-codes
returns-then-len-codes c = no_count _ _ _ _ c.if-len-codes.true ∙ codes (goal.at.returns-then-len-codes c).Else-kind-gt1

pub overflow_mul-sups : goal.overflow_mul-sups
overflow_mul-sups c = omega (arith, small c)

pub overflow_add-sups-3 : goal.overflow_add-sups-3
overflow_add-sups-3 c = omega (arith, small c)

pub returns-then-len-sups : goal.returns-then-len-sups
returns-then-len-sups c = entries_lost _ _ _ _ _ c.if-len-codes.false c.u8_at.ensures.0 c.if-len-sups.true ∙ codes (goal.at.returns-then-len-sups c).Else-kind-gt1

pub returns-then-format-eq0 : goal.returns-then-format-eq0
returns-then-format-eq0 c = no_supplements _ (drop (P (goal.at.returns-then-format-eq0 c).Else-len-sups) c.args.font.now) c.if-format-eq0.true ∙ behind (goal.at.returns-then-format-eq0 c).Else-len-sups

pub returns-then-len-sups-2 : goal.returns-then-len-sups-2
returns-then-len-sups-2 c = no_count _ _ _ _ c.if-len-sups-2.true ∙ sups (goal.at.returns-then-len-sups-2 c).Else-format-eq0

pub returns-then-len-sups-3 : goal.returns-then-len-sups-3
returns-then-len-sups-3 c = entries_lost _ _ _ _ _ c.if-len-sups-2.false c.u8_at-2.ensures.0 c.if-len-sups-3.true ∙ sups (goal.at.returns-then-len-sups-3 c).Else-format-eq0

pub returns : goal.returns
returns c = entries-behind _ _ _ _ (λ end. Ok tt) c.if-len-sups-2.false c.u8_at-2.ensures.0 c.if-len-sups-3.false ∙ sups (goal.at.returns c).Else-format-eq0
