-- `charset::read_charset` meets its contract: each return is a case of `charset_at` by the format; format 0 is a test of the length.
use Rattle.std.proofs.Common.{sym, ◌∙◌}
use Rattle.charset.specs.Charset.{charset_at}
use Rattle.charset.specs.CharsetLaws.{read_lost, read_unknown, read-ranges, read-each_lost, read-each, table_is}
use Rattle.charset.proofs.read_charset.Goals as goal

pub returns-then-len-at : goal.returns-then-len-at
returns-then-len-at c = read_lost _ _ _ _ c.if-len-at.true

pub returns-then-format-gt2 : goal.returns-then-format-gt2
returns-then-format-gt2 c =
    read_unknown _ _ _ _ c.if-len-at.false _ c.u8_at-format.ensures.0 c.if-format-gt2.true

pub returns-then-len-ranges : goal.returns-then-len-ranges
returns-then-len-ranges c =
    let a = c.args in
    let e = sym c.if-format-eq0.true ∙ c.u8_at-format.ensures.0 in
    read-each_lost a.font.now a.at a.n _ c.if-len-at.false c.requires.0 e c.if-len-ranges.true

pub returns-then-format-eq0 : goal.returns-then-format-eq0
returns-then-format-eq0 c =
    let a = c.args in
    let b = a.font.now in
    let e = sym c.if-format-eq0.true ∙ c.u8_at-format.ensures.0 in
    read-each b a.at a.n _ c.if-len-at.false c.requires.0 e c.if-len-ranges.false
    ∙ table_is b a.at _ c.u8_at-format.ensures.0 (charset_at b a.at a.n)

pub returns : goal.returns
returns c =
    let a = c.args in
    let b = a.font.now in
    c.check_ranges.ensures
    ∙ read-ranges b a.at a.n _ c.if-len-at.false _ c.u8_at-format.ensures.0 c.if-format-gt2.false c.requires.0
    ∙ table_is b a.at _ c.u8_at-format.ensures.0 (charset_at b a.at a.n)
