-- `glyphs::charset_in` meets its contract: each way out is a case of `listed_answer`.
use Rattle.std.proofs.Common.{Some, length, [], ap, refl, sym, ℕ, ◌∙◌, ◌∷◌}
use Rattle.charset.specs.Charset.{charset_at}
use Rattle.charset.specs.CharsetPlaces.{table_at}
use Rattle.charset.specs.CharsetFound.{refused_is, found-good, found-ids, good_length}
use Rattle.format_cases.specs.GlyphsLaws.{listed_refused, listed_many, listed_found}
use Rattle.format_cases.proofs.glyphs.charset_in.Goals as goal

pub returns-then-n-gt2000 : goal.returns-then-n-gt2000
returns-then-n-gt2000 c =
    let a = c.args in
    let f = sym c.read_charset.ensures ∙ c.in-Ok.is in
    sym (listed_many 2 _ _ (found-ids a.font.now a.at a.n _ c.requires.1 f) a.n (good_length _ _ _ (found-good a.font.now a.at a.n _ c.requires.1 f)) c.if-n-gt2000.true)

pub invariant_of-glyphs : goal.invariant_of-glyphs
invariant_of-glyphs c =
    let a = c.args in
    record { good = found-good a.font.now a.at a.n _ c.requires.1 (sym c.read_charset.ensures ∙ c.in-Ok.is) }

pub returns-in-Err : goal.returns-in-Err
returns-in-Err c =
    let a = c.args in
    ap Some (c.one.ensures ∙ ap (λ (n : ℕ). n ∷ []) c.number.ensures) ∙ sym (listed_refused 2 _ _ (refused_is (table_at a.font.now a.at) (charset_at a.font.now a.at a.n) _ (sym c.read_charset.ensures ∙ c.in-Err.is)))

pub returns-else-n-gt2000 : goal.returns-else-n-gt2000
returns-else-n-gt2000 c =
    let a = c.args in
    let f = sym c.read_charset.ensures ∙ c.in-Ok.is in
    ap Some (rw (c.put_ids.ensures, c.one-answer.ensures) refl) ∙ sym (listed_found 2 _ _ (found-ids a.font.now a.at a.n _ c.requires.1 f) a.n (good_length _ _ _ (found-good a.font.now a.at a.n _ c.requires.1 f)) c.if-n-gt2000.false)
