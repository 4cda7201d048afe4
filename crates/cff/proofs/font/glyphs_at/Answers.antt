-- `cff::font::glyphs_at` meets its contract: past the charstrings its steps are those of `font_at`.
use Rattle.refusal.specs.HandedOn.{handed_on}
use Rattle.cff.specs.Reads.{font_of, ReadsFont}
use Rattle.cff.specs.FontLaws.{no_glyphs, ids-bad, parts-bad, font-found}
use Rattle.cff.proofs.font.glyphs_at.Goals as goal

pub returns-then-n-eq0 : goal.returns-then-n-eq0
returns-then-n-eq0 c = no_glyphs c.args.font.now c.args.top c.args.end c.args.strings c.args.globals c.args.charstrings c.requires.1 c.if-n-eq0.true

pub returns-in_err-charset : goal.returns-in_err-charset
returns-in_err-charset c =
    handed_on _ _ (ReadsFont c.args.font.now (font_of c.args.font.now c.args.strings c.args.globals c.args.top c.args.end)) c.from_residual.ensures.1
    (ids-bad c.args.font.now c.args.top c.args.end c.args.strings c.args.globals c.args.charstrings c.requires.1 c.if-n-eq0.false _ (rw c.requires.2 at c.read_ids.ensures) _ c.in_err-charset.was)

pub returns-in_err-parts : goal.returns-in_err-parts
returns-in_err-parts c =
    handed_on _ _ (ReadsFont c.args.font.now (font_of c.args.font.now c.args.strings c.args.globals c.args.top c.args.end)) c.from_residual-in_err-parts.ensures.1
    (parts-bad c.args.font.now c.args.top c.args.end c.args.strings c.args.globals c.args.charstrings c.requires.1 c.if-n-eq0.false _ (rw c.requires.2 at c.read_ids.ensures) _ c.in_ok-charset.was _ (rw c.requires.2 at c.is_cid_keyed-cid.ensures) _ (rw c.requires.2 at c.read_parts.ensures) _ c.in_err-parts.was)

pub returns : goal.returns
returns c = font-found c.args.font.now c.args.top c.args.end c.args.strings c.args.globals c.args.charstrings c.requires.1 c.if-n-eq0.false _ (rw c.requires.2 at c.read_ids.ensures) _ c.in_ok-charset.was _ (rw c.requires.2 at c.is_cid_keyed-cid.ensures) _ (rw c.requires.2 at c.read_parts.ensures) c.requires.0 _ c.in_ok-parts.was
