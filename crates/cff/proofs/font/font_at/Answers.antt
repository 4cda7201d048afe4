-- `cff::font::font_at` meets its contract: up to the charstrings its steps are those of `font_at`.
use Rattle.std.proofs.Common.{sym, subst, ◌∙◌}
use Rattle.refusal.specs.HandedOn.{handed_on}
use Rattle.dict.specs.Held.{ReadsDict}
use Rattle.cff.specs.Reads.{top_of, font_of, ReadsFont}
use Rattle.cff.specs.ReadsLaws.{dict-good}
use Rattle.cff.specs.FontLaws.{top_refused, top_typed, has-glyphs, top-unread}
use Rattle.cff.proofs.font.font_at.Goals as goal

pub returns-in_err-d : goal.returns-in_err-d
returns-in_err-d c =
    handed_on _ _ (ReadsFont c.args.font.now (font_of c.args.font.now c.args.strings c.args.globals c.args.top c.args.end)) c.from_residual.ensures.1
    (top_refused c.args.font.now c.args.top c.args.end c.args.strings c.args.globals _ (subst (ReadsDict (top_of c.args.font.now c.args.top c.args.end)) c.in_err-d.was c.read_dict.ensures))

pub returns-in_err-charstring_type : goal.returns-in_err-charstring_type
returns-in_err-charstring_type c =
    let read = subst (ReadsDict (top_of c.args.font.now c.args.top c.args.end)) c.in_ok-d.was c.read_dict.ensures in
    handed_on _ _ (ReadsFont c.args.font.now (font_of c.args.font.now c.args.strings c.args.globals c.args.top c.args.end)) c.from_residual-in_err-charstring_type.ensures.1
    (top_typed c.args.font.now c.args.top c.args.end c.args.strings c.args.globals (dict-good _ read.0) _ (sym (rw read.1 at c.charstring_type.ensures) ∙ c.in_err-charstring_type.was))

pub returns-in_err-charstrings : goal.returns-in_err-charstrings
returns-in_err-charstrings c =
    let read = subst (ReadsDict (top_of c.args.font.now c.args.top c.args.end)) c.in_ok-d.was c.read_dict.ensures in
    handed_on _ _ (ReadsFont c.args.font.now (font_of c.args.font.now c.args.strings c.args.globals c.args.top c.args.end)) c.from_residual-in_err-charstrings.ensures.1
    (top-unread c.args.font.now c.args.top c.args.end c.args.strings c.args.globals (dict-good _ read.0) (sym (rw read.1 at c.charstring_type.ensures) ∙ c.in_ok-charstring_type.was) _ (rw read.1 at c.named_index.ensures) _ c.in_err-charstrings.was)

pub glyphs_at-requires : goal.glyphs_at-requires
glyphs_at-requires c =
    let read = subst (ReadsDict (top_of c.args.font.now c.args.top c.args.end)) c.in_ok-d.was c.read_dict.ensures in (
      c.requires,
      has-glyphs c.args.font.now c.args.top c.args.end c.args.strings c.args.globals (dict-good _ read.0) (sym (rw read.1 at c.charstring_type.ensures) ∙ c.in_ok-charstring_type.was) _ (rw read.1 at c.named_index.ensures) _ c.in_ok-charstrings.was,
      read.1,
    )
