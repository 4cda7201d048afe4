-- `write::cut` meets its contract: a font that is refused leaves all as it was, and one that is read is cut.
use Rattle.std.proofs.Common.{subst, ℕ, List}
use Rattle.cff.specs.SetLaws.{opens_not, opened}
use Rattle.outcome.specs.Call.{is_cid, asks}
use Rattle.outcome.specs.Entry.{size_of, CutsWith}
use Rattle.refusal.specs.HandedOn.{handed_on}
use Rattle.write.specs.EntryLaws.{unread-cuts}
use Rattle.write.proofs.cut.Goals as goal

pub returns-in_err-read : goal.returns-in_err-read
returns-in_err-read c =
    let a = c.args in
    let ask = a.ask.now in
    handed_on _ _ (CutsWith (size_of a.c.small) (is_cid a.c.keying) (asks a.c.keying) a.font.now ask.name.now ask.keep.now ask.rows.now ask.traced a.work.now a.out.now a.work.now a.out.now) c.from_residual.ensures.1
    (unread-cuts (size_of a.c.small) (is_cid a.c.keying) (asks a.c.keying) a.font.now ask.name.now ask.keep.now ask.rows.now ask.traced a.work.now a.out.now
    (λ i. (c.type_inv.font i).fits) ask.octets _ (opens_not a.font.now _ c.read.ensures _ c.in_err-read.was))

pub returns : goal.returns
returns c =
    let a = c.args in
    let ask = a.ask.now in
    subst (λ (font : List ℕ). CutsWith (size_of a.c.small) (is_cid a.c.keying) (asks a.c.keying) font ask.name.now ask.keep.now ask.rows.now ask.traced a.work.now a.out.now c.cut_font.new.work c.cut_font.new.out c.cut_font.result)
    (opened a.font.now _ c.read.ensures _ c.in_ok-read.was) c.cut_font.ensures
