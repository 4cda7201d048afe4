-- `write::cut_glyphs` meets its contract: each keying is cut by its function, which asks and promises the same of whether the flag is 1.
use Rattle.std.proofs.Common.{ℕ, true, false, length, sym, subst}
use Rattle.cff.specs.Loaded.{program}
use Rattle.outcome.specs.Entry.{cut_behind, Cut, Passed}
use Rattle.write.specs.EntryLaws.{passed_as, cut_as}
use Rattle.write.specs.FlagLaws.{flag_is}
use Rattle.write.proofs.cut_glyphs.Goals as goal

pub cut_named-requires : goal.cut_named-requires
cut_named-requires c =
    let a = c.args in
    let ask = a.ask.now in
    subst (λ (n : ℕ). Passed false c.in-Name.encoding (program a.font.now.loaded) (length ask.name.now) ask.keep.now ask.rows.now n (length a.words.now)) (sym (flag_is _ _ _ c.requires.recorded))
    (passed_as a.keying _ c.in-Name.is _ _ _ _ _ _ c.requires)

pub returns-in-Name : goal.returns-in-Name
returns-in-Name c =
    let a = c.args in
    let ask = a.ask.now in
    cut_as a.keying _ c.in-Name.is _ _ _ _ _ _ _ _
    (subst (λ (n : ℕ). Cut (cut_behind c.in-Name.encoding (program a.font.now.loaded) ask.name.now ask.keep.now ask.rows.now n (length a.out.now)) a.out.now c.cut_named.new.out c.cut_named.result) (flag_is _ _ _ c.requires.recorded) c.cut_named.ensures)

pub cut_cid-requires : goal.cut_cid-requires
cut_cid-requires c =
    let a = c.args in
    let ask = a.ask.now in
    subst (λ (n : ℕ). Passed true false (program a.font.now.loaded) (length ask.name.now) ask.keep.now ask.rows.now n (length a.words.now)) (sym (flag_is _ _ _ c.requires.recorded))
    (passed_as a.keying _ c.in-Cid.is _ _ _ _ _ _ c.requires)

pub returns-in-Cid : goal.returns-in-Cid
returns-in-Cid c =
    let a = c.args in
    let ask = a.ask.now in
    cut_as a.keying _ c.in-Cid.is _ _ _ _ _ _ _ _
    (subst (λ (n : ℕ). Cut (cut_behind false (program a.font.now.loaded) ask.name.now ask.keep.now ask.rows.now n (length a.out.now)) a.out.now c.cut_cid.new.out c.cut_cid.result) (flag_is _ _ _ c.requires.recorded) c.cut_cid.ensures)
