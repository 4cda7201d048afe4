-- `answer_lent` meets its contract: as many work words and bytes are lent as the input says, all filled.
use Rattle.std.proofs.Common.{arith, sym, ◌∙◌}
use Rattle.subset_cases.specs.Left.{lent_word, lent_byte}
use Rattle.subset_cases.specs.LeftLaws.{filled_as, filled-length}
use Rattle.subset_cases.specs.SubsetCasesLaws.{lent-short, lent-words, lent-room, lent_found}
use Rattle.subset_cases.proofs.answer_lent.Goals as goal

pub returns-then-asked-lt5 : goal.returns-then-asked-lt5
returns-then-asked-lt5 c = sym (lent-short _ _ _ _ _ c.if-asked-lt5.true)

pub returns-then-words-gt1024 : goal.returns-then-words-gt1024
returns-then-words-gt1024 c = sym (lent-words _ _ _ _ _ c.if-asked-lt5.false _ c.u16_at-words.ensures.0 c.if-words-gt1024.true)

pub returns-then-room-gt4094 : goal.returns-then-room-gt4094
returns-then-room-gt4094 c = sym (lent-room _ _ _ _ _ c.if-asked-lt5.false _ c.u16_at-words.ensures.0 c.if-words-gt1024.false _ c.u16_at-room.ensures.0 c.if-room-gt4094.true)

pub slice_bounds-answer_cut-end-2 : goal.slice_bounds-answer_cut-end-2
slice_bounds-answer_cut-end-2 c = filled-length _ 1024 lent_word c.if-words-gt1024.false

pub slice_bounds-answer_cut-end-3 : goal.slice_bounds-answer_cut-end-3
slice_bounds-answer_cut-end-3 c = filled-length _ 4094 lent_byte c.if-room-gt4094.false

pub answer_cut-requires : goal.answer_cut-requires
answer_cut-requires c =
    let w = filled_as _ 1024 lent_word c.if-words-gt1024.false in
    let o = filled_as _ 4094 lent_byte c.if-room-gt4094.false in
    let n = filled-length _ 4094 lent_byte c.if-room-gt4094.false in
    (w, o, omega (arith, n, c.if-room-gt4094.false))

pub returns : goal.returns
returns c = c.answer_cut.ensures ∙ sym (lent_found _ _ _ _ _ c.if-asked-lt5.false _ c.u16_at-words.ensures.0 c.if-words-gt1024.false _ c.u16_at-room.ensures.0 c.if-room-gt4094.false _ _ (sym (filled-length _ 1024 lent_word c.if-words-gt1024.false)) (sym (filled-length _ 4094 lent_byte c.if-room-gt4094.false)))
