-- `reading::is_sheet` meets its contract: its tests hold one after the other.
use Rattle.std.proofs.Common.{false, sym, ◌∙◌, ◌≡◌}
use Rattle.octets.specs.Pick.{pick}
use Rattle.cases.specs.Lines.{lines_of}
use Rattle.sheet.specs.Sheet.{hex_up_to, is_kept, hex_of, filled, are_rows, is_sheet_lem}
use Rattle.sheet.specs.Reading.{is_sheet_at}
use Rattle.sheet.specs.ReadingLaws.{passes, stays, five}
use Rattle.sheet.proofs.reading.is_sheet.Goals as goal
use Rattle.sheet.proofs.reading.is_sheet.Goals.{then-hex_up_to, else-hex_up_to, then-hex_up_to-2, else-hex_up_to-2, then-is_kept, else-is_kept}

pub returns-then-hex_of : goal.returns-then-hex_of
unfolding is_sheet_at is_sheet_lem
returns-then-hex_of c =
    let h = c.args.head.now in
    let a = hex_up_to 16384 h.font.now in
    let b = hex_up_to 256 h.name.now in
    let k = is_kept h.keep.now in
    let d = hex_of 2 h.flag.now in
    let e = are_rows (filled (lines_of h.rows.now)) in
    let one : c.if-hex_up_to.value ≡ pick a b false
    = elim c.if-hex_up_to.branch [
      | then-hex_up_to w ↦ w.value-is ∙ w.hex_up_to-then-hex_up_to.ensures ∙ passes a b (sym c.hex_up_to.ensures ∙ w.if-hex_up_to.true)
      | else-hex_up_to w ↦ w.value-is ∙ c.hex_up_to.ensures ∙ stays a b (sym c.hex_up_to.ensures ∙ w.if-hex_up_to.false)
    ] in
    let two : c.if-hex_up_to-2.value ≡ pick c.if-hex_up_to.value k false
    = elim c.if-hex_up_to-2.branch [
      | then-hex_up_to-2 w ↦ w.value-is ∙ w.is_kept.ensures ∙ passes _ k w.if-hex_up_to-2.true
      | else-hex_up_to-2 w ↦ w.value-is ∙ stays _ k w.if-hex_up_to-2.false
    ] in
    let three : c.if-is_kept.value ≡ pick c.if-hex_up_to-2.value d false
    = elim c.if-is_kept.branch [
      | then-is_kept w ↦ w.value-is ∙ w.hex_of.ensures ∙ passes _ d w.if-is_kept.true
      | else-is_kept w ↦ w.value-is ∙ stays _ d w.if-is_kept.false
    ] in
    c.are_rows.ensures ∙ passes _ e c.if-hex_of.true ∙ five a b k d e one two three

pub returns-else-hex_of : goal.returns-else-hex_of
unfolding is_sheet_at is_sheet_lem
returns-else-hex_of c =
    let h = c.args.head.now in
    let a = hex_up_to 16384 h.font.now in
    let b = hex_up_to 256 h.name.now in
    let k = is_kept h.keep.now in
    let d = hex_of 2 h.flag.now in
    let e = are_rows (filled (lines_of h.rows.now)) in
    let one : c.if-hex_up_to.value ≡ pick a b false
    = elim c.if-hex_up_to.branch [
      | then-hex_up_to w ↦ w.value-is ∙ w.hex_up_to-then-hex_up_to.ensures ∙ passes a b (sym c.hex_up_to.ensures ∙ w.if-hex_up_to.true)
      | else-hex_up_to w ↦ w.value-is ∙ c.hex_up_to.ensures ∙ stays a b (sym c.hex_up_to.ensures ∙ w.if-hex_up_to.false)
    ] in
    let two : c.if-hex_up_to-2.value ≡ pick c.if-hex_up_to.value k false
    = elim c.if-hex_up_to-2.branch [
      | then-hex_up_to-2 w ↦ w.value-is ∙ w.is_kept.ensures ∙ passes _ k w.if-hex_up_to-2.true
      | else-hex_up_to-2 w ↦ w.value-is ∙ stays _ k w.if-hex_up_to-2.false
    ] in
    let three : c.if-is_kept.value ≡ pick c.if-hex_up_to-2.value d false
    = elim c.if-is_kept.branch [
      | then-is_kept w ↦ w.value-is ∙ w.hex_of.ensures ∙ passes _ d w.if-is_kept.true
      | else-is_kept w ↦ w.value-is ∙ stays _ d w.if-is_kept.false
    ] in
    stays _ e c.if-hex_of.false ∙ five a b k d e one two three
