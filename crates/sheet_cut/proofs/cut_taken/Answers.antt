-- `cut_taken` meets its contract: what was read into the buffers is the sheet of the text, and its cut is printed.
use Rattle.std.proofs.Common.{length-take-le, sym}
use Rattle.octets.specs.PutLaws.{wrote_as}
use Rattle.sheet_cut.specs.CuttingLaws.{Fronts, taken_fronts, taken-cut, other_cut}
use Rattle.sheet_cut.proofs.cut_taken.Goals as goal
use Rattle.sheet_cut.proofs.cut_taken.Goals.{In-Some}

-- the parts are in front of the buffers
fronts : (c : In-Some)
    → (let l = c.read_taken-read.new.to in Fronts l.font.now l.name.now l.keep.now l.rec.now c.in-Some.parts.font c.in-Some.parts.name c.in-Some.parts.keep c.in-Some.parts.rec)
fronts c = taken_fronts _ _ _ _ _ c.args.len c.args.buffer.now _ _ _ _ _ c.requires.1 c.read_taken-read.ensures.0 c.in-Some.is

pub slice_bounds-cut_parts-end : goal.slice_bounds-cut_parts-end
slice_bounds-cut_parts-end c = (fronts c).font_fits

pub slice_bounds-cut_parts-end-in-Some : goal.slice_bounds-cut_parts-end-in-Some
slice_bounds-cut_parts-end-in-Some c = sym (length-take-le _ _ (fronts (goal.at.slice_bounds-cut_parts-end-in-Some c).In-Some).font_fits)

pub slice_bounds-cut_parts-end-in-Some-2 : goal.slice_bounds-cut_parts-end-in-Some-2
slice_bounds-cut_parts-end-in-Some-2 c = (fronts (goal.at.slice_bounds-cut_parts-end-in-Some-2 c).In-Some).name_fits

pub slice_bounds-cut_parts-end-in-Some-3 : goal.slice_bounds-cut_parts-end-in-Some-3
slice_bounds-cut_parts-end-in-Some-3 c = sym (length-take-le _ _ (fronts (goal.at.slice_bounds-cut_parts-end-in-Some-3 c).In-Some).name_fits)

pub slice_bounds-cut_parts-end-in-Some-4 : goal.slice_bounds-cut_parts-end-in-Some-4
slice_bounds-cut_parts-end-in-Some-4 c = (fronts (goal.at.slice_bounds-cut_parts-end-in-Some-4 c).In-Some).keep_fits

pub slice_bounds-cut_parts-end-in-Some-5 : goal.slice_bounds-cut_parts-end-in-Some-5
slice_bounds-cut_parts-end-in-Some-5 c = sym (length-take-le _ _ (fronts (goal.at.slice_bounds-cut_parts-end-in-Some-5 c).In-Some).keep_fits)

pub slice_bounds-cut_parts-end-in-Some-6 : goal.slice_bounds-cut_parts-end-in-Some-6
slice_bounds-cut_parts-end-in-Some-6 c = (fronts (goal.at.slice_bounds-cut_parts-end-in-Some-6 c).In-Some).rec_fits

pub slice_bounds-cut_parts-end-in-Some-7 : goal.slice_bounds-cut_parts-end-in-Some-7
slice_bounds-cut_parts-end-in-Some-7 c = sym (length-take-le _ _ (fronts (goal.at.slice_bounds-cut_parts-end-in-Some-7 c).In-Some).rec_fits)

pub returns-in-None : goal.returns-in-None
returns-in-None c = λ text mode t. wrote_as c.put_refused.ensures (other_cut _ _ _ _ _ text (c.read_taken-read.ensures.0 text mode t) c.in-None.is)

pub returns-in-Some : goal.returns-in-Some
returns-in-Some c = λ text mode t. wrote_as c.cut_parts.ensures (taken-cut _ _ _ _ _ text _ _ _ _ _ (c.read_taken-read.ensures.0 text mode t) c.in-Some.is)
