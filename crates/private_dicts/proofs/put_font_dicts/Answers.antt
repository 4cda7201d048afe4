-- `private_dicts::put_font_dicts` meets its contract: the first k Font DICTs are written, with the offsets of their ends.
use Rattle.std.proofs.Common.{[], List, ap, arith, refl, get_or, length, take, ℕ, ◌*◌, ◌++◌, ◌+◌, ◌<◌, ◌≡◌, ◌∙◌}
use Rattle.dict.specs.Lookup.{Operands, last_of}
use Rattle.dict.specs.Op.{font_matrix}
use Rattle.dict.specs.Places.{entries_of}
use Rattle.dict_write.specs.Written.{copied_entry, private_entry}
use Rattle.index.specs.Write.{total}
use Rattle.index.specs.WriteLaws.{head-room}
use Rattle.index.specs.Begun.{Meant}
use Rattle.index.specs.BegunLaws.{for_meant}
use Rattle.index.specs.ItemOutLaws.{writes-item, begins_none, begins_room, begins_end, begins_more, begins_whole}
use Rattle.cff.specs.Loaded.{program}
use Rattle.subset.specs.Subset.{matrix_of}
use Rattle.private_dicts.specs.Privates.{parts_len, font_dicts_by, no_part}
use Rattle.private_dicts.specs.DictsLaws.{start-place, dicts_many, dicts-total, dicts-at, place-small, place-next}
use Rattle.private_dicts.specs.declared.fd_array.FdArray.{FdArray}
use Rattle.private_dicts.specs.declared.part.Part.{Part}
use Rattle.private_dicts.proofs.put_font_dicts.Goals as goal
use Rattle.private_dicts.proofs.put_font_dicts.Goals.{After-matrices_len, After-put_head, In-loop-k, Start}

-- the Font DICTs
abbrev K : FdArray → List Part → ℕ → List (List ℕ)
K a parts from = font_dicts_by (program a.font) a.fds.now parts from

many : (s : Start) → length s.args.a.now.fds.now ≡ length (K s.args.a.now s.args.parts.now s.args.from)
many s = dicts_many _ _ _ _ s.requires.0

sums : (m : After-matrices_len) → m.matrices_len.result + 11 * length m.args.a.now.fds.now ≡ total (K m.args.a.now m.args.parts.now m.args.from)
sums m = dicts-total _ _ _ _ m.requires.0 _ m.matrices_len.ensures.0

-- the places are for the Font DICTs
meant : (c : After-put_head) → Meant (length c.put_head.new.out.bytes.now) c.index_for-ix.result (K c.args.a.now c.args.parts.now c.args.from)
meant c =
    for_meant _ c.args.out.now.at (length c.args.a.now.fds.now) (c.matrices_len.result + 11 * length c.args.a.now.fds.now) c.index_for-ix.result (K c.args.a.now c.args.parts.now c.args.from) c.index_for-ix.ensures
    (dicts_many _ _ _ _ c.requires.0) (dicts-total _ _ _ _ c.requires.0 _ c.matrices_len.ensures.0) (omega (arith, c.requires.2, c.put_head.ensures.size))

more : (t : In-loop-k) → t.loop-k.k < length (K t.args.a.now t.args.parts.now t.args.from)
more t = omega (arith, t.loop-k-test.true, dicts_many _ _ _ _ t.requires.0)

item : (t : In-loop-k) (d : List ℕ) → last_of font_matrix (entries_of d) ≡ matrix_of (program t.args.a.now.font) (get_or t.args.a.now.fds.now t.loop-k.k 0)
    → (copied_entry font_matrix (last_of font_matrix (entries_of d)) ++ private_entry (get_or t.args.parts.now t.loop-k.k no_part).size t.loop-k.place
    ≡ get_or (K t.args.a.now t.args.parts.now t.args.from) t.loop-k.k [])
item t d e =
    ap (λ (m : Operands). copied_entry font_matrix m ++ private_entry (get_or t.args.parts.now t.loop-k.k no_part).size t.loop-k.place) e
    ∙ dicts-at _ _ _ _ t.requires.0 _ _ t.loop-k-test.true t.loop-k.invariant.0

-- the place of the next part
next : (t : In-loop-k)
    → (t.loop-k.place + (get_or t.args.parts.now t.loop-k.k no_part).len ≡ t.args.from + parts_len (take (t.loop-k.k + 1) t.args.parts.now))
next t = place-next _ _ _ _ t.requires.0 _ _ t.loop-k-test.true t.loop-k.invariant.0

pub index_for-ix-requires : goal.index_for-ix-requires
index_for-ix-requires c = (c.requires.1, omega (arith, c.args.a.now.few), omega (arith, sums (goal.at.index_for-ix-requires c).After-matrices_len, c.requires.0.short))

pub put_head-requires : goal.put_head-requires
put_head-requires c =
    let s = sums (goal.at.put_head-requires c).After-matrices_len in
    let a = c.args in
    (omega (arith, s, c.requires.0.short), head-room _ a.out.now.at (length a.a.now.fds.now) (c.matrices_len.result + 11 * length a.a.now.fds.now) (K a.a.now a.parts.now a.from) (many (goal.at.put_head-requires c).Start) s c.requires.2)

pub overflow_add-out : goal.overflow_add-out
overflow_add-out c = omega (arith, meant (goal.at.overflow_add-out c).After-put_head)

pub loop-k-init : goal.loop-k-init
loop-k-init c = (start-place c.args.parts.now _, begins_none _ _ _ refl)

pub put_font_dict-requires : goal.put_font_dict-requires
put_font_dict-requires c =
    let t = (goal.at.put_font_dict-requires c).In-loop-k in (
      c.requires.0.small _ c.loop-k-test.true,
      place-small _ _ _ _ c.requires.0 _ _ (omega (arith, c.loop-k-test.true)) c.loop-k.invariant.0,
      (begins_room (meant (goal.at.put_font_dict-requires c).After-put_head) c.loop-k.k (more t) (item t _ c.font_dict.ensures.0) c.loop-k.invariant.1).3,
    )

pub put_end-requires : goal.put_end-requires
put_end-requires c =
    let t = (goal.at.put_end-requires c).In-loop-k in
    begins_end (meant (goal.at.put_end-requires c).After-put_head) c.loop-k.k (more t) (item t _ c.font_dict.ensures.0) c.loop-k.invariant.1 c.put_font_dict.ensures

pub overflow_add-place : goal.overflow_add-place
overflow_add-place c =
    omega (arith, c.loop-k-test.true, place-small _ _ _ _ c.requires.0 (c.loop-k.k + 1) _ (omega (arith, c.loop-k-test.true)) (next (goal.at.overflow_add-place c).In-loop-k))

pub loop-k-preserved : goal.loop-k-preserved
loop-k-preserved c =
    let t = (goal.at.loop-k-preserved c).In-loop-k in (
      next t,
      begins_more (meant (goal.at.loop-k-preserved c).After-put_head) c.loop-k.k (more t) (item t _ c.font_dict.ensures.0) c.loop-k.invariant.1
          (writes-item c.put_font_dict.ensures c.put_end.ensures),
    )

pub returns : goal.returns
returns c =
    let a = c.args in
    begins_whole (length a.a.now.fds.now) (c.matrices_len.result + 11 * length a.a.now.fds.now) c.index_for-ix.result (K a.a.now a.parts.now a.from) c.loop-k.k
    c.index_for-ix.ensures (many (goal.at.returns c).Start) (sums (goal.at.returns c).After-matrices_len) c.requires.2 c.put_head.ensures refl (omega (arith, c.loop-k.auto.k-end, c.loop-k-test.false, many (goal.at.returns c).Start)) c.loop-k.invariant.1
