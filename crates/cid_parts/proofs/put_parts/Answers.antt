-- `cid_parts::put_parts` meets its contract: three groups of parts, each behind the other, are the subset.
use Rattle.std.proofs.Common.{rules, arith, sym, subst, List, ℕ, ◌≤◌, ◌+◌, length}
use Rattle.octets.specs.PutLaws.{wrote_as}
use Rattle.octets.specs.OutLaws.{writes_then, writes_as, writes_lent}
use Rattle.record.specs.Record.{rows_of}
use Rattle.cid_parts.specs.Subset.{remains-then, glyphs-remain, tail-remain, ends-remain}
use Rattle.cid_parts.specs.CidPutLaws.{middle-put, tail-small, tail-room, all-left}
use Rattle.cid_parts.specs.CidPlacesLaws.{privates_end}
use Rattle.cid_parts.proofs.put_parts.Goals as goal

pub put_glyphs-requires : goal.put_glyphs-requires
put_glyphs-requires c =
    let a = c.args.c.now in
    let s = c.put_head-p.ensures in
    let h = middle-put a.kept.font.now (rows_of a.parts.rows.now) a.parts.used.now a.kept.words.now a.parts.cut.plan a.parts.table.now a.ready.cid a.parts.totals.now a.ready.summed a.parts.name.now c.args.at c.requires.0 c.requires.1 c.args.out.now c.requires.2 s.0 in
    subst (λ (l : List ℕ). (c.put_head-p.result + length l ≤ 67108864) × (c.put_head-p.result + length l ≤ length c.put_head-p.new.out)) (sym (glyphs-remain _ _ s.1)) (h.1, h.2)

pub put_tail-requires : goal.put_tail-requires
put_tail-requires c =
    let a = c.args.c.now in
    let s = c.put_head-p.ensures in
    let t = c.put_glyphs.ensures in
    let r = remains-then t.1 s.1 in
    let w = wrote_as t.0.wrote (glyphs-remain _ _ s.1) in (
      ends-remain c.args.at.privates a _ r
          (privates_end a.kept.font.now (rows_of a.parts.rows.now) a.parts.used.now a.kept.words.now a.parts.cut.plan a.parts.name.now c.args.at c.requires.0 c.requires.1),
      subst (λ (l : List ℕ). c.put_glyphs.new.out.at + length l ≤ 67108864) (sym (tail-remain c.args.at.privates a _ r))
          (tail-small a.kept.font.now (rows_of a.parts.rows.now) a.parts.used.now a.kept.words.now a.parts.cut.plan a.parts.table.now a.ready.cid a.parts.totals.now a.ready.summed a.parts.name.now c.args.at c.requires.0 c.requires.1 c.args.out.now c.requires.2 s.0 w),
      subst (λ (l : List ℕ). c.put_glyphs.new.out.at + length l ≤ length c.put_glyphs.new.out.bytes.now) (sym (tail-remain c.args.at.privates a _ r))
          (tail-room a.kept.font.now (rows_of a.parts.rows.now) a.parts.used.now a.kept.words.now a.parts.cut.plan a.parts.table.now a.ready.cid a.parts.totals.now a.ready.summed a.parts.name.now c.args.at c.requires.0 c.requires.1 c.args.out.now c.requires.2 s.0 w),
    )

pub returns : goal.returns
returns c =
    let a = c.args.c.now in
    let s = c.put_head-p.ensures in
    let t = c.put_glyphs.ensures in
    let r = remains-then t.1 s.1 in
    let h = middle-put a.kept.font.now (rows_of a.parts.rows.now) a.parts.used.now a.kept.words.now a.parts.cut.plan a.parts.table.now a.ready.cid a.parts.totals.now a.ready.summed a.parts.name.now c.args.at c.requires.0 c.requires.1 c.args.out.now c.requires.2 s.0 in
    let w = writes_then (omega (arith, h.2)) (writes_as t.0 (glyphs-remain _ _ s.1)) (writes_as c.put_tail.ensures (tail-remain c.args.at.privates a _ r)) in
    (all-left a.kept.font.now (rows_of a.parts.rows.now) a.parts.used.now a.kept.words.now a.parts.cut.plan a.parts.table.now a.ready.cid a.parts.totals.now a.ready.summed a.parts.name.now c.args.at c.requires.0 c.requires.1 c.args.out.now c.requires.2 s.0 (writes_lent w (search rules)), r)
