-- `cid_parts::put_head` meets its contract: the front with the places, the globals and the charset.
use Rattle.std.proofs.Common.{rules, arith, refl, take, List, ℕ}
use Rattle.octets.specs.Octets.{Wrote}
use Rattle.octets.specs.declared.out.Out.{Out}
use Rattle.octets.specs.Out.{Writes}
use Rattle.octets.specs.OutLaws.{writes_then, writes_lent}
use Rattle.record.specs.Record.{rows_of}
use Rattle.cid_parts.specs.CidPutLaws.{front-put, globals-put, charset-put, head-wrote}
use Rattle.cid_parts.proofs.put_head.Goals as goal

-- what was written, part by part, told as one
whole : {old new : Out} {xs bs : List ℕ} → Writes old xs new → Wrote old.bytes.now old.at bs new.bytes.now new.at → Writes old bs new
whole u w = record { wrote = w; same = u.same; size = u.size }

pub invariant_of-font : goal.invariant_of-font
invariant_of-font c = record { good = c.args.c.now.ready.cid.ready.read.font }

pub put_front_cid-requires : goal.put_front_cid-requires
put_front_cid-requires c =
    let a = c.args.c.now in
    let q = front-put a.kept.font.now (rows_of a.parts.rows.now) a.parts.used.now a.kept.words.now a.parts.cut.plan a.parts.table.now a.ready.cid a.parts.name.now (take 8 a.parts.slots.now) a.parts.cut.own a.ready.strings a.ready.short c.args.at c.requires.0 c.requires.1 c.args.out.now c.requires.2 in
    (q.0, q.1, refl)

pub put_globals-requires : goal.put_globals-requires
put_globals-requires c =
    let a = c.args.c.now in
    globals-put a.kept.font.now (rows_of a.parts.rows.now) a.parts.used.now a.kept.words.now a.parts.cut.plan a.parts.table.now a.ready.cid a.parts.name.now (take 8 a.parts.slots.now) a.parts.cut.own a.ready.strings a.ready.short c.args.at c.requires.0 c.requires.1 c.args.out.now c.requires.2 c.put_front_cid.ensures.wrote

pub put_charset_cid-requires : goal.put_charset_cid-requires
put_charset_cid-requires c =
    let a = c.args.c.now in
    charset-put a.kept.font.now (rows_of a.parts.rows.now) a.parts.used.now a.kept.words.now a.parts.cut.plan a.parts.table.now a.ready.cid a.parts.name.now (take 8 a.parts.slots.now) a.parts.cut.own a.ready.strings a.ready.short c.args.at c.requires.0 c.requires.1 c.args.out.now c.requires.2 c.put_front_cid.ensures.wrote c.put_globals.ensures.wrote a.kept.o a.ready.walked

pub returns : goal.returns
returns c =
    let a = c.args.c.now in (
      writes_lent
          (whole (writes_then (omega arith) (writes_then (omega arith) c.put_front_cid.ensures c.put_globals.ensures) c.put_charset_cid.ensures.0)
          (head-wrote a.kept.font.now (rows_of a.parts.rows.now) a.parts.used.now a.kept.words.now a.parts.cut.plan a.parts.table.now a.ready.cid a.parts.name.now (take 8 a.parts.slots.now) a.parts.cut.own a.ready.strings a.ready.short c.args.at c.requires.0 c.requires.1 c.args.out.now c.requires.2 c.put_front_cid.ensures.wrote c.put_globals.ensures.wrote a.kept.o a.ready.walked c.put_charset_cid.ensures.0.wrote))
          (search rules),
      record { kept = c.put_charset_cid.ensures.1; parts = refl },
    )
