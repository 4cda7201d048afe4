-- `parts::put_globals` meets its contract: what is written by the ranks across is the globals of the subset.
use Rattle.std.proofs.Common.{ap, arith, length, List, ℕ}
use Rattle.octets.specs.OutLaws.{writes_as}
use Rattle.index.specs.Write.{index_bytes}
use Rattle.record.specs.Record.{rows_of}
use Rattle.renumber.specs.declared.Ranks.{Ranks}
use Rattle.bodies.specs.declared.subrs.Source.{Source}
use Rattle.reach.specs.declared.Subrs.TheVariants.{Global}
use Rattle.bodies.specs.WrittenLaws.{room_adds}
use Rattle.parts.specs.declared.Planned.{Planned}
use Rattle.parts.specs.CodeLaws.{globals-asked, globals_are}
use Rattle.parts.proofs.put_globals.Goals as goal

-- the globals, which call local subroutines by some ranks
abbrev calling : Planned → Ranks → Source
calling r q =
    record {
      way = r.how.way;
      of = Global;
      ix = r.order.f.globals;
      own = r.how.globals;
      locals = q;
      globals = r.how.globals;
      rising = r.how.rising;
    }

pub invariant_of-all : goal.invariant_of-all
invariant_of-all c =
    let a = c.args in
    let w = c.across-locals in
    record { sourced = (globals-asked a.font.now (rows_of a.rows.now) a.used.now a.words.now a.table.now a.r c.requires.0 (calling a.r w.result) (ap (calling a.r) w.ensures) a.out.now.at (length a.out.now.bytes.now) c.requires.1 c.requires.2).0 }

pub invariant_of-m : goal.invariant_of-m
invariant_of-m c =
    let a = c.args in
    let w = c.across-locals in
    let q = globals-asked a.font.now (rows_of a.rows.now) a.used.now a.words.now a.table.now a.r c.requires.0 (calling a.r w.result) (ap (calling a.r) w.ensures) a.out.now.at (length a.out.now.bytes.now) c.requires.1 c.requires.2 in
    record { adds = room_adds _ q.1 q.2 }

pub put_subrs-requires : goal.put_subrs-requires
put_subrs-requires c =
    let a = c.args in
    let w = c.across-locals in
    let e = globals_are a.font.now (rows_of a.rows.now) a.used.now a.words.now a.table.now a.r c.requires.0 (calling a.r w.result) (ap (calling a.r) w.ensures) in
    let n = ap (λ (l : List (List ℕ)). length (index_bytes l)) e in
    (omega (arith, c.requires.1), omega (arith, n, c.requires.2))

pub returns : goal.returns
returns c =
    let a = c.args in
    let w = c.across-locals in
    writes_as c.put_subrs.ensures
    (ap index_bytes (globals_are a.font.now (rows_of a.rows.now) a.used.now a.words.now a.table.now
    a.r c.requires.0 (calling a.r w.result) (ap (calling a.r) w.ensures)))
