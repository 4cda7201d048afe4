-- `named_parts::put_named` meets its contract: the front, the global subroutines, and the parts behind them.
use Rattle.std.proofs.Common.{rules, arith, refl, sym, subst, List, ℕ, ◌≤◌, ◌+◌, length}
use Rattle.octets.specs.PutLaws.{wrote_as}
use Rattle.octets.specs.Octets.{Wrote}
use Rattle.octets.specs.declared.out.Out.{Out}
use Rattle.octets.specs.Out.{Writes}
use Rattle.octets.specs.OutLaws.{writes_then, writes_lent}
use Rattle.named_parts.specs.Subset.{remains-then, tables-remain, glyphs-remain}
use Rattle.named_parts.specs.NamedPutLaws.{front-asked, globals_there, tables_there, glyphs_there, named-wrote}
use Rattle.named_parts.proofs.put_named.Goals as goal

-- what was written, part by part, told as one
whole : {old new : Out} {xs bs : List ℕ} → Writes old xs new → Wrote old.bytes.now old.at bs new.bytes.now new.at → Writes old bs new
whole u w = record { wrote = w; same = u.same; size = u.size }

pub put_front_named-requires : goal.put_front_named-requires
put_front_named-requires c =
    let h = c.args.c.now.ready in
    let q = front-asked _ _ _ _ _ _ _ h.plan c.args.c.now.parts.name.now _ _ h.strings _ _ h.codes _ c.requires.0 c.args.out.now c.requires.1 c.requires.2 _ h.walked in
    (q.0, q.1, q.2, refl)

pub put_globals-requires : goal.put_globals-requires
put_globals-requires c =
    let h = c.args.c.now.ready in
    globals_there _ _ _ _ _ _ _ h.plan c.args.c.now.parts.name.now _ _ h.strings _ _ h.codes _ c.requires.0 c.args.out.now c.requires.1 c.requires.2 _ h.walked
    c.put_front_named.ensures.0.wrote

pub put_tables-requires : goal.put_tables-requires
put_tables-requires c =
    let h = c.args.c.now.ready in
    subst (λ (l : List ℕ). c.put_globals.new.out.at + length l ≤ length c.put_globals.new.out.bytes.now)
    (sym (tables-remain c.args.c.now c.put_front_named.new.kept c.put_front_named.ensures.1))
    (tables_there _ _ _ _ _ _ _ h.plan c.args.c.now.parts.name.now _ _ h.strings _ _ h.codes _ c.requires.0 c.args.out.now c.requires.1 c.requires.2 _ h.walked
    c.put_front_named.ensures.0.wrote c.put_globals.ensures.wrote)

pub put_glyphs-requires : goal.put_glyphs-requires
put_glyphs-requires c =
    let h = c.args.c.now.ready in
    let s = c.put_tables.ensures in
    subst (λ (l : List ℕ). (c.put_tables.new.out.at + length l ≤ 67108864) × (c.put_tables.new.out.at + length l ≤ length c.put_tables.new.out.bytes.now))
    (sym (glyphs-remain c.args.c.now _ (remains-then s.1 c.put_front_named.ensures.1 refl refl refl)))
    (glyphs_there _ _ _ _ _ _ _ h.plan c.args.c.now.parts.name.now _ _ h.strings _ _ h.codes _ c.requires.0 c.args.out.now c.requires.1 c.requires.2 _ h.walked
    c.put_front_named.ensures.0.wrote c.put_globals.ensures.wrote
    (wrote_as s.0.wrote (tables-remain c.args.c.now c.put_front_named.new.kept c.put_front_named.ensures.1)))

pub returns : goal.returns
returns c =
    let h = c.args.c.now.ready in
    let s = c.put_tables.ensures in
    let r = remains-then s.1 c.put_front_named.ensures.1 refl refl refl in (
      writes_lent
          (whole (writes_then (omega arith) (writes_then (omega arith) (writes_then (omega arith) c.put_front_named.ensures.0 c.put_globals.ensures) s.0) c.put_glyphs.ensures.0)
          (named-wrote _ _ _ _ _ _ _ h.plan c.args.c.now.parts.name.now _ _ h.strings _ _ h.codes _ c.requires.0 c.args.out.now c.requires.1 c.requires.2 _ h.walked
          c.put_front_named.ensures.0.wrote c.put_globals.ensures.wrote
          (wrote_as s.0.wrote (tables-remain c.args.c.now c.put_front_named.new.kept c.put_front_named.ensures.1))
          (wrote_as c.put_glyphs.ensures.0.wrote (glyphs-remain c.args.c.now _ r))))
          (search rules),
      remains-then c.put_glyphs.ensures.1 r.kept r.parts r.encoding r.codes,
    )
