-- `blocking::one_freed` meets its contract: the list is tried without the glyph, where it has it.
use Rattle.std.proofs.Common.{length, sym, ◌∙◌}
use Rattle.cff.specs.Loaded.{program}
use Rattle.blocking.specs.StaysLaws.{stays-refl}
use Rattle.blocking.specs.SearchLaws.{free_zero, free_not, free_is, alone-none, alone_freed}
use Rattle.blocking.proofs.one_freed.Goals as goal

pub returns-then-list-at-eq0 : goal.returns-then-list-at-eq0
returns-then-list-at-eq0 c =
    let s = c.args.search.now in
    let p = program s.font.loaded in
    (alone-none p s.name.now c.args.list.now (length s.words.now) (length s.slice.now) c.args.g (free_zero p s.name.now c.args.list.now (length s.words.now) (length s.slice.now) c.args.g c.if-list-at-eq0.true), stays-refl s)

pub returns-then-is_freed : goal.returns-then-is_freed
returns-then-is_freed c =
    let s = c.args.search.now in
    let p = program s.font.loaded in (
      alone_freed p s.name.now c.args.list.now (length s.words.now) (length s.slice.now) c.args.g
          (free_is p s.name.now c.args.list.now (length s.words.now) (length s.slice.now) c.args.g c.if-list-at-eq0.false (sym c.if-is_freed.true ∙ c.is_freed.ensures.0.answers)),
      c.is_freed.ensures.1,
    )

pub returns : goal.returns
returns c =
    let s = c.args.search.now in
    let p = program s.font.loaded in (
      alone-none p s.name.now c.args.list.now (length s.words.now) (length s.slice.now) c.args.g
          (free_not p s.name.now c.args.list.now (length s.words.now) (length s.slice.now) c.args.g (sym c.if-is_freed.false ∙ c.is_freed.ensures.0.answers)),
      c.is_freed.ensures.1,
    )
