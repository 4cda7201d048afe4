-- `blocking::first_freed` meets its contract: glyph by glyph; the invariant: what is left to search gives what the whole search does.
use Rattle.std.proofs.Common.{ap, arith, get_or, length, sym, ◌∙◌}
use Rattle.cff.specs.Loaded.{program}
use Rattle.blocking.specs.StaysLaws.{stays-then, tried-as}
use Rattle.blocking.specs.SearchLaws.{free_zero, free_not, free_is, search_next, search_found, search_ends}
use Rattle.blocking.proofs.first_freed.Goals as goal
use Rattle.blocking.proofs.first_freed.Goals.{else-list-g-ne0-via-then-list-g-ne0+else-is_freed, else-list-g-ne0-via-else-list-g-ne0}

pub returns-then-is_freed : goal.returns-then-is_freed
returns-then-is_freed c =
    let l = c.loop-g in
    let s = c.args.search.now in
    let z = free_is (program s.font.loaded) s.name.now c.args.list.now (length s.words.now) (length s.slice.now) l.g (λ q. c.if-list-g-ne0.true (ap (λ x. get_or x l.g 0) l.invariant.0 ∙ q))
    (sym c.if-is_freed.true ∙ tried-as l.list c.args.list.now s l.search l.g _ l.invariant.0 l.invariant.1 c.is_freed.ensures.0.answers) in
    (search_found _ _ _ l.invariant.2 c.loop-g-test.true z, stays-then l.invariant.1 c.is_freed.ensures.1)

pub loop-g-preserved : goal.loop-g-preserved
loop-g-preserved c =
    let l = c.loop-g in
    let s = c.args.search.now in
    elim c.else-list-g-ne0.branch [
      | else-list-g-ne0-via-then-list-g-ne0+else-is_freed w ↦
          let z = free_not (program s.font.loaded) s.name.now c.args.list.now (length s.words.now) (length s.slice.now) l.g
          (sym w.if-is_freed.false ∙ tried-as l.list c.args.list.now s l.search l.g _ l.invariant.0 l.invariant.1 w.is_freed.ensures.0.answers) in
          (w.list-is ∙ w.is_freed.ensures.0.stays ∙ l.invariant.0, rw w.search-is (stays-then l.invariant.1 w.is_freed.ensures.1), search_next _ _ _ l.invariant.2 c.loop-g-test.true z)
      | else-list-g-ne0-via-else-list-g-ne0 w ↦
          let z = free_zero (program s.font.loaded) s.name.now c.args.list.now (length s.words.now) (length s.slice.now) l.g (ap (λ x. get_or x l.g 0) (sym l.invariant.0) ∙ w.if-list-g-ne0.false) in
          (w.list-is ∙ l.invariant.0, rw w.search-is l.invariant.1, search_next _ _ _ l.invariant.2 c.loop-g-test.true z)
    ]

pub returns : goal.returns
returns c = (search_ends _ _ _ c.loop-g.invariant.2 (omega arith), c.loop-g.invariant.1)
