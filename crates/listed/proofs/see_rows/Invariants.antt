-- The invariant: what is marked and the rows that are left give what all give.
use Rattle.listed.specs.ListedLaws.{Seeing}
use Rattle.listed.proofs.see_rows.Given as goal

abbrev pub invariant-loop-i : goal.invariant-loop-i
invariant-loop-i l = Seeing l.rows l.window.keys.now l.i l.initial.seen l.seen
