-- `fds::rank_locals` meets its contract.
use Rattle.std.proofs.Common.{Bool, ap, arith, false, length, refl, sym, true, ◌+◌, ◌∙◌, ◌≡◌, ◌≤◌}
use Rattle.octets.specs.Pick.{pick}
use Rattle.bits.specs.Bits.{words_for}
use Rattle.cff.specs.Loaded.{program}
use Rattle.subset.specs.Kept.{locals_of}
use Rattle.fds.specs.declared.RankedLocals.{RankedLocals}
use Rattle.fds.specs.Locals.{in_use_lem}
use Rattle.fds.specs.UsedLaws.{not_used, is_used}
use Rattle.fds.specs.LocalsLaws.{few_words, ranking_start, ranking_room, ranking_small, ranking_pass, ranking_take, ranking_done}
use Rattle.fds.proofs.rank_locals.Goals as goal
use Rattle.fds.proofs.rank_locals.Goals.{Then-used-fd-ne0, then-used-fd-ne0, then-all, else-all, else-used-fd-ne0}

-- an FD in use has room for its bits
in_use : (e : Then-used-fd-ne0) → in_use_lem e.args.fds.now.used.now e.loop-fd.fd ≡ true
in_use e = is_used e.args.fds.now.used.now e.loop-fd.fd e.if-used-fd-ne0.true

room : (e : Then-used-fd-ne0)
    → (e.loop-fd.place + words_for (length (locals_of (program e.args.fds.now.font) e.loop-fd.fd)) ≤ length e.loop-fd.words)
room e = ranking_room _ _ _ _ _ e.requires.1 _ _ _ _ _ e.loop-fd.invariant (in_use e)

pub loop-fd-init : goal.loop-fd-init
loop-fd-init c = ranking_start _ _ _ _ _ _

pub rank_fd-r-requires : goal.rank_fd-r-requires
rank_fd-r-requires c =
    let t = c.loop-fd-test.true in
    (t, room (goal.at.rank_fd-r-requires c).Then-used-fd-ne0)

pub overflow_add-place : goal.overflow_add-place
overflow_add-place c =
    omega (
      arith,
      c.words_for-place.ensures.0,
      ap (λ (x : RankedLocals). words_for x.own.count) c.rank_fd-r.ensures.1,
      ranking_small _ _ _ _ _ c.requires.1 _ _ _ _ _ c.loop-fd.invariant (in_use (goal.at.overflow_add-place c).Then-used-fd-ne0) c.requires.0 (few_words _ _ c.args.fds.now.font.good),
    )

pub loop-fd-preserved : goal.loop-fd-preserved
loop-fd-preserved c =
    let i = c.loop-fd.invariant in
    elim c.if-used-fd-ne0.branch [
      | then-used-fd-ne0 w ↦
          let both = λ (t : Bool). pick t w.rank_fd-r.result.all false in
          let b : w.if-all.all ≡ both c.loop-fd.all =
          elim w.if-all.branch [
            | then-all v ↦ v.all-is ∙ sym (ap both v.if-all.true)
            | else-all v ↦ v.all-is ∙ v.if-all.false ∙ sym (ap both v.if-all.false)
          ] in
          let g : 256 ≤ length c.loop-fd.table = omega (arith, c.loop-fd.auto.table, c.requires.2) in
          rw (w.words-is, w.table-is, w.place-is, w.all-is) (ranking_take _ _ _ _ _ c.requires.1 _ _ _ _ _ i (is_used c.args.fds.now.used.now c.loop-fd.fd w.if-used-fd-ne0.true) g c.loop-fd-test.true
          _ w.rank_fd-r.ensures.1 _ w.rank_fd-r.ensures.0 _ b _ w.words_for-place.ensures.0 _ refl)
      | else-used-fd-ne0 w ↦
          rw (w.words-is, w.table-is, w.place-is, w.all-is) (ranking_pass _ _ _ _ _ c.requires.1 _ _ _ _ _ i (not_used c.args.fds.now.used.now c.loop-fd.fd w.if-used-fd-ne0.false))
    ]

pub returns : goal.returns
returns c = ranking_done _ _ _ _ _ _ _ _ _ _ c.loop-fd.invariant (omega (arith, c.loop-fd-test.false))
