-- `privates::put_part` meets its contract: the Private DICT, and behind it the INDEX of its new local subroutines where there are some.
use Rattle.std.proofs.Common.{length, refl, ◌∙◌}
use Rattle.record.specs.Record.{rows_of}
use Rattle.cff.specs.Loaded.{program}
use Rattle.bodies.specs.WrittenLaws.{room_adds}
use Rattle.fds.specs.NewLocalsLaws.{subrs_in}
use Rattle.fds.specs.NewPartsLaws.{dict-asked, part_none, subrs-room, subrs_asked, part-some}
use Rattle.fds.proofs.privates.put_part.Goals as goal

pub put_dict-requires : goal.put_dict-requires
put_dict-requires c =
    let a = c.args in
    let d = dict-asked a.how.way a.of.now.font.bytes.now (program a.of.now.font) (rows_of a.rows.now) a.words.now a.own a.how.globals a.how.rising a.of.now.fd c.requires.0 _ c.fd_private-q.ensures a.total a.out.now.at (length a.out.now.bytes.now) c.requires.1 _ c.kept_count-left.ensures in
    d

pub returns-then-left-eq0 : goal.returns-then-left-eq0
returns-then-left-eq0 c =
    let a = c.args in
    record {
      wrote = part_none a.how.way a.of.now.font.bytes.now (program a.of.now.font) (rows_of a.rows.now) a.words.now a.own a.how.globals a.how.rising a.of.now.fd c.requires.0 _ c.fd_private-q.ensures
          a.total a.out.now.at (length a.out.now.bytes.now) c.requires.1 _ c.kept_count-left.ensures _ _ _ refl c.put_dict.ensures.wrote c.if-left-eq0.true;
      same = c.put_dict.ensures.same;
      size = c.put_dict.ensures.size;
    }

pub invariant_of-all : goal.invariant_of-all
invariant_of-all c =
    let a = c.args in
    record { sourced = subrs_in a.how.way a.of.now.font.bytes.now (program a.of.now.font) (rows_of a.rows.now) a.words.now a.own a.how.globals a.how.rising a.of.now.fd c.requires.0 _ c.fd_private-q.ensures }

pub invariant_of-m : goal.invariant_of-m
invariant_of-m c =
    let a = c.args in
    record {
      adds = room_adds _ c.requires.1.counted (subrs-room a.how.way a.of.now.font.bytes.now (program a.of.now.font) (rows_of a.rows.now) a.words.now a.own a.how.globals a.how.rising a.of.now.fd c.requires.0 _ c.fd_private-q.ensures
          a.total a.out.now.at (length a.out.now.bytes.now) c.requires.1 _ c.kept_count-left.ensures _ _ _ refl c.put_dict.ensures.wrote c.if-left-eq0.false);
    }

pub put_subrs-requires : goal.put_subrs-requires
put_subrs-requires c =
    let a = c.args in
    subrs_asked a.how.way a.of.now.font.bytes.now (program a.of.now.font) (rows_of a.rows.now) a.words.now a.own a.how.globals a.how.rising a.of.now.fd c.requires.0 _ c.fd_private-q.ensures
    a.total a.out.now.at (length a.out.now.bytes.now) c.requires.1 _ c.kept_count-left.ensures _ _ _ refl c.put_dict.ensures.wrote c.if-left-eq0.false

pub returns : goal.returns
returns c =
    let a = c.args in
    record {
      wrote = part-some a.how.way a.of.now.font.bytes.now (program a.of.now.font) (rows_of a.rows.now) a.words.now a.own a.how.globals a.how.rising a.of.now.fd c.requires.0 _ c.fd_private-q.ensures
          a.total a.out.now.at (length a.out.now.bytes.now) c.requires.1 _ c.kept_count-left.ensures _ _ _ refl c.put_dict.ensures.wrote c.if-left-eq0.false _ _ c.put_subrs.ensures.wrote;
      same = c.put_subrs.ensures.same ∙ c.put_dict.ensures.same;
      size = c.put_subrs.ensures.size ∙ c.put_dict.ensures.size;
    }
