-- `blocking::is_freed` meets its contract: the glyph's place has 0 while the list is tried, and then the glyph again.
use Rattle.std.proofs.Common.{ap, get_or, set, set-set, ◌∙◌}
use lib.Seq.{set-get_or}
use Rattle.blocking.specs.Search.{renumbered_in}
use Rattle.blocking.specs.Stays.{over, cut_by}
use Rattle.blocking.specs.CutLaws.{way-of}
use Rattle.blocking.proofs.is_freed.Goals as goal

pub returns : goal.returns
returns c =
    let a = c.before.args in (
      record {
        answers = c.is_renumbered.ensures ∙ ap renumbered_in c.try_list-a.ensures.0 ∙ way-of (over (cut_by (set a.list.now a.g 0)) a.search.now);
        stays = set-set a.list.now a.g 0 (get_or a.list.now a.g 0) ∙ set-get_or a.list.now a.g 0;
      },
      c.try_list-a.ensures.1,
    )
