-- `capi::culprits::cff_blocking_glyph` meets its contract: what was answered is written.
use Rattle.std.proofs.Common.{ap, rules, sym}
use Rattle.capi.specs.Blocking.{culprit_answer}
use Rattle.capi.specs.CapiLaws.{answers_as}
use Rattle.capi.proofs.culprits.cff_blocking_glyph.Goals as goal

pub returns : goal.returns
returns c =
    record {
      answers = answers_as (search rules) (ap culprit_answer (sym c.blocking_glyph-c.ensures.answers));
      words = c.blocking_glyph-c.ensures.words;
      bytes = c.blocking_glyph-c.ensures.bytes;
    }
