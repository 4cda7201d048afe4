-- `bodies::subrs::body_of` meets its contract: the item of the INDEX, and what the subroutines ask of the words and the record.
use Rattle.std.proofs.Common.{ap, refl, ◌∙◌}
use Rattle.unfold.specs.Sites.{site_of}
use Rattle.bodies.specs.CodeLaws.{item_inputs}
use Rattle.bodies.proofs.subrs.body_of.Goals as goal

pub rows_known-rows-requires : goal.rows_known-rows-requires
rows_known-rows-requires c = c.args.one.now.of.now.sourced.order

pub new-requires : goal.new-requires
new-requires c = item_inputs c.args.one.now.of.now.sourced c.requires.0 c.requires.1 c.args.one.now.k c.args.one.now.there _ c.item-code.ensures.0

pub returns : goal.returns
returns c =
    let r = c.new.ensures in (
      record {
        code_is = r.code_is ∙ c.item-code.ensures.0;
        words_are = r.words_are;
        locals_are = r.locals_are;
        globals_are = r.globals_are;
        rows_are = r.rows_are ∙ c.rows_known-rows.ensures.0;
        rises_so = r.rises_so ∙ c.rows_known-rows.ensures.1;
        site_is = refl;
      },
      ap site_of r.site_is ∙ c.site_for-site.ensures,
    )
