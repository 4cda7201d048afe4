-- `named_parts::put_glyphs` meets its contract: charstrings and Private, one behind the other.
use Rattle.std.proofs.Common.{refl, ◌∙◌}
use Rattle.named_parts.specs.NamedPutLaws.{charstrings-asked, parts-asked, glyphs-wrote}
use Rattle.named_parts.proofs.put_glyphs.Goals as goal

pub invariant_of-font : goal.invariant_of-font
invariant_of-font c = record { good = c.args.c.now.ready.plan.ready.read.font }

pub invariant_of-fds : goal.invariant_of-fds
invariant_of-fds c = record { held = c.args.c.now.ready.plan.ready.asked.tables }

pub put_charstrings-requires : goal.put_charstrings-requires
put_charstrings-requires c =
    let h = c.args.c.now.ready in
    charstrings-asked _ _ _ _ _ _ _ h.plan _ h.walked c.args.out.now.bytes.now c.args.out.now.at c.requires.0 c.requires.1

pub put_privates-requires : goal.put_privates-requires
put_privates-requires c =
    let h = c.args.c.now.ready in
    parts-asked _ _ _ _ _ _ _ h.plan _ h.walked c.args.out.now.bytes.now c.args.out.now.at c.requires.0 c.requires.1 c.put_charstrings.ensures.0.wrote

pub returns : goal.returns
returns c =
    let h = c.args.c.now.ready in (
      record { wrote = glyphs-wrote _ _ _ _ _ _ _ h.plan _ h.walked c.args.out.now.bytes.now c.args.out.now.at c.requires.0 c.requires.1 c.put_charstrings.ensures.0.wrote c.put_privates.ensures.wrote; same = c.put_privates.ensures.same ∙ c.put_charstrings.ensures.0.same; size = c.put_privates.ensures.size ∙ c.put_charstrings.ensures.0.size },
      record { kept = c.put_charstrings.ensures.1; parts = refl; encoding = refl; codes = refl },
    )
