-- `first_glyphs::cids_found` meets its contract: a CID is its own key.
use Rattle.std.proofs.Common.{ap, rules, ◌∙◌}
use Rattle.kept.specs.Packed.{all_of, cid_found}
use Rattle.first_glyphs.specs.Flagged.{flagged_of}
use Rattle.first_glyphs.specs.LeadLaws.{mapped-self}
use Rattle.first_glyphs.proofs.cids_found.Goals as goal

pub returns : goal.returns
returns c =
    let f = c.args.flagged.now in
    c.keys_found.ensures (λ id. id) (λ id k h e. search rules)
    ∙ ap (λ l. all_of (cid_found l) (flagged_of f)) (mapped-self _)
