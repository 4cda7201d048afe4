-- `private_dicts::dict_len` meets its contract: its bytes are a part of the font.
use Rattle.std.proofs.Common.{List, ap, length, ℕ, ◌+◌, ◌-◌, ◌∙◌}
use Rattle.octets.specs.ListLaws.{span}
use Rattle.dict.specs.Places.{entries_of}
use Rattle.private_dicts.specs.PrivatesLaws.{part-few}
use Rattle.private_dicts.specs.Privates.{private_dict_by}
use Rattle.private_dicts.proofs.dict_len.Goals as goal

pub bytes_len-requires : goal.bytes_len-requires
bytes_len-requires c = let p = c.args.p.now in part-few p.bytes.now p.q.start (p.q.start + p.q.size - p.q.start) _ p.short

pub returns : goal.returns
returns c =
    let p = c.args.p.now in
    (c.bytes_len.ensures.0 ∙ ap (λ (d : List ℕ). length (private_dict_by (entries_of d) c.args.left)) (span p.bytes.now p.q.start p.q.size), c.bytes_len.ensures.1)
