-- `private_dicts::put_dict` meets its contract: its bytes are a part of the font.
use Rattle.std.proofs.Common.{List, ap, ℕ}
use Rattle.octets.specs.PutLaws.{wrote_as}
use Rattle.dict.specs.Places.{entries_of}
use Rattle.private_dicts.specs.PrivatesLaws.{part-asked}
use Rattle.private_dicts.specs.Privates.{private_dict_by}
use Rattle.octets.specs.ListLaws.{span}
use Rattle.private_dicts.proofs.put_dict.Goals as goal

pub put_bytes-requires : goal.put_bytes-requires
put_bytes-requires c = let p = c.args.p.now in part-asked p.bytes.now p.q.start p.q.size _ _ _ c.requires.0 c.requires.1

pub returns : goal.returns
returns c = record { wrote = let p = c.args.p.now in wrote_as c.put_bytes.ensures.wrote (ap (λ (d : List ℕ). private_dict_by (entries_of d) c.args.left) (span p.bytes.now p.q.start p.q.size)); same = c.put_bytes.ensures.same; size = c.put_bytes.ensures.size }
