-- `dict::read_private` meets its contract: a DICT that is not refused has its entries.
use Rattle.std.specs.Prelude.{◌≡◌}
use Rattle.refusal.specs.HandedOn.{handed_on}
use Rattle.dict.specs.Dict.{dict_of}
use Rattle.dict.specs.Held.{private_read}
use Rattle.dict.proofs.LookupLaws.{private_unread, private_told}
use Rattle.dict.proofs.read_private.Goals as goal

pub returns-in_err-found : goal.returns-in_err-found
returns-in_err-found c = handed_on _ _ (λ q. q ≡ private_read (dict_of c.args.d.now)) c.from_residual.ensures.1 (private_unread _ _ c.in_err-found.ensures)

pub returns : goal.returns
returns c = private_told _ c.in_ok-found.ensures.0 _ c.private_found.ensures
