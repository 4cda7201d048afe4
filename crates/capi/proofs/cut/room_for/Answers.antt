-- `capi::cut::room_for` meets its contract: the test is the definition's.
use Rattle.std.proofs.Common.{le-ltb, lt-ltb}
use Rattle.capi.proofs.cut.room_for.Goals as goal

pub returns-then-words-lt2 : goal.returns-then-words-lt2
returns-then-words-lt2 c = rw (lt-ltb _ 2 c.if-words-lt2.true)

pub returns : goal.returns
returns c = rw (le-ltb _ 2 c.if-words-lt2.false)
