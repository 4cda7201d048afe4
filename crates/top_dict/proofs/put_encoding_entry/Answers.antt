-- `top_dict::put_encoding_entry` meets its contract: nothing for offset 0, else the entry.
use Rattle.std.proofs.Common.{List, length, refl, subst, sym, ℕ, ◌+◌, ◌≤◌}
use Rattle.octets.specs.OutLaws.{writes_as}
use Rattle.top_dict.specs.TopLaws.{encoding_there, encoding-wrote}
use Rattle.top_dict.proofs.put_encoding_entry.Goals as goal

pub returns-then-v-eq0 : goal.returns-then-v-eq0
returns-then-v-eq0 c = record { wrote = encoding-wrote c.args.v c.if-v-eq0.true c.args.out.now.bytes.now c.args.out.now.at; same = refl; size = refl }

pub put_offset_entry-requires : goal.put_offset_entry-requires
put_offset_entry-requires c = (refl, c.requires.0, subst (λ (l : List ℕ). c.args.out.now.at + length l ≤ length c.args.out.now.bytes.now) (sym (encoding_there c.args.v c.if-v-eq0.false).0) c.requires.1)

pub returns : goal.returns
returns c = writes_as c.put_offset_entry.ensures (encoding_there c.args.v c.if-v-eq0.false).0
