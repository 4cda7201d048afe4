-- `top_dict::top_len` meets its contract: what stands before the offsets was counted; the lengths of those are fixed.
use Rattle.std.proofs.Common.{arith}
use Rattle.dict.specs.Held.{entries}
use Rattle.top_dict.specs.TopLaws.{cid_sum, named-sum, carried-short, front-short}
use Rattle.top_dict.proofs.top_len.Goals as goal

pub cid_front-requires : goal.cid_front-requires
cid_front-requires c = let t = c.args.top.now in omega (arith, front-short t)

pub carried-requires : goal.carried-requires
carried-requires c = let t = c.args.top.now in omega (arith, carried-short t)

pub returns-then-cid : goal.returns-then-cid
returns-then-cid c = let t = c.args.top.now in (cid_sum (entries t.dict) t.slots.now _ c.args.v c.if-cid.true _ (omega (arith, c.cid_front.ensures.more)), omega (arith, c.cid_front.ensures.more, front-short t))

pub returns : goal.returns
returns c = let t = c.args.top.now in (named-sum (entries t.dict) t.slots.now _ c.args.v c.if-cid.false _ _ (omega (arith, c.carried.ensures.more)) c.encoding_len.ensures.0, omega (arith, c.carried.ensures.more, carried-short t, c.encoding_len.ensures.1))

pub overflow_add-result : goal.overflow_add-result
overflow_add-result c = omega (arith, c.cid_front.ensures.more, front-short c.args.top.now)

pub overflow_add-result-2 : goal.overflow_add-result-2
overflow_add-result-2 c = omega (arith, c.carried.ensures.more, carried-short c.args.top.now)

pub overflow_add-result-3 : goal.overflow_add-result-3
overflow_add-result-3 c = omega (arith, c.carried.ensures.more, c.encoding_len.ensures.1, carried-short c.args.top.now)
