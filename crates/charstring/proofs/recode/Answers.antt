-- `charstring::recode` meets its contract: measured first; the output and its place change only where there is room.
use Rattle.std.proofs.Common.{arith, refl}
use Rattle.charstring.specs.Token.{tokens_of, lookup}
use Rattle.charstring.specs.EncodeLaws.{recoded_cut, recoded_full, recoded_done, measured-whole}
use Rattle.charstring.proofs.recode.Goals as goal

pub returns-then-out : goal.returns-then-out
returns-then-out c = record { recodes = recoded_full _ _ _ _ _ c.measure.ensures c.in-Some.is (omega arith); same = refl; size = refl; stays = λ why e. refl }

pub returns-then-out-n : goal.returns-then-out-n
returns-then-out-n c = record { recodes = recoded_full _ _ _ _ _ c.measure.ensures c.in-Some.is (omega arith); same = refl; size = refl; stays = λ why e. refl }

pub put_body-requires : goal.put_body-requires
put_body-requires c =
    let w = measured-whole c.args.out.now.bytes.now c.args.out.now.at (tokens_of (lookup c.args.pairs.now) c.args.code.now) c.measure.result c.in-Some.n c.measure.ensures c.in-Some.is in
    (w.0, omega (arith, w.1))

pub returns-in-None : goal.returns-in-None
returns-in-None c = record { recodes = recoded_cut _ _ _ _ c.measure.ensures c.in-None.is; same = refl; size = refl; stays = λ why e. refl }

pub returns-else-out-n : goal.returns-else-out-n
returns-else-out-n c =
    let w = measured-whole c.args.out.now.bytes.now c.args.out.now.at (tokens_of (lookup c.args.pairs.now) c.args.code.now) c.measure.result c.in-Some.n c.measure.ensures c.in-Some.is in
    record { recodes = recoded_done _ _ _ _ _ w.0 (omega (arith, w.1)) c.put_body.ensures.wrote; same = c.put_body.ensures.same; size = c.put_body.ensures.size; stays = λ why e. cc }
