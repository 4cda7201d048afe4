-- `octets::put_bytes` meets its contract.
use Rattle.std.proofs.Common.{ap, arith, get_or, length, length-set, refl, set, sym, ◌+◌, ◌<◌, ◌∙◌}
use Rattle.octets.specs.PutLaws.{put_nil, put_next, put_all}
use Rattle.octets.proofs.put_bytes.Goals as goal

pub loop-i-init : goal.loop-i-init
loop-i-init c = (refl, sym (put_nil _ _))

pub loop-i-preserved : goal.loop-i-preserved
loop-i-preserved c =
    let a = c.args in
    let l = c.loop-i in
    let r : a.at + l.i < length a.out.now = omega arith in
    let m : l.i < length a.src.now = omega arith in
    (simp length-set l.invariant.0, ap (λ o. set o (a.at + l.i) (get_or a.src.now l.i 0)) l.invariant.1 ∙ put_next a.out.now a.at a.src.now l.i r m)

pub returns : goal.returns
returns c =
    let a = c.args in
    let l = c.loop-i in
    record { is = l.invariant.1 ∙ put_all a.out.now a.at a.src.now l.i (omega arith); behind = refl }
