-- `octets::put_num` meets its contract.
use Rattle.std.proofs.Common.{ap, arith, sym, ℕ, ◌+◌, ◌∙◌, ◌≡◌}
use Rattle.octets.specs.Octets.{put, bytes_of}
use Rattle.octets.specs.PutLaws.{put_nil, put-digit}
use Rattle.octets.specs.OctetsLaws.{length-bytes}
use Rattle.octets.proofs.put_num.Goals as goal

pub loop-i-preserved : goal.loop-i-preserved
loop-i-preserved c =
    let a = c.args in
    let l = c.loop-i in
    put-digit l.out a.at l.i l.v c.loop-i-test.true (omega arith) ∙ l.invariant

pub returns : goal.returns
unfolding bytes_of
returns c =
    let a = c.args in
    let l = c.loop-i in
    let e : l.i ≡ 0 = omega arith in
    record {
      is = sym (put_nil l.out a.at) ∙ ap (λ (k : ℕ). put l.out a.at (bytes_of k l.v)) (sym e) ∙ l.invariant;
      behind = ap (λ (k : ℕ). a.at + k) (sym (length-bytes a.size a.value));
    }
