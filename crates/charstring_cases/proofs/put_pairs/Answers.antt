-- `put_pairs` meets its contract.
use Rattle.std.proofs.Common.{ap, arith, length, subst, sym, ℕ, ◌*◌, ◌+◌, ◌-◌, ◌/◌, ◌<◌, ◌∙◌, ◌∷◌, ◌≡◌}
use Rattle.octets.specs.Octets.{put, Wrote}
use Rattle.octets.specs.PutLaws.{put_cons}
use Rattle.hexlines.specs.HexlinesLaws.{put_done}
use Rattle.charstring_cases.specs.Streams.{pairs_at}
use Rattle.charstring_cases.specs.AnswersLaws.{pairs_left, pairs_next, pairs-none, pairs-length}
use Rattle.charstring_cases.proofs.put_pairs.Goals as goal

pub loop-i-init : goal.loop-i-init
loop-i-init c =
    let b = c.args.bytes.now in
    let e : length b / 2 - 0 ≡ length b / 2 = omega arith in
    ap (λ (k : ℕ). put c.args.pairs.now 0 (pairs_at b 0 k)) e

pub loop-i-preserved : goal.loop-i-preserved
loop-i-preserved c =
    let b = c.args.bytes.now in
    let n = length b / 2 in
    let l = c.loop-i in
    let h : l.i < length l.pairs = omega arith in
    let e = pairs_next b n l.i (omega arith) in
    put_cons l.pairs l.i _ _ h ∙ ap (λ (x : ℕ). put l.pairs l.i (x ∷ pairs_left b n (l.i + 1))) c.u16_at.ensures.0 ∙ ap (put l.pairs l.i) (sym e) ∙ l.invariant

pub returns : goal.returns
returns c =
    let b = c.args.bytes.now in
    let n = length b / 2 in
    let l = c.loop-i in
    let e : l.i ≡ n = omega arith in
    subst (λ (k : ℕ). Wrote c.args.pairs.now 0 (pairs_at b 0 n) l.pairs k) e
    (put_done _ _ _ _ _ _ (pairs-none b n l.i e) (omega (arith, pairs-length b (2 * l.i) (n - l.i), pairs-length b 0 n)) l.invariant)
