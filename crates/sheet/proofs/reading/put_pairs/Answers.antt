-- `reading::put_pairs` meets its contract.
use Rattle.std.proofs.Common.{[], arith, drop, length, subst, ℕ, ◌*◌, ◌++◌, ◌+◌, ◌/◌, ◌∷◌, ◌≡◌}
use Rattle.octets.specs.Octets.{Wrote}
use Rattle.cases.specs.Writing.{writing_start, writing-turn, writing_end}
use Rattle.sheet.specs.Sheet.{pairs}
use Rattle.sheet.specs.ReadingLaws.{pairs_next, pairs_done, pairs-length, wrote_one}
use Rattle.sheet.proofs.reading.put_pairs.Goals as goal

pub loop-p-init : goal.loop-p-init
loop-p-init c = writing_start _ _ _

pub loop-p-preserved : goal.loop-p-preserved
loop-p-preserved c =
    let l = c.loop-p in
    let s = c.args.bytes.now in
    let v = c.u16_at.result in
    let e : 2 * l.p + 2 ≡ 2 * (l.p + 1) = omega arith in
    let n = subst (λ (j : ℕ). pairs (drop (2 * l.p) s) ≡ (v ∷ []) ++ pairs (drop j s)) e (pairs_next s (2 * l.p) v (omega arith) c.u16_at.ensures.0) in
    writing-turn l.invariant (v ∷ []) _ n (omega (arith, pairs-length s, c.requires)) _ _ (wrote_one _ l.p v (omega arith))

pub returns : goal.returns
returns c =
    let l = c.loop-p in
    let e : l.p ≡ length c.args.bytes.now / 2 = omega arith in
    subst (λ (k : ℕ). Wrote c.args.keep.now 0 (pairs c.args.bytes.now) l.keep k) e (writing_end l.invariant (pairs_done c.args.bytes.now (2 * l.p) (omega arith)))
