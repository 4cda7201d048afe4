-- `hexlines::put_spelt` meets its contract: the byte of a pair is the first of what is left.
use Rattle.std.proofs.Common.{ap, arith, length, length-append, sym, ◌+◌, ◌<◌, ◌∙◌, ◌∷◌, ◌≡◌, ◌/◌}
use Rattle.std.specs.Iterator.Adapters.{enumerate_count, enumerate_source}
use Rattle.std.specs.Slice.Iter.{chunks_exact_rest}
use Rattle.octets.specs.Octets.{put}
use Rattle.octets.specs.PutLaws.{put_cons}
use Rattle.hexlines.specs.Hexlines.{spelt}
use Rattle.hexlines.specs.HexlinesLaws.{spelt-pair, spelt-none, spelt-length, put_done}
use Rattle.hexlines.proofs.put_spelt.Goals as goal
use Rattle.hexlines.proofs.put_spelt.Goals.{In-Some}

room : (c : In-Some) → c.in-Some.i < length c.loop-i.out
room c =
    let t = c.in-Some.ensures.steps in
    let l = c.loop-i.invariant in
    omega (arith, spelt-length c.args.s.now c.requires.0, c.requires.1, t.1, l.0, l.1, t.0.1.1, ap length t.0.1.0, length-append c.in-Some.pair.now (chunks_exact_rest (enumerate_source c.next.new.self)), c.loop-i.auto.out)

pub bounds-out-i : goal.bounds-out-i
bounds-out-i c = room (goal.at.bounds-out-i c).In-Some

pub loop-i-preserved : goal.loop-i-preserved
loop-i-preserved c =
    let t = c.in-Some.ensures.steps in
    let l = c.loop-i.invariant in
    let k = c.in-Some.i in
    let rest = chunks_exact_rest (enumerate_source c.next.new.self) in
    let next : enumerate_count c.next.new.self ≡ k + 1 = t.2 ∙ ap (λ n. n + 1) (sym t.1) in
    let two : length c.in-Some.pair.now ≡ 2 = t.0.1.1 ∙ l.0 in
    let byte = ap spelt t.0.1.0 ∙ spelt-pair c.in-Some.pair.now rest two ∙ ap (λ b. b ∷ spelt rest) (sym c.octet_of.ensures) in (
      t.0.0 ∙ l.0,
      omega (arith, t.2, l.1, ap length t.0.1.0, length-append c.in-Some.pair.now rest, two),
      rw next (put_cons c.loop-i.out k _ _ (room (goal.at.loop-i-preserved c).In-Some) ∙ ap (put c.loop-i.out k) (sym byte) ∙ rw (sym t.1) at l.2),
    )

pub returns : goal.returns
returns c =
    let t = c.in-None.ensures.steps in
    let l = c.loop-i.invariant in
    let s = c.args.s.now in
    let none = spelt-none (chunks_exact_rest (enumerate_source c.loop-i.i-iterator)) (omega (arith, t.0.1.0, l.0)) in
    let even = spelt-length s c.requires.0 in
    let all : length s / 2 ≡ enumerate_count c.loop-i.i-iterator = omega (arith, even, t.0.1.0, l.0, l.1) in
    rw all (put_done _ _ 0 _ _ _ none (omega (arith, ap length none, even, t.0.1.0, l.0, l.1)) l.2)
