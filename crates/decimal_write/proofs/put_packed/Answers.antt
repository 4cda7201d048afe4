-- `decimal_write::put_packed` meets its contract.
use Rattle.std.proofs.Common.{arith, get_or, length, length-take, length-drop, take, take_all, drop-drop, refl, sym, List, ℕ, ◌+◌, ◌-◌, ◌<◌, ◌≤◌, ◌≡◌, ◌∙◌}
use Rattle.std.proofs.Math.ListN.{set}
use Rattle.std.proofs.lemmas.List.{take_more, take_more_set}
use Rattle.octets.specs.Octets.{put, Wrote}
use Rattle.octets.specs.PutLaws.{wrote-length}
use Rattle.decimal.specs.Written.{real_text, packed}
use Rattle.decimal_write.specs.TextLaws.{packed-at}
use Rattle.decimal_write.proofs.put_packed.Goals as goal

next : (t xs : List ℕ) (i v : ℕ) → take i xs ≡ take i t → i < length xs → i < length t → v ≡ get_or t i 0 → take (i + 1) (set xs i v) ≡ take (i + 1) t
next t xs i v e h k q = take_more_set xs i v h ∙ rw (e, q) (sym (take_more t i 0 k))

all : (t xs : List ℕ) (i : ℕ) → take i xs ≡ take i t → length xs ≡ length t → length t ≤ i → xs ≡ t
all t xs i e h k = sym (take_all i xs (omega arith)) ∙ (e ∙ take_all i t k)

pub loop-i-preserved : goal.loop-i-preserved
loop-i-preserved c =
    let l = c.loop-i in
    let t = real_text c.text_of-t.result.value in
    let k : l.i < length (packed t) = rw c.text_of-t.ensures (omega (arith, length-take {A = ℕ}, length-drop {A = ℕ}, c.requires.0)) in
    next (packed t) l.b-items l.i _ l.invariant (omega arith) k (omega (arith, packed-at t l.i k))

pub returns : goal.returns
unfolding put
returns c =
    let a = c.args in
    let l = c.loop-i in
    let m : length l.b-items ≡ length (packed (real_text a.d)) = omega (arith, length-take {A = ℕ}, length-drop {A = ℕ}, c.requires.0) in
    let w : l.b-items ≡ packed (real_text a.d) = all (packed (real_text a.d)) l.b-items l.i (rw c.text_of-t.ensures at l.invariant) m (omega arith) in
    let e : a.out.now.at + a.n - a.out.now.at ≡ length (packed (real_text a.d)) = omega (arith, c.requires.0) in
    let v : Wrote a.out.now.bytes.now a.out.now.at (packed (real_text a.d)) _ (a.out.now.at + a.n) = record { is = rw (w, e, drop-drop) refl; behind = omega (arith, c.requires.0) } in
    record { wrote = v; same = refl; size = wrote-length v (omega (arith, c.requires)) }
