-- `type2_number::sixteen` meets its contract: two bytes as an unsigned number, less 65536 from 32768 on.
use Rattle.std.proofs.Common.{Bool, ap, arith, le-ltb, lt-ltb, sym, ℕ, ◌*◌, ◌+◌, ◌<◌, ◌∙◌, ◌≡◌, ◌≤◌}
use Rattle.octets.specs.Pick.{pick}
use Rattle.type2_number.specs.Number.{whole, rounded}
use Rattle.type2_number.proofs.sixteen.Goals as goal

pub returns-then-n-lt32768 : goal.returns-then-n-lt32768
returns-then-n-lt32768 c =
    let a = c.args in
    let n : ℕ = a.a * 256 + a.b in
    let e : c.from.result * 256 + c.from-2.result ≡ n = omega arith in
    let t : n < 32768 = omega arith in
    c.whole.ensures ∙ ap (λ (z : ℕ). rounded (whole z 0)) e ∙ ap (λ (b : Bool). rounded (whole n (pick b 0 65536))) (sym (lt-ltb n 32768 t))

pub returns-else-n-lt32768 : goal.returns-else-n-lt32768
returns-else-n-lt32768 c =
    let a = c.args in
    let n : ℕ = a.a * 256 + a.b in
    let e : c.from.result * 256 + c.from-2.result ≡ n = omega arith in
    let t : 32768 ≤ n = omega arith in
    c.whole-else-n-lt32768.ensures ∙ ap (λ (z : ℕ). rounded (whole z 65536)) e ∙ ap (λ (b : Bool). rounded (whole n (pick b 0 65536))) (sym (le-ltb n 32768 t))
