-- `pair_count` meets its contract: each place that has an id has one pair.
use Rattle.std.proofs.Common.{List, arith, ap, cond, drop, drop-cons, get_or, length, length-append, refl, rules, suc, sym, take, zero, Option, Some, None, ℕ, ◌+◌, ◌∷◌, ◌≡◌, ◌≤◌, ◌∙◌}
use Rattle.std.proofs.Math.Seq.{take_all}
use Rattle.std.specs.List.{count_by}
use Rattle.std.specs.Option.{is_some}
use Rattle.std.proofs.lemmas.List.Sums.{count_by-le-length, sum_by-cons}
use Rattle.encoding.specs.Encoded.{pair_in, pairs_in}
use Rattle.encoding.proofs.pair_count.Goals as goal

one : (c : ℕ) (held : Option ℕ) → length (pair_in c held) ≡ cond (is_some held) 1 0
one c None = refl
one c (Some id) = refl

counted : (table : List (Option ℕ)) (m c : ℕ) → c + m ≤ length table → length (pairs_in table m c) ≡ count_by is_some (take m (drop c table))
unfolding pairs_in
counted table zero c h = refl
counted table (suc m) c h =
    let x = get_or table c None in
    let s : suc c ≡ c + 1 = omega arith in
    let t : take (suc m) (drop c table) ≡ x ∷ take m (drop (c + 1) table) =
    ap (take (suc m)) (drop-cons table c None (omega arith)) ∙ ap (λ (k : ℕ). x ∷ take m (drop k table)) s in
    let d : count_by is_some (x ∷ take m (drop (c + 1) table)) ≡ cond (is_some x) 1 0 + count_by is_some (take m (drop (c + 1) table)) =
    sum_by-cons (λ (y : Option ℕ). cond (is_some y) 1 0) x (take m (drop (c + 1) table)) in
    length-append (pair_in c x) (pairs_in table m (c + 1)) ∙ rw (one c x, counted table m (c + 1) (omega arith)) (sym (ap (count_by is_some) t ∙ d))

pub returns : goal.returns
returns c =
    let xs = c.args.table.now in
    let n : length xs ≡ 256 = search rules in
    let e : c.count.result ≡ count_by is_some xs = search rules in
    let all : take 256 xs ≡ xs = take_all 256 xs (omega arith) in
    (e ∙ ap (count_by is_some) (sym all) ∙ sym (counted xs 256 0 (omega arith)), omega (arith, e, count_by-le-length is_some xs))
