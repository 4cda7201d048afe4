-- `left::words_left` meets its contract.
use Rattle.std.proofs.Common.{List, arith, drop, eqb, get_or, length, ltb, refl, rules, sym, zero, suc, ℕ, ◌+◌, ◌-◌, ◌∙◌, ◌≡◌}
use Rattle.std.proofs.lemmas.Iterator.{YieldsList-from_range}
use Rattle.std.proofs.lemmas.Iterator.Search.{all_from_yields_List}
use Rattle.std.specs.List.{list_all, range_with_len}
use borrow.Author.Tests.{tests}
use Rattle.octets.specs.Pick.{pick}
use Rattle.subset_cases.specs.Left.{lent_word, words_left_lem}
use Rattle.subset_cases.specs.LeftLaws.{both, words_end, words_at}
use Rattle.subset_cases.proofs.left.words_left.Goals as goal

told : (k : ℕ) (work : List ℕ) (m i : ℕ) → i + m ≡ length work
    → list_all (λ j. eqb (get_or work j 0) (pick (ltb j k) 0 lent_word)) (range_with_len i m) ≡ words_left_lem i k (drop i work)
told k work zero i e = sym (words_end k work i (omega arith))
told k work (suc m) i e =
    both (eqb (get_or work i 0) (pick (ltb i k) 0 lent_word)) _ _ (told k work m (i + 1) (omega arith)) ∙ sym (words_at k work i (omega arith))

pub returns : goal.returns
returns c =
    let work = c.args.work.now in
    let n = length work in
    all_from_yields_List (λ j. eqb (get_or work j 0) (pick (ltb j c.args.k) 0 lent_word)) _ _ c.all.result c.all.ensures.ran (YieldsList-from_range 0 n (n - 0) refl refl) (λ i r q k. search (rules, tests))
    ∙ told c.args.k work (n - 0) 0 (omega arith)
