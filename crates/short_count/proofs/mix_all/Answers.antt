-- `short_count::mix_all` meets its contract: the fold mixes byte by byte.
use Rattle.std.proofs.Common.{List, [], refl, rules, ℕ, ◌∙◌, ◌∷◌, ◌≡◌}
use Rattle.std.specs.List.{fold}
use Rattle.short_count.specs.Count.{fnv, fnv_over}
use Rattle.short_count.proofs.mix_all.Goals as goal

folded : (s : List ℕ) (h : ℕ) → fold fnv h s ≡ fnv_over h s
unfolding fnv_over
folded [] h = refl
folded (b ∷ bs) h = folded bs (fnv h b)

pub returns : goal.returns
returns c = let e : c.fold.result ≡ fold fnv c.args.hash c.args.code.now = search rules in e ∙ folded c.args.code.now c.args.hash
