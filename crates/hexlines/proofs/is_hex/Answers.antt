-- `hexlines::is_hex` meets its contract.
use Rattle.std.specs.Prelude.{ℕ, List, [], ◌∷◌, ◌%◌, length, Bool, true, false, ◌&&◌, ◌≡◌, refl}
use Rattle.std.specs.List.{list_all}
use Rattle.std.specs.Option.{is_some}
use Rattle.std.proofs.Common.{ap, arith, rules, sym, ◌∙◌}
use Rattle.std.proofs.lemmas.Iterator.{YieldsList-from_slice}
use Rattle.std.proofs.lemmas.Iterator.Search.{all_from_yields_List}
use borrow.Author.Tests.{ne_eqb, tests}
use Rattle.octets.specs.Pick.{pick}
use Rattle.octets.specs.PickLaws.{pick_same}
use Rattle.hexlines.specs.Hexlines.{hex_value_lem, is_hex_lem}
use Rattle.hexlines.proofs.is_hex.Goals as goal

-- an even number of digits, and each is one
both : (t u v : Bool) → (t && (u && v)) ≡ pick t (pick u v false) false
both true true v = refl
both true false v = refl
both false u v = refl

digits : (text : List ℕ) → length text % 2 ≡ 0 → list_all (λ x. is_some (hex_value_lem x)) text ≡ is_hex_lem text
unfolding is_hex_lem
digits [] e = refl
digits (x ∷ []) e = absurd (omega arith)
digits (x ∷ (y ∷ text)) e =
    both (is_some (hex_value_lem x)) (is_some (hex_value_lem y)) (list_all (λ z. is_some (hex_value_lem z)) text)
    ∙ ap (λ t. pick (is_some (hex_value_lem x)) (pick (is_some (hex_value_lem y)) t false) false) (digits text (omega arith))

odd : (text : List ℕ) → (length text % 2 ≡ 0 → ⊥) → is_hex_lem text ≡ false
unfolding is_hex_lem
odd [] n = absurd (n refl)
odd (x ∷ []) n = refl
odd (x ∷ (y ∷ text)) n =
    simp (odd text (λ e. n (omega arith)), pick_same (is_some (hex_value_lem y)) false, pick_same (is_some (hex_value_lem x)) false)

pub returns-then-s-eq0 : goal.returns-then-s-eq0
returns-then-s-eq0 c =
    all_from_yields_List (λ x. is_some (hex_value_lem x)) _ _ _ c.all.ensures.ran (YieldsList-from_slice c.args.s.now c.iter.ensures.rest) (λ x b q k. search (rules, tests))
    ∙ digits c.args.s.now (omega arith)

pub returns-else-s-eq0 : goal.returns-else-s-eq0
returns-else-s-eq0 c = ne_eqb _ _ c.if-s-eq0.false ∙ sym (odd c.args.s.now (omega arith))
