-- An encoding that passed its checks lies within the font: the places that filling a table of codes reads.
use Rattle.std.specs.Prelude.{ℕ, suc, ◌+◌, ◌*◌, ◌/◌, ◌%◌, ◌≤◌, ◌<◌, ◌≡◌, refl, List, length, drop, get_or, Result, Ok}
use Rattle.std.proofs.Common.{sym, ap, ◌∙◌, lt_of_not-le, arith}
use Rattle.refusal.specs.declared.Refusal.{Refusal}
use Rattle.charset.specs.Encoding.{entries, supplements, encoding_at}
use Rattle.charset.specs.EncodingLaws.{no_count, entries_lost, entries-behind, encoding_lost, encoding_unknown, encoding-codes, some-supplements}

-- the place behind the codes or ranges
abbrev pub supplements_at : List ℕ → ℕ → ℕ
supplements_at b at = at + 2 + get_or b (at + 1) 0 * (get_or b at 0 % 128 + 1)

pub record GoodEncoding (b : List ℕ) (at : ℕ) : Type 0 where
  pub begun : at + 2 ≤ length b
  pub kind : get_or b at 0 % 128 ≤ 1
  pub codes : supplements_at b at ≤ length b
  pub supplied : (get_or b at 0 / 128 ≡ 0 → ⊥) → supplements_at b at + 1 + get_or b (supplements_at b at) 0 * 3 ≤ length b
  pub counted : (get_or b at 0 / 128 ≡ 0 → ⊥) → supplements_at b at < length b

-- a count and its entries that passed
module _ (b : List ℕ) (p size : ℕ) (rest : List ℕ → Result Unit Refusal) (e : entries size (drop p b) rest ≡ Ok tt) where
  count_there : p < length b
  count_there = lt_of_not-le (λ (h : length b ≤ p). let z = no_count b p size rest h ∙ e in cc)

  entries_there : p + 1 + get_or b p 0 * size ≤ length b
  entries_there =
      let l : length b < suc (length b) = omega arith in
      let k : p + 1 + get_or b p 0 * size < suc (length b) =
      lt_of_not-le (λ (h : suc (length b) ≤ p + 1 + get_or b p 0 * size). let z = entries_lost b p size (get_or b p 0) rest count_there refl h ∙ e in cc) in
      omega arith

  rest-passed : rest (drop (p + 1 + get_or b p 0 * size) b) ≡ Ok tt
  rest-passed = entries-behind b p size (get_or b p 0) rest count_there refl entries_there ∙ e

module _ (b : List ℕ) (at : ℕ) (e : encoding_at b at ≡ Ok tt) where
  there : at < length b
  there = lt_of_not-le (λ (h : length b ≤ at). let z = encoding_lost b at h ∙ e in cc)

  abbrev format : ℕ
  format = get_or b at 0

  known : format % 128 ≤ 1
  known =
      let k : format % 128 < 2 = lt_of_not-le (λ (h : 2 ≤ format % 128). let z = encoding_unknown b at format there refl h ∙ e in cc) in
      omega arith

  passed : entries (format % 128 + 1) (drop (at + 1) b) (supplements format) ≡ Ok tt
  passed = encoding-codes b at format there refl known ∙ e

  behind : at + 1 + 1 + get_or b (at + 1) 0 * (format % 128 + 1) ≡ supplements_at b at
  behind = omega arith

  more : (format / 128 ≡ 0 → ⊥) → entries 3 (drop (supplements_at b at) b) (λ end. Ok tt) ≡ Ok tt
  more h =
      some-supplements format (drop (supplements_at b at) b) h
      ∙ ap (λ (p : ℕ). supplements format (drop p b)) (sym behind)
      ∙ rest-passed b (at + 1) (format % 128 + 1) (supplements format) passed

  pub encoding-good : GoodEncoding b at
  encoding-good =
      record {
        begun = let c = count_there b (at + 1) (format % 128 + 1) (supplements format) passed in omega arith;
        kind = known;
        codes = let c = entries_there b (at + 1) (format % 128 + 1) (supplements format) passed in omega arith;
        supplied = λ h. entries_there b (supplements_at b at) 3 (λ end. Ok tt) (more h);
        counted = λ h. count_there b (supplements_at b at) 3 (λ end. Ok tt) (more h);
      }
