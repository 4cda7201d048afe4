-- `found::words_end` meets its contract.
use Rattle.std.proofs.Common.{List, ap, arith, eqb, false, get_or, length, length-take-le, rules, sym, take, ℕ, ◌*◌, ◌+◌, ◌/◌, ◌%◌, ◌^◌, ◌<◌, ◌∙◌, ◌≡◌, ◌≤◌}
use Rattle.std.proofs.lemmas.List.{get_or-take}
use Rattle.std.proofs.Math.Nat.{zero-div}
use Rattle.bits.specs.Bits.{bit_in, words_for}
use Rattle.found.specs.Flags.{Unset}
use Rattle.found.proofs.words_end.Goals as goal

-- a word that is 0 has no flag
zero-word : (flags : List ℕ) (i : ℕ) → get_or flags (i / 32) 0 ≡ 0 → bit_in flags 0 i ≡ false
zero-word flags i z =
    let e : 0 + i / 32 ≡ i / 32 = omega arith in
    ap (λ (j : ℕ). eqb (get_or flags j 0 / 2 ^ (i % 32) % 2) 1) e ∙ ap (λ (x : ℕ). eqb (x / 2 ^ (i % 32) % 2) 1) z ∙ ap (λ (x : ℕ). eqb (x % 2) 1) (zero-div (2 ^ (i % 32)))

-- the words from one on are 0
behind : (flags : List ℕ) (n words from : ℕ) → words ≡ words_for n → words ≤ length flags
    → ((k : ℕ) → from ≤ k → k < length (take words flags) → get_or (take words flags) k 0 ≡ 0) → Unset flags (32 * from) n
behind flags n words from e h f =
    record {
      none = λ i a b.
          let k : i / 32 < words = omega (arith, e) in
          zero-word flags i (sym (get_or-take words flags (i / 32) 0 k) ∙ f (i / 32) (omega arith) (omega (arith, length-take-le words flags h)));
    }

pub returns-in-Some : goal.returns-in-Some
returns-in-Some c =
    let b = behind c.args.flagged.now.flags.now c.args.flagged.now.glyphs.n _ (c.in-Some.q + 1) c.words_for-words.ensures.0 (omega (arith, c.words_for-words.ensures.0, c.args.flagged.now.enough)) (search rules) in
    (omega (arith, c.min.ensures), record { none = λ i l m. b.none i (omega (arith, c.min.ensures)) m })

pub returns-in-None : goal.returns-in-None
returns-in-None c =
    (omega arith, behind c.args.flagged.now.flags.now c.args.flagged.now.glyphs.n _ 0 c.words_for-words.ensures.0 (omega (arith, c.words_for-words.ensures.0, c.args.flagged.now.enough)) (search rules))
