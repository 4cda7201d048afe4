-- The numbers by the bits in the work words are those of crates/subset: renumbering by the words is renumbering by the record.
use Rattle.std.specs.Prelude.{ℕ, ◌+◌, ◌≤◌, ◌<◌, ◌≡◌, Bool, true, false, ltb, eqb, ℤ, length, take, drop, None, Option, Some}
use Rattle.std.proofs.Math.Path.{refl, ap}
use Rattle.std.proofs.Common.{sym, ◌∙◌, arith, ltb-true, ltb-false, le-ltb}
use mathlib.Core.List.{List, [], ◌∷◌}
use Rattle.std.proofs.Math.Decide.{dec_le}
use Rattle.octets.specs.Pick.{pick}
use Rattle.charstring.specs.declared.MaskLen.{MaskLen}
use Rattle.charstring.specs.Token.{Tok, num, op, esc, mask, tokens_of}
use Rattle.charstring.specs.Bias.{bias_of, numbered}
use Rattle.unfold.specs.Unfold.{Row, Site}
use Rattle.record.specs.Record.{given_in, two_lengths_lem}
use Rattle.prune.specs.Renumber.{operand_of, Calls, is_call, before, called, called_after, kept, renumber, renumber_charstring}
use Rattle.prune.specs.RenumberSteps.{new_of, operand_for, written_back, renumbered_tokens}
use Rattle.cff.specs.Font.{Program}
use Rattle.subset.specs.Kept.{locals_of}
use Rattle.bits.specs.Bits.{count_below, words_for, bit_in, below, bits_of, low_sums, high_sums}
use Rattle.bits.specs.BitsLaws.{count-alike}
use Rattle.bits.specs.WordsLaws.{bit-told}
use Rattle.bits.specs.SumsLaws.{below_alike, low_alike, high-alike}
use Rattle.subset.specs.Pruned.{rank, reached, local_set, global_set, renumbered_body, calls_in, calls_across}
use Rattle.subset.specs.RankLaws.{count-few}
use Rattle.reach.specs.CountLaws.{count-more}
use Rattle.reach.specs.WordLaws.{number_is}
use Rattle.renumber.specs.Ranks.{numbers_in, calls_by, Ranked}
use Rattle.renumber.specs.declared.Ranks.{Ranks}

-- ---- how many of a set are below a number

-- where no more are below m than below n, none is from n on
none_between : (set : ℕ → Bool) (n m i : ℕ) → count_below set m ≡ count_below set n → n ≤ i → i < m → set i ≡ false
none_between set n m i e h k = go (set i) refl
  where
    go : (t : Bool) → set i ≡ t → set i ≡ false
    go false f = f
    go true f = let a = count-more set n i m h k f in absurd (let y : ⊥ = omega arith in y)

-- ---- the words hold the bits of a set, which has no other number
pub record HoldsRanks (ws : List ℕ) (q : Ranks) (set : ℕ → Bool) : Type 0 where
  pub inside : q.at + words_for q.count ≤ length ws
  pub few : q.count < 65536
  pub words : take (words_for q.count) (drop q.at ws) ≡ bits_of set q.count
  pub reaches : q.reached ≡ count_below set q.count
  pub low : q.low ≡ low_sums set q.count
  pub high : q.high ≡ high_sums set q.count
  pub all : reached set ≡ count_below set q.count
  pub narrow : (i : ℕ) → 65536 ≤ i → set i ≡ false

-- a set's counts are those of its bits
pub ranked-words : (ws : List ℕ) (q : Ranks) (set : ℕ → Bool) → q.at + words_for q.count ≤ length ws → q.count < 65536
    → take (words_for q.count) (drop q.at ws) ≡ bits_of set q.count
    → q.reached ≡ count_below set q.count → q.low ≡ low_sums set q.count → q.high ≡ high_sums set q.count → Ranked ws q
ranked-words ws q set inside few words reaches low high =
    let bits : (i : ℕ) → i < q.count → set i ≡ bit_in ws q.at i = λ i k. sym (bit-told ws q.at q.count set words i k) in
    let same : below set q.count ≡ below (bit_in ws q.at) q.count = below_alike set (bit_in ws q.at) q.count bits in
    record {
      inside = inside;
      few = few;
      few_reached = omega (arith, count-few set q.count);
      reaches = reaches ∙ count-alike set (bit_in ws q.at) q.count bits;
      low = low ∙ low_alike set (bit_in ws q.at) q.count same;
      high = high ∙ high-alike set (bit_in ws q.at) q.count same;
    }

module _ (ws : List ℕ) (q : Ranks) (set : ℕ → Bool) (h : HoldsRanks ws q set) where
  -- no number from the count on is in the set
  pub past_unreached : (i : ℕ) → q.count ≤ i → set i ≡ false
  past_unreached i k = go (dec_le 65536 i)
    where
      go : Dec (65536 ≤ i) → set i ≡ false
      go (yes p) = h.narrow i p
      go (no p) = none_between set q.count 65536 i h.all k (omega arith)

  -- the new numbers by the words are those by the set
  pub numbers-rank : (i : ℕ) → numbers_in ws q i ≡ rank set i
  numbers-rank i = go (ltb i q.count) refl
    where
      go : (t : Bool) → ltb i q.count ≡ t → numbers_in ws q i ≡ rank set i
      go true e = number_is ws q.at q.count set h.words i (ltb-true i q.count e)
      go false e = rw (e, past_unreached i (ltb-false i q.count e))

  -- the words are ranks as the code asks for them
  pub ranked-of : Ranked ws q
  ranked-of = ranked-words ws q set h.inside h.few h.words h.reaches h.low h.high

  reached_is : q.reached ≡ reached set
  reached_is = h.reaches ∙ sym h.all

  -- an operand by the words, and by the set
  operand_rank : (count : ℕ) → q.count ≡ count → (z : ℤ)
      → operand_of (numbers_in ws q) (bias_of q.count) (bias_of q.reached) z ≡ operand_of (rank set) (bias_of count) (bias_of (reached set)) z
  operand_rank count e z =
      let f : bias_of q.reached ≡ bias_of (reached set) = ap bias_of reached_is in
      let g : bias_of q.count ≡ bias_of count = ap bias_of e in
      ap (operand_for (bias_of q.reached)) (go (numbered (bias_of q.count) z))
      ∙ ap (λ (b : ℕ). operand_for b (new_of (rank set) (numbered (bias_of q.count) z))) f
      ∙ ap (λ (b : ℕ). operand_for (bias_of (reached set)) (new_of (rank set) (numbered b z))) g
    where
      go : (o : Option ℕ) → new_of (numbers_in ws q) o ≡ new_of (rank set) o
      go None = refl
      go (Some i) = numbers-rank i

-- ---- calls that become alike renumber alike

module _ (calls calls' : Calls) (same : (b : ℕ) (z : ℤ) → calls b z ≡ calls' b z) where
  called-alike : (b : ℕ) (w : Option ℤ) (r : Option (List Tok)) → called_after calls b w r ≡ called_after calls' b w r
  called-alike b None r = refl
  called-alike b (Some z) r = ap (λ (o : Option ℤ). called b o r) (same b z)

  renumber-alike : (w : Option ℤ) (ts : List Tok) → renumber calls w ts ≡ renumber calls' w ts
  unfolding renumber
  renumber-alike w [] = refl
  renumber-alike w (num z ∷ ts) = ap (kept w) (renumber-alike (Some z) ts)
  renumber-alike w (op b ∷ ts) =
      ap (λ (r : Option (List Tok)). pick (is_call b) (called_after calls b w r) (kept w (before (op b) r))) (renumber-alike None ts)
      ∙ ap (λ (r : Option (List Tok)). pick (is_call b) r (kept w (before (op b) (renumber calls' None ts)))) (called-alike b w (renumber calls' None ts))
  renumber-alike w (esc b ∷ ts) = ap (λ (r : Option (List Tok)). kept w (before (esc b) r)) (renumber-alike None ts)
  renumber-alike w (mask bs ∷ ts) = ap (λ (r : Option (List Tok)). kept w (before (mask bs) r)) (renumber-alike None ts)

  pub charstring_alike : (given : ℕ → MaskLen) (code : List ℕ) → renumber_charstring calls given code ≡ renumber_charstring calls' given code
  unfolding renumber_charstring
  charstring_alike given code = go (tokens_of given code)
    where
      go : (x : Option (List Tok)) → renumbered_tokens calls x ≡ renumbered_tokens calls' x
      go None = refl
      go (Some ts) = ap written_back (renumber-alike None ts)

  pub body_alike : (rows : List Row) (site : Site) (s : List ℕ) → renumbered_body rows calls site s ≡ renumbered_body rows calls' site s
  unfolding renumbered_body
  body_alike rows site s = ap (λ (x : Option (List ℕ)). pick (two_lengths_lem rows site) None x) (charstring_alike (given_in rows site) s)

-- ---- a font's calls

module _ (p : Program) (rows : List Row) (ws : List ℕ) (locals globals : Ranks) (g : HoldsRanks ws globals (global_set rows))
    (n : globals.count ≡ length p.globals) where
  -- the calls of a glyph or a local subroutine of an FD
  pub calls-in : (f : ℕ) → HoldsRanks ws locals (local_set rows f) → locals.count ≡ length (locals_of p f)
      → (b : ℕ) (z : ℤ) → calls_by ws locals globals b z ≡ calls_in p rows f b z
  calls-in f l m b z = go (eqb b 10)
    where
      go : (t : Bool)
          → pick t (operand_of (numbers_in ws locals) (bias_of locals.count) (bias_of locals.reached) z)
          (operand_of (numbers_in ws globals) (bias_of globals.count) (bias_of globals.reached) z)
          ≡ pick t (operand_of (rank (local_set rows f)) (bias_of (length (locals_of p f))) (bias_of (reached (local_set rows f))) z)
          (operand_of (rank (global_set rows)) (bias_of (length p.globals)) (bias_of (reached (global_set rows))) z)
      go true = operand_rank ws locals (local_set rows f) l (length (locals_of p f)) m z
      go false = operand_rank ws globals (global_set rows) g (length p.globals) n z

  pub renumbered_in : (f : ℕ) → HoldsRanks ws locals (local_set rows f) → locals.count ≡ length (locals_of p f)
      → (given : ℕ → MaskLen) (code : List ℕ) → renumber_charstring (calls_by ws locals globals) given code ≡ renumber_charstring (calls_in p rows f) given code
  renumbered_in f l m given code = charstring_alike (calls_by ws locals globals) (calls_in p rows f) (calls-in f l m) given code

  -- with no local subroutines, a call of one fails
  no_numbers : locals.count ≡ 0 → (z : ℤ) → operand_of (numbers_in ws locals) (bias_of locals.count) (bias_of locals.reached) z ≡ None
  no_numbers e z = ap (operand_for (bias_of locals.reached)) (go (numbered (bias_of locals.count) z))
    where
      go : (o : Option ℕ) → new_of (numbers_in ws locals) o ≡ None
      go None = refl
      go (Some i) = rw (le-ltb i locals.count (omega arith))

  none_local : locals.count ≡ 0 → (b : ℕ) (z : ℤ)
      → calls_by ws locals globals b z ≡ pick (eqb b 10) None (operand_of (rank (global_set rows)) (bias_of (length p.globals)) (bias_of (reached (global_set rows))) z)
  none_local e b z = go (eqb b 10)
    where
      go : (t : Bool)
          → pick t (operand_of (numbers_in ws locals) (bias_of locals.count) (bias_of locals.reached) z)
          (operand_of (numbers_in ws globals) (bias_of globals.count) (bias_of globals.reached) z)
          ≡ pick t None (operand_of (rank (global_set rows)) (bias_of (length p.globals)) (bias_of (reached (global_set rows))) z)
      go true = no_numbers e z
      go false = operand_rank ws globals (global_set rows) g (length p.globals) n z

  -- the calls of a global subroutine where two or more FDs are in use, or none
  pub calls-across : locals.count ≡ 0 → (f k : ℕ) (fs : List ℕ) (b : ℕ) (z : ℤ) → calls_by ws locals globals b z ≡ calls_across p rows (f ∷ k ∷ fs) b z
  calls-across e f k fs b z = none_local e b z

  pub calls-across-none : locals.count ≡ 0 → (b : ℕ) (z : ℤ) → calls_by ws locals globals b z ≡ calls_across p rows [] b z
  calls-across-none e b z = none_local e b z

  pub renumbered-across : locals.count ≡ 0 → (f k : ℕ) (fs : List ℕ) (given : ℕ → MaskLen) (code : List ℕ)
      → renumber_charstring (calls_by ws locals globals) given code ≡ renumber_charstring (calls_across p rows (f ∷ k ∷ fs)) given code
  renumbered-across e f k fs given code = charstring_alike (calls_by ws locals globals) (calls_across p rows (f ∷ k ∷ fs)) (calls-across e f k fs) given code
