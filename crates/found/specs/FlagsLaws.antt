-- Laws of flags (document 01, refusal 7): which words have none, the flagged glyphs one after the other, and that they are the kept ones.
use Rattle.std.specs.Prelude.{ℕ, zero, suc, ◌+◌, ◌*◌, ◌-◌, ◌/◌, ◌%◌, ◌^◌, ◌≤◌, ◌<◌, ◌≡◌, refl, Bool, true, false, List, [], ◌∷◌, eqb, length, take, get_or}
use Rattle.std.proofs.Common.{sym, ap, ◌∙◌, arith}
use Rattle.std.proofs.Math.Nat.{zero-div}
use Rattle.octets.specs.Pick.{pick}
use Rattle.octets.specs.Octets.{put}
use Rattle.octets.specs.PutLaws.{take_put}
use Rattle.prune.specs.StepLaws.{zero_one}
use Rattle.dict.specs.Lookup.{cid_keyed}
use Rattle.bits.specs.Bits.{words_for, bit_in, bits_of}
use Rattle.reach.specs.Cases.{by_order}
use Rattle.cff.specs.Font.{Program}
use Rattle.cff.specs.Reads.{program_of, GoodFont}
use Rattle.cff.specs.declared.font.Font.{Font}
use Rattle.subset.specs.Kept.{those, keeps, kept_of}
use Rattle.subset.specs.Cut.{is_found, all_found_lem}
use Rattle.kept.specs.Packed.{all_of, cid_found, name_found}
use Rattle.first_glyphs.specs.FoundLaws.{all_stops, all-passed, all-taken}
use Rattle.order.specs.BitLaws.{bits_many, kept-by_bits}
use Rattle.found.specs.Flags.{Unset}

-- ---- the last flag that is set

-- no flag is behind all of them
pub unset_end : (flags : List ℕ) (e n : ℕ) → n ≤ e → Unset flags e n
unset_end flags e n h = record { none = λ i a b. absurd (omega arith) }

-- a word that is 0 has none
zero_word : (flags : List ℕ) (i q : ℕ) → i / 32 ≡ q → get_or flags q 0 ≡ 0 → bit_in flags 0 i ≡ false
zero_word flags i q e z =
    let s : 0 + i / 32 ≡ q = omega arith in
    ap (λ (j : ℕ). eqb (get_or flags j 0 / 2 ^ (i % 32) % 2) 1) s ∙ ap (λ (x : ℕ). eqb (x / 2 ^ (i % 32) % 2) 1) z
    ∙ ap (λ (x : ℕ). eqb (x % 2) 1) (zero-div (2 ^ (i % 32)))

pub unset-word : (flags : List ℕ) (q n : ℕ) → 0 < q → get_or flags (q - 1) 0 ≤ 0 → Unset flags (32 * q) n → Unset flags (32 * (q - 1)) n
unset-word flags q n p z u =
    record {
      none = λ i a b. by_order i (32 * q) (λ l. zero_word flags i (q - 1) (omega arith) (omega arith)) (λ l. u.none i l b);
    }

-- no word is left
pub unset-all : (flags : List ℕ) (q n : ℕ) → q ≤ 0 → Unset flags (32 * q) n → Unset flags 0 n
unset-all flags q n z u = record { none = λ i a b. u.none i (omega arith) b }

-- one that is not set
pub unset-one : (flags : List ℕ) (e n : ℕ) → 0 < e → bit_in flags 0 (e - 1) ≡ false → Unset flags e n → Unset flags (e - 1) n
unset-one flags e n p z u =
    record {
      none = λ i a b. by_order i e (λ l. let s : i ≡ e - 1 = omega arith in ap (bit_in flags 0) s ∙ z) (λ l. u.none i l b);
    }

-- those that pass a test are none where none does
none_pass : (t : ℕ → Bool) (m g : ℕ) → ((i : ℕ) → g ≤ i → i < g + m → t i ≡ false) → those t m g ≡ []
unfolding those
none_pass t zero g f = refl
none_pass t (suc m) g f =
    ap (λ (b : Bool). pick b (g ∷ those t m (g + 1)) (those t m (g + 1))) (f g (omega arith) (omega arith)) ∙ none_pass t m (g + 1) (λ i a b. f i (omega arith) (omega arith))

-- none is set from the end on
pub all_ended : (test : ℕ → Bool) (flags : List ℕ) (n e g : ℕ) → e ≤ g → Unset flags e n → true ≡ all_of test (those (bit_in flags 0) (n - g) g)
unfolding all_of
all_ended test flags n e g a u = sym (ap (all_of test) (none_pass (bit_in flags 0) (n - g) g (λ i l m. u.none i (omega arith) (omega arith))))

-- ---- flag after flag

module _ (test t : ℕ → Bool) (n g : ℕ) (h : g < n) (flag : Bool) (is : flag ≡ t g) where
  -- a glyph that is not flagged or passes, and one that is flagged and fails
  pub all-next : pick flag (test g) true ≡ true → all_of test (those t (n - (g + 1)) (g + 1)) ≡ all_of test (those t (n - g) g)
  all-next e = by_flag flag refl
    where
      by_flag : (b : Bool) → flag ≡ b → all_of test (those t (n - (g + 1)) (g + 1)) ≡ all_of test (those t (n - g) g)
      by_flag true b = all-taken test t n g h (sym is ∙ b) (sym (ap (λ (x : Bool). pick x (test g) true) b) ∙ e)
      by_flag false b = all-passed test t n g h (sym is ∙ b)

  pub all-fails : pick flag (test g) true ≡ false → false ≡ all_of test (those t (n - g) g)
  all-fails e = by_flag flag refl
    where
      by_flag : (b : Bool) → flag ≡ b → false ≡ all_of test (those t (n - g) g)
      by_flag true b = all_stops test t n g h (sym is ∙ b) (sym (ap (λ (x : Bool). pick x (test g) true) b) ∙ e)
      by_flag false b = let z : true ≡ false = sym (ap (λ (x : Bool). pick x (test g) true) b) ∙ e in absurd (zero_one cc)

-- ---- the kept glyphs

-- by CID or by name
cid-found : (p : Program) (g : ℕ) → cid_keyed p.top ≡ true → is_found p g ≡ cid_found p.ids g
cid-found p g k = simp k

name-found : (p : Program) (g : ℕ) → cid_keyed p.top ≡ false → is_found p g ≡ name_found p.strings p.ids g
name-found p g k = simp k

found_all : (p : Program) (test : ℕ → Bool) → ((g : ℕ) → is_found p g ≡ test g) → (l : List ℕ) → all_found_lem p l ≡ all_of test l
unfolding all_found_lem all_of
found_all p test f [] = refl
found_all p test f (g ∷ gs) =
    ap (λ (t : Bool). pick t (all_found_lem p gs) false) (f g) ∙ ap (λ (t : Bool). pick (test g) t false) (found_all p test f gs)

module _ (b : List ℕ) (f : Font) (good : GoodFont b f) (keep old flags : List ℕ) (is : flags ≡ put old 0 (bits_of (keeps keep) f.charstrings.count)) where
  abbrev n : ℕ
  n = f.charstrings.count

  -- the flagged glyphs are the kept ones
  flagged-kept : those (bit_in flags 0) n 0 ≡ kept_of n keep
  flagged-kept =
      let l : words_for n ≡ 0 + length (bits_of (keeps keep) n) = omega (arith, bits_many (keeps keep) n) in
      kept-by_bits n keep flags
      (ap (take (words_for n)) is ∙ ap (λ (k : ℕ). take k (put old 0 (bits_of (keeps keep) n))) l ∙ take_put old 0 (bits_of (keeps keep) n) (omega arith))

  pub all-by_cid : f.cid ≡ true → (r : Bool) → r ≡ all_of (cid_found (program_of b f).ids) (those (bit_in flags 0) n 0) → r ≡ all_found_lem (program_of b f) (kept_of n keep)
  all-by_cid c r e =
      e ∙ ap (all_of (cid_found (program_of b f).ids)) flagged-kept
      ∙ sym (found_all (program_of b f) (cid_found (program_of b f).ids) (λ g. cid-found (program_of b f) g (sym good.cid ∙ c)) (kept_of n keep))

  pub all-by-name : f.cid ≡ false → (r : Bool) → r ≡ all_of (name_found (program_of b f).strings (program_of b f).ids) (those (bit_in flags 0) n 0)
      → r ≡ all_found_lem (program_of b f) (kept_of n keep)
  all-by-name c r e =
      e ∙ ap (all_of (name_found (program_of b f).strings (program_of b f).ids)) flagged-kept
      ∙ sym (found_all (program_of b f) (name_found (program_of b f).strings (program_of b f).ids) (λ g. name-found (program_of b f) g (sym good.cid ∙ c)) (kept_of n keep))
