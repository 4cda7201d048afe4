-- The refusal of a call before the work words are used, test by test: what each test of the code answered, and what it gives.
use Rattle.std.specs.Prelude.{ℕ, zero, suc, ◌+◌, ◌*◌, ◌≤◌, ◌<◌, ◌≡◌, refl, Bool, true, not, List, eqb, length, Result, Ok, Err}
use Rattle.std.proofs.Math.Path.{sym}
use Rattle.std.proofs.Common.{ap, ◌∙◌, subst, arith}
use Rattle.std.proofs.Math.Bool.{false}
use borrow.Author.Tests.{ne_eqb, lt-ltb, le-ltb}
use Rattle.prune.specs.StepLaws.{zero_one}
use Rattle.octets.specs.Pick.{pick}
use Rattle.bits.specs.Bits.{words_for}
use Rattle.octets.specs.Lists.{all_below}
use Rattle.record.specs.Record.{record_fine}
use Rattle.dict.specs.Dict.{Entry}
use Rattle.dict.specs.Lookup.{ros_in, cid_keyed, stroked_in}
use Rattle.cff.specs.Font.{Program, coding_at}
use Rattle.cff.specs.Find.{work_size}
use Rattle.cff.specs.Reads.{program_of, GoodFont}
use Rattle.cff.specs.SetLaws.{counts_with}
use Rattle.cff.specs.declared.Counts.{Counts}
use Rattle.cff.specs.declared.font.Font.{Font}
use Rattle.index.specs.IndexLaws.{items-length}
use Rattle.subset.specs.Kept.{kept_of}
use Rattle.subset.specs.Cut.{all_found_lem, has_ros_lem, same_bool_lem, is_expert, unsupported_in}
use Rattle.small.specs.Small.{small_size}
use Rattle.outcome.specs.Entry.{size_of, refusal_of}
use Rattle.refusal.specs.declared.Refusal.{Refusal}
use Rattle.refusal.specs.declared.Refusal.TheVariants.{Malformed, Unsupported, TooLong, NoSuchNumber, NotFound, BadRecord, Work}

-- a font's counts
module _ (b : List ℕ) (f : Font) (good : GoodFont b f) where
  pub glyphs_are : length (program_of b f).charstrings ≡ f.charstrings.count
  glyphs_are = items-length b f.charstrings

  pub work_is : 2 * f.charstrings.count + words_for f.globals.count + f.words ≡ work_size (program_of b f)
  work_is = let e = counts_with b f good _ refl in ap (λ (c : Counts). c.work) e

  -- and the words that the small call asks for
  pub small_is : words_for f.charstrings.count + words_for f.globals.count + f.words ≡ small_size (program_of b f)
  small_is =
      let n : words_for (length (program_of b f).charstrings) ≡ words_for f.charstrings.count = ap words_for glyphs_are in
      omega (arith, n, work_is, glyphs_are)

  -- by the call
  pub size_small : (small : Bool) → small ≡ true → (w : ℕ) → w ≡ words_for f.charstrings.count + words_for f.globals.count + f.words → w ≡ size_of small (program_of b f)
  size_small small e w is = is ∙ small_is ∙ ap (λ (t : Bool). size_of t (program_of b f)) (sym e)

  pub size_large : (small : Bool) → small ≡ false → (w : ℕ) → w ≡ 2 * f.charstrings.count + words_for f.globals.count + f.words → w ≡ size_of small (program_of b f)
  size_large small e w is = is ∙ work_is ∙ ap (λ (t : Bool). size_of t (program_of b f)) (sym e)

-- ---- the refusal, test by test: what each test of the code answered

was_false : (r : Bool) → not r ≡ true → r ≡ false
was_false true e = absurd (zero_one cc)
was_false false e = refl

was_true : (r : Bool) → not r ≡ false → r ≡ true
was_true true e = refl
was_true false e = absurd (zero_one cc)

-- the first two tests are one in the code: s, the keying is the one that is asked for, and not t, the font is stroked
unfit : (s t : Bool) (r : Result Unit Refusal) → pick s (not t) false ≡ false → Err Unsupported ≡ pick s (pick t (Err Unsupported) r) (Err Unsupported)
unfit true true r e = refl
unfit true false r e = absurd (zero_one cc)
unfit false t r e = refl

fit : (s t : Bool) → pick s (not t) false ≡ true → (s ≡ true) × (t ≡ false)
fit true true e = absurd (zero_one cc)
fit true false e = (refl, refl)
fit false t e = absurd (zero_one cc)

-- the test of the encoding by its offset
abbrev pub unsupported_at : Bool → ℕ → List Entry → Bool
unsupported_at ask v es = pick (stroked_in es) true (pick ask false (eqb v 1))

expert_is : (b : List ℕ) (v : ℕ) → is_expert (coding_at b v) ≡ eqb v 1
unfolding coding_at
expert_is b zero = refl
expert_is b (suc zero) = refl
expert_is b (suc (suc v)) =
    let z = ne_eqb (suc (suc v)) 0 (λ q. zero_one (omega (arith, q))) in
    let o = ne_eqb (suc (suc v)) 1 (λ q. zero_one (omega (arith, q))) in
    rw (z, o)

pub unsupported_is : (b : List ℕ) (f : Font) (ask : Bool) → unsupported_in ask (program_of b f) ≡ unsupported_at ask f.encoding (program_of b f).top
unsupported_is b f ask = ap (λ (t : Bool). pick (stroked_in (program_of b f).top) true (pick ask false t)) (expert_is b f.encoding)

module _ (b : List ℕ) (f : Font) (good : GoodFont b f) (small cid ask : Bool) (name : ℕ) (keep rec : List ℕ) (flag words : ℕ) where
  abbrev p : Program
  p = program_of b f

  abbrev early : Result Unit Refusal
  early = refusal_of (size_of small) cid ask p name keep rec flag words

  module _ (r₁ : Bool) (e₁ : r₁ ≡ pick (same_bool_lem cid f.cid) (not (unsupported_at ask f.encoding p.top)) false) where
    same : (t : Bool) → r₁ ≡ t → pick (same_bool_lem cid (cid_keyed p.top)) (not (unsupported_in ask p)) false ≡ t
    same t h =
        ap (λ (k : Bool). pick (same_bool_lem cid k) (not (unsupported_in ask p)) false) (sym good.cid)
        ∙ ap (λ (u : Bool). pick (same_bool_lem cid f.cid) (not u) false) (unsupported_is b f ask) ∙ sym e₁ ∙ h

    pub read_unfit : not r₁ ≡ true → Err Unsupported ≡ early
    unfolding refusal_of
    read_unfit t = unfit (same_bool_lem cid (cid_keyed p.top)) (unsupported_in ask p) _ (same false (was_false r₁ t))

    module _ (t₁ : not r₁ ≡ false) (r₂ : Bool) (e₂ : r₂ ≡ pick cid (has_ros_lem (ros_in p.top)) true) where
      both : (same_bool_lem cid (cid_keyed p.top) ≡ true) × (unsupported_in ask p ≡ false)
      both = fit (same_bool_lem cid (cid_keyed p.top)) (unsupported_in ask p) (same true (was_true r₁ t₁))

      a : same_bool_lem cid (cid_keyed p.top) ≡ true
      a = both.0

      s : unsupported_in ask p ≡ false
      s = both.1

      pub read-ros : not r₂ ≡ true → Err Malformed ≡ early
      unfolding refusal_of
      read-ros t = rw (a, s, sym e₂ ∙ was_false r₂ t)

      module _ (t₂ : not r₂ ≡ false) where
        c : pick cid (has_ros_lem (ros_in p.top)) true ≡ true
        c = sym e₂ ∙ was_true r₂ t₂

        pub read_name : 65535 < name → Err TooLong ≡ early
        unfolding refusal_of
        read_name h = rw (a, s, c, lt-ltb 65535 name h)

        module _ (t₃ : name ≤ 65535) (r₄ : Bool) (e₄ : r₄ ≡ all_below f.charstrings.count keep) where
          below : (t : Bool) → r₄ ≡ t → all_below (length p.charstrings) keep ≡ t
          below t h = ap (λ (n : ℕ). all_below n keep) (glyphs_are b f good) ∙ sym e₄ ∙ h

          pub read_number : not r₄ ≡ true → Err NoSuchNumber ≡ early
          unfolding refusal_of
          read_number t = rw (a, s, c, le-ltb 65535 name t₃, below false (was_false r₄ t))

          module _ (t₄ : not r₄ ≡ false) (r₅ : Bool) (e₅ : r₅ ≡ all_found_lem p (kept_of f.charstrings.count keep)) where
            d : all_below (length p.charstrings) keep ≡ true
            d = below true (was_true r₄ t₄)

            found : (t : Bool) → r₅ ≡ t → all_found_lem p (kept_of (length p.charstrings) keep) ≡ t
            found t h = ap (λ (n : ℕ). all_found_lem p (kept_of n keep)) (glyphs_are b f good) ∙ sym e₅ ∙ h

            pub read_found : not r₅ ≡ true → Err NotFound ≡ early
            unfolding refusal_of
            read_found t = rw (a, s, c, le-ltb 65535 name t₃, d, found false (was_false r₅ t))

            module _ (t₅ : not r₅ ≡ false) (r₆ : Bool) (e₆ : r₆ ≡ record_fine cid rec flag) where
              e : all_found_lem p (kept_of (length p.charstrings) keep) ≡ true
              e = found true (was_true r₅ t₅)

              pub read-record : not r₆ ≡ true → Err BadRecord ≡ early
              unfolding refusal_of
              read-record t = rw (a, s, c, le-ltb 65535 name t₃, d, e, sym e₆ ∙ was_false r₆ t)

              module _ (t₆ : not r₆ ≡ false) (w : ℕ) (size : w ≡ size_of small p) where
                g : record_fine cid rec flag ≡ true
                g = sym e₆ ∙ was_true r₆ t₆

                pub read-work : words < w → Err Work ≡ early
                unfolding refusal_of
                read-work h = rw (a, s, c, le-ltb 65535 name t₃, d, e, g, lt-ltb words (size_of small p) (subst (λ (n : ℕ). words < n) size h))

                pub read-passed : w ≤ words → Ok tt ≡ early
                unfolding refusal_of
                read-passed h = rw (a, s, c, le-ltb 65535 name t₃, d, e, g, le-ltb words (size_of small p) (subst (λ (n : ℕ). n ≤ words) size h))
