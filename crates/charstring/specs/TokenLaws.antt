-- Laws of one token: what a step answers, by the cases in which the code takes it, and a token by its constructor.
use Rattle.std.specs.Prelude.{ℕ, ◌+◌, ◌/◌, ◌%◌, ◌≤◌, ◌<◌, ◌≡◌, refl, Bool, true, false, List, ltb, ℤ, Float, length, drop, get_or, None, Option, Some}
use Rattle.std.proofs.Common.{sym, ◌∙◌, subst, arith, length-drop, length-take-le, ltb-true}
use Rattle.std.proofs.Math.Path.{ap}
use Rattle.octets.specs.Pick.{pick}
use Rattle.octets.specs.declared.out.Out.{Out}
use Rattle.octets.specs.Out.{Writes}
use Rattle.type2_number.specs.Number.{Read, cut, operator, number, number_at}
use Rattle.type2_number.specs.Floats.{float_of}
use Rattle.type2_number.specs.Answers.{number_of}
use Rattle.type2_number.specs.declared.Number.{Number}
use Rattle.type2_number.specs.declared.Number.TheVariants.{Num as NumAt, Cut, Operator}
use Rattle.charstring.specs.Token.{mask_len, mask_at, operator_at, plain_at, token_at, more}
use Rattle.charstring.specs.Answers.{step_of, token_bytes, token_len_lem, Measurable, Writable}
use Rattle.charstring.specs.declared.MaskLen.{MaskLen}
use Rattle.charstring.specs.declared.MaskLen.TheVariants.{Own}
use Rattle.charstring.specs.declared.Token.{Token}
use Rattle.charstring.specs.declared.Token.TheVariants.{Num, Op, Esc, Mask}
use Rattle.charstring.specs.declared.Cursor.{Cursor}

no : ◌≡◌ {A = ℕ} 0 1 → ⊥
no h = omega arith

-- ---- the mask's length

pub own_even : (given : MaskLen) (stems : ℕ) → given ≡ Own → stems % 8 ≡ 0 → stems / 8 ≡ mask_len given stems
own_even given stems e h = let k : stems / 8 ≡ (stems + 7) / 8 = omega arith in k ∙ ap (λ (g : MaskLen). mask_len g stems) (sym e)

pub own-more : (given : MaskLen) (stems : ℕ) → given ≡ Own → (stems % 8 ≡ 0 → ⊥) → stems / 8 + 1 ≡ mask_len given stems
own-more given stems e h = let k : stems / 8 + 1 ≡ (stems + 7) / 8 = omega arith in k ∙ ap (λ (g : MaskLen). mask_len g stems) (sym e)

-- ---- a step

-- where no mask is due and a token is left, a byte is left
pub byte_left : (s : List ℕ) (c : Cursor) → c.due ≡ false → more s c ≡ true → c.at < length s
byte_left s c e h = ltb-true c.at (length s) (sym (ap (λ (d : Bool). pick d true (ltb c.at (length s))) e) ∙ h)

module _ (s : List ℕ) (len : MaskLen) (c : Cursor) where
  pub step-mask : (r : Option (Token × Cursor)) (n : ℕ) → c.due ≡ true → n ≡ mask_len len c.stems → r ≡ step_of (mask_at s c n) → r ≡ step_of (token_at s len c)
  unfolding token_at
  step-mask r n e f g = g ∙ ap (λ (k : ℕ). step_of (mask_at s c k)) f ∙ ap (λ (d : Bool). step_of (pick d (mask_at s c (mask_len len c.stems)) (plain_at s c (number_at s c.at)))) (sym e)

  plain : (q : Read) → c.due ≡ false → number_at s c.at ≡ q → step_of (plain_at s c q) ≡ step_of (token_at s len c)
  unfolding token_at
  plain q e f =
      ap (λ (x : Read). step_of (plain_at s c x)) (sym f)
      ∙ ap (λ (d : Bool). step_of (pick d (mask_at s c (mask_len len c.stems)) (plain_at s c (number_at s c.at)))) (sym e)

  -- by the answer of reading a number there
  num_case : (q : Read) (r : Number) (v : ℤ) (n : ℕ) → r ≡ number_of q → r ≡ NumAt v n → q ≡ number v n
  num_case cut r v n e f = absurd (no cc)
  num_case operator r v n e f = absurd (no cc)
  num_case (number z m) r v n e f = cc

  cut_case : (q : Read) (r : Number) → r ≡ number_of q → r ≡ Cut → q ≡ cut
  cut_case cut r e f = refl
  cut_case operator r e f = absurd (no cc)
  cut_case (number z m) r e f = absurd (no cc)

  operator_case : (q : Read) (r : Number) → r ≡ number_of q → r ≡ Operator → q ≡ operator
  operator_case cut r e f = absurd (no cc)
  operator_case operator r e f = refl
  operator_case (number z m) r e f = absurd (no cc)

  module _ (r : Number) (e : r ≡ number_of (number_at s c.at)) (d : c.due ≡ false) where
    pub step-num : (v : ℤ) (n : ℕ) → r ≡ NumAt v n → (x : Float) → x ≡ float_of v
        → Some (Num x, record { at = n; args = c.args + 1; stems = c.stems; due = false }) ≡ step_of (token_at s len c)
    step-num v n f x g =
        ap (λ (y : Float). Some (Num y, record { at = n; args = c.args + 1; stems = c.stems; due = false })) g
        ∙ plain (number v n) d (num_case (number_at s c.at) r v n e f)

    pub step_cut : r ≡ Cut → None ≡ step_of (token_at s len c)
    step_cut f = plain cut d (cut_case (number_at s c.at) r e f)

    pub step-operator : r ≡ Operator → (t : Option (Token × Cursor)) → t ≡ step_of (operator_at s c (get_or s c.at 0)) → t ≡ step_of (token_at s len c)
    step-operator f t g = g ∙ plain operator d (operator_case (number_at s c.at) r e f)

-- ---- a token by its constructor

module _ (s : List ℕ) (t u : Token) (e : t ≡ u) where
  pub writable_as : Writable s t → Writable s u
  writable_as h = subst (Writable s) e h

  pub room_as : (to n : ℕ) → to + length (token_bytes s t) ≤ n → to + length (token_bytes s u) ≤ n
  room_as to n h = subst (λ (x : Token). to + length (token_bytes s x) ≤ n) e h

  pub writes_token : {old new : Out} → Writes old (token_bytes s u) new → Writes old (token_bytes s t) new
  writes_token {old} {new} w = subst (λ (x : Token). Writes old (token_bytes s x) new) (sym e) w

pub measurable_as : (t u : Token) → t ≡ u → Measurable t → Measurable u
measurable_as t u e h = subst Measurable e h

-- the length law of `encode`: a token that can be written takes as many bytes as it is measured to
pub token-length : (s : List ℕ) (t : Token) → Writable s t → token_len_lem t ≡ length (token_bytes s t)
token-length s (Num v) h = refl
token-length s (Op b) h = refl
token-length s (Esc b) h = refl
token-length s (Mask start len) h = sym (length-take-le len (drop start s) (rw length-drop (omega arith)))

pub measurable : (s : List ℕ) (t : Token) → Writable s t → Measurable t
measurable s (Num v) h = h
measurable s (Op b) h = tt
measurable s (Esc b) h = tt
measurable s (Mask start len) h = tt
