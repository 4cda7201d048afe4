-- Writing and reading fit together: tokens that were written read as the same tokens, masks by their bytes; and what was read from
-- a body is such a list.
use Prim.Native.Nat.{ℕ, zero, suc, ◌+◌, ◌-◌, ◌*◌, ◌≤◌, ◌<◌}
use Rattle.std.specs.Prelude.{◌≡◌, Bool, ltb, eqb, drop, Some}
use Rattle.std.proofs.Math.Path.{refl, sym, ap}
use Rattle.std.proofs.Common.{◌∙◌, not-suc-le-zero, length-append, length-drop, drop-drop, drop_at}
use Rattle.std.proofs.Math.Bool.{true, false}
use Rattle.std.proofs.lemmas.Bool.{false≢true}
use mathlib.Core.List.{List, [], ◌∷◌, ◌++◌}
use native.Mathlib.Omega.{arith}
use Rattle.std.proofs.Math.ListN.{length, take, get_or}
use Rattle.std.proofs.Math.Seq.{take_at}
use borrow.Author.Tests.{lt-ltb, le-ltb, eq-eqb, ne_eqb}
use Rattle.octets.specs.Pick.{pick}
use Rattle.octets.specs.ListLaws.{lies_at, lies_first}
use Rattle.type2_number.specs.Number.{mag, is_neg, Read, operator, number, number_at}
use Rattle.type2_number.specs.Encoding.{encoded}
use Rattle.type2_number.specs.EncodingLaws.{number_short}
use Rattle.type2_number.specs.NumberLaws.{form_op}
use Rattle.type2_number.specs.NumberRound.{number-back}
use Rattle.charstring.specs.Token.{Tok, num, op, esc, mask, is_mask, stems_after, mask_len, Lexeme, got_op, got_esc, got_mask, mask_at, operator_at, plain_at, token_at, join, onward, more, tokens_from, tokens_of, start}
use Rattle.charstring.specs.Encode.{tok_bytes, encode}
use Rattle.charstring.specs.Proper.{Proper, lengths_of, Gives}
use Rattle.charstring.specs.TokensLaws.{bit}
use Rattle.charstring.specs.declared.MaskLen.{MaskLen}
use Rattle.charstring.specs.declared.MaskLen.TheVariants.{Given}
use Rattle.charstring.specs.declared.Cursor.{Cursor}

module _ (given : ℕ → MaskLen) (b : List ℕ) where
  turned : (k : ℕ) (c : Cursor) (q : Lexeme) → more b c ≡ true → token_at b (given (c.at - 1)) c ≡ q → tokens_from (suc k) given b c ≡ onward b q (tokens_from k given b)
  unfolding tokens_from
  turned k c q m e = rw m (ap (λ (x : Lexeme). onward b x (tokens_from k given b)) e)

  ended : (k : ℕ) (c : Cursor) → more b c ≡ false → tokens_from k given b c ≡ Some []
  unfolding tokens_from
  ended zero c m = refl
  ended (suc k) c m = rw m

  plain : (c : Cursor) (q : Read) → c.due ≡ false → number_at b c.at ≡ q → token_at b (given (c.at - 1)) c ≡ plain_at b c q
  unfolding token_at
  plain c q e f =
      ap (λ (x : Bool). pick x (mask_at b c (mask_len (given (c.at - 1)) c.stems)) (plain_at b c (number_at b c.at))) e ∙ ap (plain_at b c) f

  due : (c : Cursor) (n : ℕ) → c.due ≡ true → mask_len (given (c.at - 1)) c.stems ≡ n → token_at b (given (c.at - 1)) c ≡ mask_at b c n
  unfolding token_at
  due c n e f =
      ap (λ (x : Bool). pick x (mask_at b c (mask_len (given (c.at - 1)) c.stems)) (plain_at b c (number_at b c.at))) e ∙ ap (mask_at b c) f

  more_byte : (c : Cursor) → c.due ≡ false → c.at < length b → more b c ≡ true
  more_byte c e h = ap (λ (x : Bool). pick x true (ltb c.at (length b))) e ∙ lt-ltb c.at (length b) h

  -- some bytes lie at a cursor
  module _ (c : Cursor) (front rest : List ℕ) (lies : drop c.at b ≡ front ++ rest) where
    enough_left : length b - c.at ≡ length front + length rest
    enough_left = sym (length-drop c.at b) ∙ ap length lies ∙ length-append front rest

    on : drop (c.at + length front) b ≡ rest
    on = sym (drop-drop (length front) c.at b) ∙ ap (drop (length front)) lies ∙ drop_at front rest (length front) refl

  -- the tokens of bytes that tokens were written to, from a cursor on
  back : (k : ℕ) (c : Cursor) (ts : List Tok) (d : Bool) → c.due ≡ d → Proper d ts → Gives given c.at ts → drop c.at b ≡ encode ts → length ts ≤ k
      → tokens_from k given b c ≡ Some ts
  unfolding encode
  back k c [] true e p g lies h = absurd p
  back k c [] false e p g lies h =
      let n : length b - c.at ≡ 0 = sym (length-drop c.at b) ∙ ap length lies in
      ended k c (ap (λ (x : Bool). pick x true (ltb c.at (length b))) e ∙ le-ltb c.at (length b) (omega arith))
  back zero c (t ∷ ts) d e p g lies h = absurd (not-suc-le-zero h)
  back (suc k) c (num z ∷ ts) true e p g lies h = absurd p
  back (suc k) c (num z ∷ ts) false e p g lies h =
      let s = number_short (is_neg z) (mag z) in
      let l = enough_left c (encoded z) (encode ts) lies in
      let f : number_at b c.at ≡ number z (c.at + length (encoded z)) = number-back z p.0 b c.at (encode ts) lies in
      turned k c _ (more_byte c e (omega (arith, s.some))) (plain c _ e f)
      ∙ ap (join (num z ∷ [])) (back k _ ts false refl p.1 g (on c (encoded z) (encode ts) lies) (omega arith))
  back (suc k) c (op x ∷ ts) true e p g lies h = absurd p
  back (suc k) c (op x ∷ ts) false e p g lies h =
      let l = enough_left c (x ∷ []) (encode ts) lies in
      let v : get_or b c.at 0 ≡ x = lies_first b c.at _ lies in
      let o = p.0 in
      let f : number_at b c.at ≡ operator = form_op b c.at (omega (arith, o.low)) (λ w. o.not_number (sym v ∙ w)) in
      let q : operator_at b c (get_or b c.at 0) ≡ got_op x (record { at = c.at + 1; args = 0; stems = stems_after x c.args c.stems; due = is_mask x })
      = ap (operator_at b c) v ∙ rw (ne_eqb x 12 o.not_escape) in
      turned k c _ (more_byte c e (omega arith)) (plain c operator e f ∙ q)
      ∙ ap (join (op x ∷ [])) (back k _ ts (is_mask x) refl p.1 g (on c (x ∷ []) (encode ts) lies) (omega arith))
  back (suc k) c (esc x ∷ ts) true e p g lies h = absurd p
  back (suc k) c (esc x ∷ ts) false e p g lies h =
      let l = enough_left c (12 ∷ x ∷ []) (encode ts) lies in
      let v : get_or b c.at 0 ≡ 12 = lies_first b c.at _ lies in
      let w : get_or b (c.at + 1) 0 ≡ x = lies_at b c.at _ lies 1 in
      let f : number_at b c.at ≡ operator = form_op b c.at (omega arith) (λ y. omega arith) in
      let two : 2 ≤ length b - c.at = omega arith in
      let q : operator_at b c (get_or b c.at 0) ≡ got_esc x (record { at = c.at + 2; args = 0; stems = c.stems; due = false })
      = ap (operator_at b c) v ∙ rw (le-ltb (length b - c.at) 2 two, w) in
      turned k c _ (more_byte c e (omega arith)) (plain c operator e f ∙ q)
      ∙ ap (join (esc x ∷ [])) (back k _ ts false refl p g (on c (12 ∷ x ∷ []) (encode ts) lies) (omega arith))
  back (suc k) c (mask bs ∷ ts) false e p g lies h = absurd p
  back (suc k) c (mask bs ∷ ts) true e p g lies h =
      let l = enough_left c bs (encode ts) lies in
      let n : length bs ≤ length b - c.at = omega arith in
      let f : mask_len (given (c.at - 1)) c.stems ≡ length bs = ap (λ (x : MaskLen). mask_len x c.stems) g.0 in
      let q : mask_at b c (length bs) ≡ got_mask c.at (length bs) (record { at = c.at + length bs; args = 0; stems = c.stems; due = false })
      = rw (le-ltb (length b - c.at) (length bs) n) in
      let t : take (length bs) (drop c.at b) ≡ bs = ap (take (length bs)) lies ∙ take_at bs (encode ts) (length bs) refl in
      turned k c _ (ap (λ (x : Bool). pick x true (ltb c.at (length b))) e) (due c (length bs) e f ∙ q)
      ∙ ap (λ (x : List ℕ). join (mask x ∷ []) (tokens_from k given b (record { at = c.at + length bs; args = 0; stems = c.stems; due = false }))) t
      ∙ ap (join (mask bs ∷ [])) (back k _ ts false refl p g.1 (on c bs (encode ts) lies) (omega arith))

-- every token but a mask has a byte, and a mask has its operator's
few : (d : Bool) (ts : List Tok) → Proper d ts → length ts ≤ 2 * length (encode ts) + bit d
unfolding encode
few true [] p = absurd p
few false [] p = omega arith
few true (num z ∷ ts) p = absurd p
few false (num z ∷ ts) p =
    let s = number_short (is_neg z) (mag z) in
    let h = few false ts p.1 in
    rw length-append (omega (arith, s.some))
few true (op x ∷ ts) p = absurd p
few false (op x ∷ ts) p = let h = few (is_mask x) ts p.1 in omega (arith, bit-small (is_mask x))
  where
    bit-small : (t : Bool) → bit t ≤ 1
    bit-small true = omega arith
    bit-small false = omega arith
few true (esc x ∷ ts) p = absurd p
few false (esc x ∷ ts) p = let h = few false ts p in omega arith
few false (mask bs ∷ ts) p = absurd p
few true (mask bs ∷ ts) p = let h = few false ts p in rw length-append (omega arith)

-- THE THEOREM: tokens that were written read as the same tokens, where each mask's length is given for its operator's new place
pub tokens-back : (given : ℕ → MaskLen) (ts : List Tok) → Proper false ts → Gives given 0 ts → tokens_of given (encode ts) ≡ Some ts
unfolding tokens_of
tokens-back given ts p g = let h = few false ts p in back given (encode ts) (2 * length (encode ts)) start ts false refl p g refl (omega arith)

-- ---- the lengths of the list itself are such a lookup

-- lookups that agree from the place of the first operator on
gives_as : (f g : ℕ → MaskLen) (at : ℕ) (d : Bool) (ts : List Tok) → Proper d ts → ((o : ℕ) → at ≤ o + bit d → f o ≡ g o) → (d ≡ true → 0 < at) → Gives f at ts → Gives g at ts
gives_as f g at true [] p e z h = absurd p
gives_as f g at false [] p e z h = tt
gives_as f g at true (num x ∷ ts) p e z h = absurd p
gives_as f g at false (num x ∷ ts) p e z h = gives_as f g (at + length (tok_bytes (num x))) false ts p.1 (λ o l. e o (omega arith)) (λ q. absurd (false≢true q)) h
gives_as f g at true (op x ∷ ts) p e z h = absurd p
gives_as f g at false (op x ∷ ts) p e z h = gives_as f g (at + 1) (is_mask x) ts p.1 (λ o l. e o (within (is_mask x) o l)) (λ q. omega arith) h
  where
    within : (t : Bool) (o : ℕ) → at + 1 ≤ o + bit t → at ≤ o + 0
    within true o l = omega arith
    within false o l = omega arith
gives_as f g at true (esc x ∷ ts) p e z h = absurd p
gives_as f g at false (esc x ∷ ts) p e z h = gives_as f g (at + 2) false ts p (λ o l. e o (omega arith)) (λ q. absurd (false≢true q)) h
gives_as f g at false (mask bs ∷ ts) p e z h = absurd p
gives_as f g at true (mask bs ∷ ts) p e z h =
    let y = z refl in
    (sym (e (at - 1) (omega arith)) ∙ h.0, gives_as f g (at + length bs) false ts p (λ o l. e o (omega arith)) (λ q. absurd (false≢true q)) h.1)

lengths_give : (at : ℕ) (d : Bool) (ts : List Tok) → Proper d ts → (d ≡ true → 0 < at) → Gives (lengths_of at ts) at ts
unfolding lengths_of
lengths_give at true [] p z = absurd p
lengths_give at false [] p z = tt
lengths_give at true (num x ∷ ts) p z = absurd p
lengths_give at false (num x ∷ ts) p z = lengths_give (at + length (tok_bytes (num x))) false ts p.1 (λ q. absurd (false≢true q))
lengths_give at true (op x ∷ ts) p z = absurd p
lengths_give at false (op x ∷ ts) p z = lengths_give (at + 1) (is_mask x) ts p.1 (λ q. omega arith)
lengths_give at true (esc x ∷ ts) p z = absurd p
lengths_give at false (esc x ∷ ts) p z = lengths_give (at + 2) false ts p (λ q. absurd (false≢true q))
lengths_give at false (mask bs ∷ ts) p z = absurd p
lengths_give at true (mask bs ∷ ts) p z =
    let y = z refl in
    let here : at - 1 + 1 ≡ at = omega arith in (
      rw (eq-eqb (at - 1 + 1) at here),
      gives_as (lengths_of (at + length bs) ts) (λ o. pick (eqb (o + 1) at) (Given (length bs)) (lengths_of (at + length bs) ts o)) (at + length bs) false ts p
          (λ o l. let n : o + 1 ≡ at → ⊥ = λ q. omega arith in rw (ne_eqb (o + 1) at n)) (λ q. absurd (false≢true q))
          (lengths_give (at + length bs) false ts p (λ q. absurd (false≢true q))),
    )

pub lengths_back : (ts : List Tok) → Proper false ts → tokens_of (lengths_of 0 ts) (encode ts) ≡ Some ts
lengths_back ts p = tokens-back (lengths_of 0 ts) ts p (lengths_give 0 false ts p (λ q. absurd (false≢true q)))
