-- What is read from a body is a proper list of tokens, so that it reads back once it is written.
use Prim.Native.Nat.{ℕ, zero, suc, ◌-◌, ◌*◌, ◌≤◌, ◌<◌}
use Rattle.std.specs.Prelude.{◌≡◌, Bool, List, [], ◌∷◌, ltb, eqb, take, drop, get_or, None, Option, Some}
use Rattle.std.proofs.Math.Path.{refl, ap, subst}
use Rattle.std.proofs.Common.{sym, ◌∙◌, true≢false, arith}
use Rattle.std.proofs.Math.Bool.{true, false}
use Rattle.std.proofs.Math.ListN.{length}
use borrow.Author.Tests.{eqb-false}
use Rattle.octets.specs.Pick.{pick, pick_ind}
use Rattle.octets.specs.Octets.{Octets}
use Rattle.type2_number.specs.Number.{Read, cut, operator, number, number_at, Reading}
use Rattle.type2_number.specs.NumberLaws.{OperatorByte, operator-byte}
use Rattle.type2_number.specs.Readings.{ReadingRead, reading-at}
use Rattle.charstring.specs.Token.{Tok, num, op, esc, mask, is_mask, mask_len, Lexeme, lost, got_num, got_op, got_esc, got_mask, mask_at, operator_at, plain_at, token_at, join, onward, more, tokens_from, tokens_of, start}
use Rattle.charstring.specs.Encode.{encode}
use Rattle.charstring.specs.Answers.{Within}
use Rattle.charstring.specs.Proper.{OneByte, Proper, lengths_of}
use Rattle.charstring.specs.TokensLaws.{bit, fuel_of, Fine, fine, start-within}
use Rattle.charstring.specs.TokensRound.{lengths_back}
use Rattle.charstring.specs.declared.MaskLen.{MaskLen}
use Rattle.charstring.specs.declared.Cursor.{Cursor}

no : ◌≡◌ {A = ℕ} 0 1 → ⊥
no h = omega arith

-- a lexeme of the kind that can stand where a mask is due, or where none is
Kind : Bool → Lexeme → Type 0
Kind d lost = Unit
Kind true (got_num z x) = ⊥
Kind false (got_num z x) = Reading z × (x.due ≡ false)
Kind true (got_op b x) = ⊥
Kind false (got_op b x) = OneByte b × (x.due ≡ is_mask b)
Kind true (got_esc b x) = ⊥
Kind false (got_esc b x) = x.due ≡ false
Kind true (got_mask a n x) = x.due ≡ false
Kind false (got_mask a n x) = ⊥

module _ (s : List ℕ) (octets : Octets s) (c : Cursor) where
  kind-mask : (n : ℕ) → Kind true (mask_at s c n)
  unfolding Kind
  kind-mask n = pick_ind (Kind true) (ltb (length s - c.at) n) lost _ (λ e. tt) (λ e. refl)

  kind-operator : (b : ℕ) → OperatorByte b → Kind false (operator_at s c b)
  unfolding Kind
  kind-operator b o =
      pick_ind (Kind false) (eqb b 12) _ _ (λ e. pick_ind (Kind false) (ltb (length s - c.at) 2) lost _ (λ f. tt) (λ f. refl))
      (λ e. (record { low = o.low; not_number = o.other; not_escape = eqb-false b 12 e }, refl))

  kind-plain : (q : Read) → number_at s c.at ≡ q → ReadingRead q → Kind false (plain_at s c q)
  unfolding Kind
  kind-plain cut e r = tt
  kind-plain operator e r = kind-operator (get_or s c.at 0) (operator-byte s c.at e)
  kind-plain (number z n) e r = (r, refl)

  kind : (len : MaskLen) (d : Bool) → c.due ≡ d → Kind d (token_at s len c)
  unfolding token_at
  kind len true e =
      subst (λ (x : Bool). Kind true (pick x (mask_at s c (mask_len len c.stems)) (plain_at s c (number_at s c.at)))) (sym e) (kind-mask (mask_len len c.stems))
  kind len false e =
      subst (λ (x : Bool). Kind false (pick x (mask_at s c (mask_len len c.stems)) (plain_at s c (number_at s c.at)))) (sym e)
      (kind-plain (number_at s c.at) refl (reading-at s c.at octets))

-- a token before the others
join-tokens : (t : Tok) (x : Option (List Tok)) (ts : List Tok) → join (t ∷ []) x ≡ Some ts → (us : List Tok) × (x ≡ Some us) × (t ∷ us ≡ ts)
join-tokens t None ts e = absurd (no cc)
join-tokens t (Some us) ts e = (us, refl, cc)

module _ (s : List ℕ) (c : Cursor) (rest : Cursor → Option (List Tok))
    (ih : (x : Cursor) → Within s x → fuel_of s x < fuel_of s c → (us : List Tok) → rest x ≡ Some us → Proper x.due us) where
  proper_onward : (d : Bool) (q : Lexeme) → Kind d q → Fine s c q → (ts : List Tok) → onward s q rest ≡ Some ts → Proper d ts
  unfolding Kind
  proper_onward d lost k f ts e = absurd (no cc)
  proper_onward true (got_num z x) k f ts e = absurd k
  proper_onward false (got_num z x) k f ts e =
      let j = join-tokens (num z) (rest x) ts e in
      subst (Proper false) j.2 (k.0, subst (λ (y : Bool). Proper y j.0) k.1 (ih x f.1.within f.1.shorter j.0 j.1))
  proper_onward true (got_op b x) k f ts e = absurd k
  proper_onward false (got_op b x) k f ts e =
      let j = join-tokens (op b) (rest x) ts e in
      subst (Proper false) j.2 (k.0, subst (λ (y : Bool). Proper y j.0) k.1 (ih x f.within f.shorter j.0 j.1))
  proper_onward true (got_esc b x) k f ts e = absurd k
  proper_onward false (got_esc b x) k f ts e =
      let j = join-tokens (esc b) (rest x) ts e in
      subst (Proper false) j.2 (subst (λ (y : Bool). Proper y j.0) k (ih x f.within f.shorter j.0 j.1))
  proper_onward false (got_mask a n x) k f ts e = absurd k
  proper_onward true (got_mask a n x) k f ts e =
      let j = join-tokens (mask (take n (drop a s))) (rest x) ts e in
      subst (Proper true) j.2 (subst (λ (y : Bool). Proper y j.0) k (ih x f.1.within f.1.shorter j.0 j.1))

module _ (given : ℕ → MaskLen) (s : List ℕ) (octets : Octets s) where
  proper_none : (c : Cursor) (d : Bool) → c.due ≡ d → bit d ≤ 0 → (ts : List Tok) → Some [] ≡ Some ts → Proper d ts
  proper_none c true e h ts f = absurd (no (omega arith))
  proper_none c false e h ts f = let g : [] ≡ ts = cc in subst (Proper false) g tt

  turn : (k : ℕ) (c : Cursor) → Within s c
      → ((x : Cursor) → Within s x → fuel_of s x < fuel_of s c → (us : List Tok) → tokens_from k given s x ≡ Some us → Proper x.due us)
      → (m : Bool) → more s c ≡ m → (d : Bool) → c.due ≡ d → (ts : List Tok) → tokens_from (suc k) given s c ≡ Some ts → Proper d ts
  unfolding tokens_from
  turn k c w ih true m d e ts f =
      proper_onward s c (tokens_from k given s) ih d (token_at s (given (c.at - 1)) c) (kind s octets c (given (c.at - 1)) d e)
      (fine s c w octets (given (c.at - 1)) m) ts (rw m at f)
  turn k c w ih false m true e ts f = absurd (true≢false (sym (ap (λ (x : Bool). pick x true (ltb c.at (length s))) e) ∙ m))
  turn k c w ih false m false e ts f = proper_none c false e (omega arith) ts (rw m at f)

  proper_from : (k : ℕ) (c : Cursor) → Within s c → fuel_of s c ≤ k → (d : Bool) → c.due ≡ d → (ts : List Tok) → tokens_from k given s c ≡ Some ts → Proper d ts
  unfolding tokens_from
  proper_from zero c w h d e ts f = proper_none c d e (let g : bit c.due ≡ bit d = ap bit e in omega arith) ts f
  proper_from (suc k) c w h d e ts f =
      turn k c w (λ x v l us g. proper_from k x v (omega arith) x.due refl us g) (more s c) refl d e ts f

  -- the tokens of a body are proper
  pub tokens_proper : (ts : List Tok) → tokens_of given s ≡ Some ts → Proper false ts
  unfolding tokens_of
  tokens_proper ts e = proper_from (2 * length s) start (start-within given s octets) (omega arith) false refl ts e

  -- and so, once written back, a body has the tokens it had
  pub recoded_tokens : (ts : List Tok) → tokens_of given s ≡ Some ts → tokens_of (lengths_of 0 ts) (encode ts) ≡ Some ts
  recoded_tokens ts e = lengths_back ts (tokens_proper ts e)
