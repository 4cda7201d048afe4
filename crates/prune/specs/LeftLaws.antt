-- What is left of a body's tokens from a place on (charstring's Token.antt), and its first token by what stands at the place.
use Prim.Native.Nat.{ℕ, zero, suc, ◌+◌, ◌-◌, ◌*◌, ◌≤◌, ◌<◌}
use Rattle.std.specs.Prelude.{◌≡◌, refl, Bool, List, [], ◌∷◌, eqb, ℤ, take, drop, get_or, None, Option, Some}
use Rattle.std.proofs.Math.Path.{sym, ap, subst}
use Rattle.std.proofs.Common.{◌∙◌, arith}
use Rattle.std.proofs.Math.Bool.{true, false}
use Rattle.std.proofs.Math.Dec.{ltb}
use Rattle.std.proofs.Math.ListN.{length}
use borrow.Author.Tests.{lt-ltb}
use Rattle.octets.specs.Pick.{pick}
use Rattle.octets.specs.Octets.{Octets}
use Rattle.type2_number.specs.Number.{Read, operator, number, number_at}
use Rattle.charstring.specs.Token.{Tok, num, op, esc, mask, is_mask, stems_after, mask_len, Lexeme, lost, got_op, got_esc, got_mask, mask_at, operator_at, plain_at, token_at, join, onward, more, tokens_from, tokens_of, start}
use Rattle.charstring.specs.Answers.{Within}
use Rattle.charstring.specs.TokensLaws.{bit, fuel_of, Fine, Moves, fine, start-within}
use Rattle.charstring.specs.declared.MaskLen.{MaskLen}
use Rattle.charstring.specs.declared.MaskLen.TheVariants.{Given}
use Rattle.charstring.specs.declared.Cursor.{Cursor}
use Rattle.prune.specs.StepLaws.{zero_one, Operator}

-- the tokens from a place on, read by some cursor there; `due` where a mask's bytes come next
pub record Left (given : ℕ → MaskLen) (s : List ℕ) (at : ℕ) (due : Bool) (ts : List Tok) : Type 0 where
  pub cursor : Cursor
  pub fuel : ℕ
  pub place : cursor.at ≡ at
  pub mark : cursor.due ≡ due
  pub within : Within s cursor
  pub enough : fuel_of s cursor ≤ fuel
  pub rest : tokens_from fuel given s cursor ≡ Some ts

-- a token and what is left behind it
pub record Then (given : ℕ → MaskLen) (s : List ℕ) (t : Tok) (at : ℕ) (due : Bool) (ts : List Tok) : Type 0 where
  pub others : List Tok
  pub is : ts ≡ t ∷ others
  pub left : Left given s at due others

-- a token before the others
join-tokens : (t : Tok) (x : Option (List Tok)) (ts : List Tok) → join (t ∷ []) x ≡ Some ts → (us : List Tok) × (x ≡ Some us) × (ts ≡ t ∷ us)
join-tokens t None ts e = absurd (zero_one cc)
join-tokens t (Some us) ts e = (us, refl, cc)

module _ (given : ℕ → MaskLen) (s : List ℕ) (octets : Octets s) where
  -- a token that was read, by the cursor behind it
  read : (c d : Cursor) (j : ℕ) (t : Tok) (n : ℕ) (ts : List Tok) → Moves s c d n → fuel_of s c ≤ suc j → join (t ∷ []) (tokens_from j given s d) ≡ Some ts
      → Then given s t d.at d.due ts
  read c d j t n ts m h e =
      let p = join-tokens t (tokens_from j given s d) ts e in
      record {
        others = p.0;
        is = p.2;
        left = record { cursor = d; fuel = j; place = refl; mark = refl; within = m.within; enough = omega (arith, m.shorter); rest = p.1 };
      }

  -- a step of the reading
  turn : (c : Cursor) (k : ℕ) (q : Lexeme) (ts : List Tok) → Within s c → fuel_of s c ≤ k → 0 < fuel_of s c → more s c ≡ true
      → token_at s (given (c.at - 1)) c ≡ q → tokens_from k given s c ≡ Some ts
      → (j : ℕ) × (fuel_of s c ≤ suc j) × (onward s q (tokens_from j given s) ≡ Some ts) × Fine s c q
  unfolding tokens_from
  turn c zero q ts w h o m f e = absurd (zero_one (omega arith))
  turn c (suc j) q ts w h o m f e = (
    j,
    h,
    ap (λ (x : Lexeme). onward s x (tokens_from j given s)) (sym f)
        ∙ sym (ap (λ (x : Bool). pick x (onward s (token_at s (given (c.at - 1)) c) (tokens_from j given s)) (Some [])) m) ∙ e,
    subst (Fine s c) f (fine s c w octets (given (c.at - 1)) m),
  )

  -- at a place where no mask is due
  turn-plain : (at : ℕ) (ts : List Tok) (x : Left given s at false ts) (q : Read) → at < length s → number_at s at ≡ q
      → (j : ℕ) × (fuel_of s x.cursor ≤ suc j) × (onward s (plain_at s x.cursor q) (tokens_from j given s) ≡ Some ts) × Fine s x.cursor (plain_at s x.cursor q)
  unfolding token_at
  turn-plain at ts x q h f =
      let c = x.cursor in
      let l : c.at < length s = omega (arith, x.place) in
      turn c x.fuel (plain_at s c q) ts x.within x.enough (omega arith)
      (ap (λ (y : Bool). pick y true (ltb c.at (length s))) x.mark ∙ lt-ltb c.at (length s) l)
      (ap (λ (y : Bool). pick y (mask_at s c (mask_len (given (c.at - 1)) c.stems)) (plain_at s c (number_at s c.at))) x.mark
      ∙ ap (plain_at s c) (ap (number_at s) x.place ∙ f))
      x.rest

  then_at : (t : Tok) (a b : ℕ) (due : Bool) (ts : List Tok) → a ≡ b → Then given s t a due ts → Then given s t b due ts
  then_at t a b due ts e x = subst (λ (n : ℕ). Then given s t n due ts) e x

  pub left-number : (at : ℕ) (ts : List Tok) → Left given s at false ts → (z : ℤ) (n : ℕ) → at < length s → number_at s at ≡ number z n
      → Then given s (num z) n false ts
  left-number at ts x z n h f =
      let p = turn-plain at ts x (number z n) h f in
      read x.cursor _ p.0 (num z) 5 ts p.3.1 p.1 p.2

  -- at an operator
  turn-operator : (at : ℕ) (ts : List Tok) (x : Left given s at false ts) (b : ℕ) → at < length s → Operator s at b
      → (j : ℕ) × (fuel_of s x.cursor ≤ suc j) × (onward s (operator_at s x.cursor b) (tokens_from j given s) ≡ Some ts) × Fine s x.cursor (operator_at s x.cursor b)
  turn-operator at ts x b h o =
      let p = turn-plain at ts x operator h o.here in
      let e : get_or s x.cursor.at 0 ≡ b = ap (λ (n : ℕ). get_or s n 0) x.place ∙ o.byte in
      subst (λ (y : ℕ). (j : ℕ) × (fuel_of s x.cursor ≤ suc j) × (onward s (operator_at s x.cursor y) (tokens_from j given s) ≡ Some ts) × Fine s x.cursor (operator_at s x.cursor y)) e p

  pub left_op : (at : ℕ) (ts : List Tok) → Left given s at false ts → (b : ℕ) → at < length s → Operator s at b → eqb b 12 ≡ false
      → Then given s (op b) (at + 1) (is_mask b) ts
  left_op at ts x b h o n =
      let p = turn-operator at ts x b h o in
      let c = x.cursor in
      let d : Cursor = record { at = c.at + 1; args = 0; stems = stems_after b c.args c.stems; due = is_mask b } in
      let e : operator_at s c b ≡ got_op b d = rw n in
      then_at (op b) (c.at + 1) (at + 1) (is_mask b) ts (omega (arith, x.place))
      (read c d p.0 (op b) 1 ts (subst (Fine s c) e p.3) p.1
      (ap (λ (q : Lexeme). onward s q (tokens_from p.0 given s)) (sym e) ∙ p.2))

  pub left-escape : (at : ℕ) (ts : List Tok) → Left given s at false ts → (e : ℕ) → at < length s → Operator s at 12 → get_or s (at + 1) 0 ≡ e
      → ltb (length s - at) 2 ≡ false → Then given s (esc e) (at + 2) false ts
  left-escape at ts x e h o f n =
      let p = turn-operator at ts x 12 h o in
      let c = x.cursor in
      let d : Cursor = record { at = c.at + 2; args = 0; stems = c.stems; due = false } in
      let g : operator_at s c 12 ≡ got_esc e d
      = ap (λ (t : Bool). pick t lost (got_esc (get_or s (c.at + 1) 0) d)) (ap (λ (a : ℕ). ltb (length s - a) 2) x.place ∙ n)
      ∙ ap (λ (y : ℕ). got_esc y d) (ap (λ (a : ℕ). get_or s (a + 1) 0) x.place ∙ f) in
      then_at (esc e) (c.at + 2) (at + 2) false ts (omega (arith, x.place))
      (read c d p.0 (esc e) 2 ts (subst (Fine s c) g p.3) p.1
      (ap (λ (q : Lexeme). onward s q (tokens_from p.0 given s)) (sym g) ∙ p.2))

  -- a mask's bytes, as many as are given for the operator's place
  pub left-mask : (at : ℕ) (ts : List Tok) → Left given s at true ts → (len : ℕ) → given (at - 1) ≡ Given len → ltb (length s - at) len ≡ false
      → Then given s (mask (take len (drop at s))) (at + len) false ts
  unfolding token_at
  left-mask at ts x len f n =
      let c = x.cursor in
      let d : Cursor = record { at = c.at + len; args = 0; stems = c.stems; due = false } in
      let one : bit c.due ≡ 1 = ap bit x.mark in
      let l : mask_len (given (c.at - 1)) c.stems ≡ len = ap (λ (a : ℕ). mask_len (given (a - 1)) c.stems) x.place ∙ ap (λ (g : MaskLen). mask_len g c.stems) f in
      let g : mask_at s c len ≡ got_mask c.at len d
      = ap (λ (t : Bool). pick t lost (got_mask c.at len d)) (ap (λ (a : ℕ). ltb (length s - a) len) x.place ∙ n) in
      let p = turn c x.fuel (got_mask c.at len d) ts x.within x.enough (omega arith)
      (ap (λ (y : Bool). pick y true (ltb c.at (length s))) x.mark)
      (ap (λ (y : Bool). pick y (mask_at s c (mask_len (given (c.at - 1)) c.stems)) (plain_at s c (number_at s c.at))) x.mark ∙ ap (mask_at s c) l ∙ g)
      x.rest in
      subst (λ (a : ℕ). Then given s (mask (take len (drop a s))) (a + len) false ts) x.place
      (read c d p.0 (mask (take len (drop c.at s))) len ts p.3.1 p.1 p.2)

  pub left-start : (ts : List Tok) → tokens_of given s ≡ Some ts → Left given s 0 false ts
  unfolding tokens_of
  left-start ts e = record { cursor = start; fuel = 2 * length s; place = refl; mark = refl; within = start-within given s octets; enough = omega arith; rest = e }
