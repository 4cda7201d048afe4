-- A place in a body beside the place in the renumbered body: what stands in the one stands in the other, a number that waits excepted,
-- which the renumbered body has still before it: as it was, or another one if a call takes it.
use Rattle.std.specs.Prelude.{ℕ, ◌+◌, ◌-◌, ◌≤◌, ◌<◌, ◌≡◌, Bool, true, false, List, [], ◌∷◌, ◌++◌, ltb, eqb, ℤ, get_or, None, Option, Some}
use Rattle.std.proofs.Math.Path.{refl, ap, subst}
use Rattle.std.proofs.Common.{sym, ◌∙◌, add-zero, length-append, get_or-drop, drop-drop, drop_at}
use native.Mathlib.Omega.{arith}
use Rattle.std.proofs.Math.ListN.{length, take, drop, length-drop}
use Rattle.std.proofs.Math.Seq.{take_at, length-take-le}
use borrow.Author.Tests.{le-ltb, ltb-false}
use Rattle.octets.specs.Octets.{Octets}
use Rattle.type2_number.specs.Number.{mag, is_neg, number, number_at, Reading}
use Rattle.type2_number.specs.Encoding.{encoded}
use Rattle.type2_number.specs.EncodingLaws.{number_short}
use Rattle.type2_number.specs.NumberLaws.{OperatorByte, operator-byte, form_op}
use Rattle.type2_number.specs.NumberRound.{number-back}
use Rattle.type2_number.specs.Readings.{ReadingRead, reading-at}
use Rattle.charstring.specs.Token.{Tok, num, op, esc, is_mask}
use Rattle.charstring.specs.Encode.{encode}
use Rattle.charstring.specs.declared.MaskLen.{MaskLen}
use Rattle.charstring.specs.declared.MaskLen.TheVariants.{Given}
use Rattle.prune.specs.Renumber.{Calls, is_call, renumber, renumber_charstring}
use Rattle.prune.specs.StepLaws.{Operator}
use Rattle.prune.specs.LeftLaws.{Left, left-number, left_op, left-escape, left-mask, left-start}
use Rattle.prune.specs.RenumberLaws.{kept_before, renumber-num, renumber_op, renumber-esc, renumber-mask, renumber_call, renumbered-whole}

-- ---- what was written stands there

-- a number z at a place, and the place after it
pub record Number (s : List ℕ) (at : ℕ) (z : ℤ) (next : ℕ) : Type 0 where
  pub read : number_at s at ≡ number z next
  pub inside : at < length s
  pub further : at < next

module _ (s : List ℕ) (at : ℕ) (front rest : List ℕ) (lies : drop at s ≡ front ++ rest) where
  behind : drop (at + length front) s ≡ rest
  behind = sym (drop-drop (length front) at s) ∙ ap (drop (length front)) lies ∙ drop_at front rest (length front) refl

  room : length s - at ≡ length front + length rest
  room = sym (length-drop at s) ∙ ap length lies ∙ length-append front rest

  byte : (i : ℕ) → get_or s (at + i) 0 ≡ get_or (front ++ rest) i 0
  byte i = sym (get_or-drop at s i 0) ∙ ap (λ (x : List ℕ). get_or x i 0) lies

written-number : (s : List ℕ) (at : ℕ) (z : ℤ) (rest : List ℕ) → Reading z → drop at s ≡ encoded z ++ rest → Number s at z (at + length (encoded z))
written-number s at z rest r lies =
    let n = number_short (is_neg z) (mag z) in
    let k = room s at (encoded z) rest lies in
    record { read = number-back z r s at rest lies; inside = omega (arith, n.some); further = omega (arith, n.some) }

written-operator : (s : List ℕ) (at b : ℕ) (rest : List ℕ) → OperatorByte b → drop at s ≡ b ∷ rest → (at < length s) × Operator s at b
written-operator s at b rest o lies =
    let k = room s at (b ∷ []) rest lies in
    let f : get_or s at 0 ≡ b = ap (λ (j : ℕ). get_or s j 0) (sym (add-zero at)) ∙ byte s at (b ∷ []) rest lies 0 in
    (omega arith, record { here = form_op s at (omega (arith, o.low)) (λ e. o.other (sym f ∙ e)); byte = f })

-- ---- the two places

-- the number that waits is a reading
abbrev Readable : Option ℤ → Type 0
Readable None = Unit
Readable (Some z) = Reading z

module _ (given : ℕ → MaskLen) (calls : Calls) (s s' : List ℕ) where
  pub record Beside (w : Option ℤ) (at at' : ℕ) : Type 0 where
    pub old : List Tok
    pub new : List Tok
    pub left : Left given s at false old
    pub turns : renumber calls w old ≡ Some new
    pub lies : drop at' s' ≡ encode new
    pub waiting : Readable w

  -- the number that waited stands there unchanged
  abbrev pub Caught : Option ℤ → ℕ → ℕ → Type 0
  Caught None at' p = at' ≡ p
  Caught (Some z) at' p = Number s' at' z p

  -- past the number that waited, if it is kept
  catch : (w : Option ℤ) (at' : ℕ) (us : List Tok) → Readable w → drop at' s' ≡ encode (kept_before w us) → (p : ℕ) × Caught w at' p × (drop p s' ≡ encode us)
  unfolding encode
  catch None at' us r lies = (at', refl, lies)
  catch (Some z) at' us r lies =
      (at' + length (encoded z), written-number s' at' z (encode us) r lies, behind s' at' (encoded z) (encode us) lies)

  -- the operator b stands in the renumbered body, past the number that waited
  pub record Met (w : Option ℤ) (at' b p : ℕ) : Type 0 where
    pub caught : Caught w at' p
    pub inside : p < length s'
    pub operates : Operator s' p b

  met : (w : Option ℤ) (at' b p : ℕ) (rest : List ℕ) → OperatorByte b → Caught w at' p → drop p s' ≡ b ∷ rest → Met w at' b p
  met w at' b p rest o c lies =
      let v = written-operator s' p b rest o lies in
      record { caught = c; inside = v.0; operates = v.1 }

  module _ (octets : Octets s) where
    pub beside-start : renumber_charstring calls given s ≡ Some s' → Beside None 0 0
    beside-start e =
        let x = renumbered-whole calls given s s' e in
        record { old = x.old; new = x.new; left = left-start given s octets x.old x.reads; turns = x.turns; lies = x.writes; waiting = tt }

    operator-at : (at b : ℕ) → Operator s at b → OperatorByte b
    operator-at at b o = subst OperatorByte o.byte (operator-byte s at o.here)

    module _ (w : Option ℤ) (at at' : ℕ) (x : Beside w at at') (h : at < length s) where
      turned : (t : Tok) (others : List Tok) → x.old ≡ t ∷ others → renumber calls w (t ∷ others) ≡ Some x.new
      turned t others e = ap (renumber calls w) (sym e) ∙ x.turns

      pub beside-number : (z : ℤ) (n : ℕ) → number_at s at ≡ number z n → (p : ℕ) × Caught w at' p × Beside (Some z) n p
      beside-number z n f =
          let t = left-number given s octets at x.old x.left z n h f in
          let q = renumber-num calls w t.others x.new z (turned (num z) t.others t.is) in
          let c = catch w at' q.0 x.waiting (x.lies ∙ ap encode q.2) in
          (c.0, c.1, record { old = t.others; new = q.0; left = t.left; turns = q.1; lies = c.2; waiting = subst ReadingRead f (reading-at s at octets) })

      -- an operator that is no call, no escape and no mask
      pub beside-operator : (b : ℕ) → Operator s at b → eqb b 12 ≡ false → is_call b ≡ false → is_mask b ≡ false
          → (p : ℕ) × Met w at' b p × Beside None (at + 1) (p + 1)
      unfolding encode
      beside-operator b o n c f =
          let t = left_op given s octets at x.old x.left b h o n in
          let q = renumber_op calls w t.others x.new b c (turned (op b) t.others t.is) in
          let p = catch w at' (op b ∷ q.0) x.waiting (x.lies ∙ ap encode q.2) in (
            p.0,
            met w at' b p.0 (encode q.0) (operator-at at b o) p.1 p.2,
            record {
              old = t.others;
              new = q.0;
              left = subst (λ (d : Bool). Left given s (at + 1) d t.others) f t.left;
              turns = q.1;
              lies = behind s' p.0 (b ∷ []) (encode q.0) p.2;
              waiting = tt;
            },
          )

      pub beside-escape : (e : ℕ) → Operator s at 12 → get_or s (at + 1) 0 ≡ e → ltb (length s - at) 2 ≡ false
          → (p : ℕ) × Met w at' 12 p × (get_or s' (p + 1) 0 ≡ e) × (ltb (length s' - p) 2 ≡ false) × Beside None (at + 2) (p + 2)
      unfolding encode
      beside-escape e o f n =
          let t = left-escape given s octets at x.old x.left e h o f n in
          let q = renumber-esc calls w t.others x.new e (turned (esc e) t.others t.is) in
          let p = catch w at' (esc e ∷ q.0) x.waiting (x.lies ∙ ap encode q.2) in
          let k = room s' p.0 (12 ∷ e ∷ []) (encode q.0) p.2 in
          let two : 2 ≤ length s' - p.0 = omega arith in (
            p.0,
            met w at' 12 p.0 (e ∷ encode q.0) (operator-at at 12 o) p.1 p.2,
            byte s' p.0 (12 ∷ e ∷ []) (encode q.0) p.2 1,
            le-ltb (length s' - p.0) 2 two,
            record {
              old = t.others;
              new = q.0;
              left = t.left;
              turns = q.1;
              lies = behind s' p.0 (12 ∷ e ∷ []) (encode q.0) p.2;
              waiting = tt;
            },
          )

      -- a mask of the length that is given for its place
      pub beside-mask : (b len : ℕ) → Operator s at b → eqb b 12 ≡ false → is_call b ≡ false → is_mask b ≡ true → given at ≡ Given len
          → ltb (length s - (at + 1)) len ≡ false
          → (p : ℕ) × Met w at' b p × (take len (drop (p + 1) s') ≡ take len (drop (at + 1) s)) × (ltb (length s' - (p + 1)) len ≡ false)
          × Beside None (at + 1 + len) (p + 1 + len)
      unfolding encode
      beside-mask b len o n c f g i =
          let bs = take len (drop (at + 1) s) in
          let a : at + 1 - 1 ≡ at = omega arith in
          let t = left_op given s octets at x.old x.left b h o n in
          let u = left-mask given s octets (at + 1) t.others (subst (λ (d : Bool). Left given s (at + 1) d t.others) f t.left) len (ap given a ∙ g) i in
          let q = renumber_op calls w t.others x.new b c (turned (op b) t.others t.is) in
          let v = renumber-mask calls None u.others q.0 bs (ap (renumber calls None) (sym u.is) ∙ q.1) in
          let p = catch w at' (op b ∷ q.0) x.waiting (x.lies ∙ ap encode q.2) in
          let lies : drop (p.0 + 1) s' ≡ bs ++ encode v.0 = behind s' p.0 (b ∷ []) (encode q.0) p.2 ∙ ap encode v.2 in
          let r = ltb-false (length s - (at + 1)) len i in
          let size : length bs ≡ len = length-take-le len (drop (at + 1) s) (rw length-drop r) in
          let k = room s' (p.0 + 1) bs (encode v.0) lies in
          let fits : len ≤ length s' - (p.0 + 1) = omega arith in (
            p.0,
            met w at' b p.0 (encode q.0) (operator-at at b o) p.1 p.2,
            ap (take len) lies ∙ take_at bs (encode v.0) len size,
            le-ltb (length s' - (p.0 + 1)) len fits,
            record {
              old = u.others;
              new = v.0;
              left = u.left;
              turns = v.1;
              lies = ap (λ (j : ℕ). drop (p.0 + 1 + j) s') (sym size) ∙ behind s' (p.0 + 1) bs (encode v.0) lies;
              waiting = tt;
            },
          )

    -- a call: it takes the number that waited, and another one stands in the renumbered body
    pub beside_call : (operand : (b : ℕ) (z y : ℤ) → calls b z ≡ Some y → Reading y) (z : ℤ) (at at' : ℕ) → Beside (Some z) at at' → at < length s
        → (b : ℕ) → Operator s at b → eqb b 12 ≡ false → is_call b ≡ true → is_mask b ≡ false
        → (y : ℤ) × (calls b z ≡ Some y) × (p : ℕ) × Met (Some y) at' b p × Beside None (at + 1) (p + 1)
    unfolding encode
    beside_call operand z at at' x h b o n c f =
        let t = left_op given s octets at x.old x.left b h o n in
        let q = renumber_call calls z b t.others x.new c (ap (renumber calls (Some z)) (sym t.is) ∙ x.turns) in
        let p = catch (Some q.0) at' (op b ∷ q.1) (operand b z q.0 q.2) (x.lies ∙ ap encode q.4) in (
          q.0,
          q.2,
          p.0,
          met (Some q.0) at' b p.0 (encode q.1) (operator-at at b o) p.1 p.2,
          record {
            old = t.others;
            new = q.1;
            left = subst (λ (d : Bool). Left given s (at + 1) d t.others) f t.left;
            turns = q.3;
            lies = behind s' p.0 (b ∷ []) (encode q.1) p.2;
            waiting = tt;
          },
        )
