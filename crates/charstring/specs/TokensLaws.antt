-- A body token by token: a step goes further on, what is left of a walk, and where a walk ends.
use Prim.Native.Nat.{ℕ, zero, suc, ◌+◌, ◌-◌, ◌*◌, ◌/◌, ◌≤◌, ◌<◌}
use Rattle.std.specs.Prelude.{◌≡◌, Bool, List, [], ◌∷◌, ◌++◌, ltb, eqb, ℤ, take, drop, get_or, None, Option, Some}
use Rattle.std.proofs.Math.Path.{refl, ap, subst}
use Rattle.std.proofs.Common.{sym, ap, ◌∙◌, append_assoc, ltb-false}
use Rattle.std.proofs.Math.Bool.{true, false}
use Rattle.std.proofs.lemmas.Bool.{false≢true}
use native.Mathlib.Omega.{arith}
use Rattle.std.proofs.Math.ListN.{length}
use Rattle.octets.specs.Pick.{pick, pick_ind}
use Rattle.octets.specs.Octets.{Octets}
use Rattle.type2_number.specs.Number.{mag, is_neg, Read, cut, operator, number, number_at, Reading}
use Rattle.type2_number.specs.NumberLaws.{Further, further}
use Rattle.type2_number.specs.Readings.{ReadingRead, reading-at, back-reading, holds}
use Rattle.type2_number.specs.EncodingLaws.{number_short}
use Rattle.type2_number.specs.Floats.{float_of, scaled_of}
use Rattle.charstring.specs.Token.{Tok, num, op, esc, mask, is_mask, is_stem, stems_after, mask_len, Lexeme, lost, got_num, got_op, got_esc, got_mask, mask_at, operator_at, plain_at, token_at, join, onward, more, tokens_from, tokens_of, start}
use Rattle.charstring.specs.Answers.{step_of, told, token_len_lem, Writable, Within}
use Rattle.charstring.specs.TokenLaws.{byte_left}
use Rattle.charstring.specs.declared.MaskLen.{MaskLen}
use Rattle.charstring.specs.declared.Token.{Token}
use Rattle.charstring.specs.declared.Token.TheVariants.{Num, Op, Esc, Mask}
use Rattle.charstring.specs.declared.Cursor.{Cursor}

no : ◌≡◌ {A = ℕ} 0 1 → ⊥
no h = omega arith

abbrev pub bit : Bool → ℕ
bit true = 1
bit false = 0

-- how many tokens can be left at a cursor
abbrev pub fuel_of : List ℕ → Cursor → ℕ
fuel_of s c = 2 * (length s - c.at) + bit c.due

-- from one cursor to the next over a token of so many bytes
pub record Moves (s : List ℕ) (c d : Cursor) (bytes : ℕ) : Type 0 where
  pub within : Within s d
  pub shorter : fuel_of s d < fuel_of s c
  pub grows : bytes + 5 * c.at ≤ 5 * d.at

-- what a step to a token says
pub record Next (s : List ℕ) (c : Cursor) (q : Lexeme) (t : Token) (d : Cursor) : Type 0 where
  pub moves : Moves s c d (token_len_lem t)
  pub writable : Writable s t
  pub goes : (rest : Cursor → Option (List Tok)) → onward s q rest ≡ join (told s t ∷ []) (rest d)

-- what holds of a lexeme: its number is a reading, its mask lies in the body, and the cursor after it is further on
abbrev pub Fine : List ℕ → Cursor → Lexeme → Type 0
Fine s c lost = Unit
Fine s c (got_num z d) = Reading z × Moves s c d 5
Fine s c (got_op b d) = Moves s c d 1
Fine s c (got_esc b d) = Moves s c d 2
Fine s c (got_mask start n d) = (start + n ≤ length s) × Moves s c d n

stems_bound : (b args stems : ℕ) → stems_after b args stems ≤ stems + args
stems_bound b args stems = pick_ind (λ (n : ℕ). n ≤ stems + args) (is_stem b) (stems + args / 2) stems (λ e. omega arith) (λ e. omega arith)

due-bit : (t : Bool) → bit t ≤ 1
due-bit true = omega arith
due-bit false = omega arith

module _ (s : List ℕ) (c : Cursor) (w : Within s c) where
  fine_mask : (n : ℕ) → c.due ≡ true → Fine s c (mask_at s c n)
  fine_mask n e =
      pick_ind (Fine s c) (ltb (length s - c.at) n) lost _ (λ f. tt)
      (λ f. let l = ltb-false (length s - c.at) n f in
      let one : bit c.due ≡ 1 = ap bit e in
      let p = w.behind e in (
        omega (arith, w.inside),
        record {
          within = record { inside = omega (arith, w.inside); counted = omega (arith, w.counted); behind = λ x. absurd (false≢true x) };
          shorter = omega (arith, w.inside);
          grows = omega arith;
        },
      ))

  module _ (h : c.at < length s) (e : c.due ≡ false) where
    nothing-due : bit c.due ≡ 0
    nothing-due = ap bit e

    fine_op : (b : ℕ) → Fine s c (operator_at s c b)
    fine_op b =
        let z = nothing-due in
        pick_ind (Fine s c) (eqb b 12) _ _
        (λ f. pick_ind (Fine s c) (ltb (length s - c.at) 2) lost _ (λ g. tt)
        (λ g. let l = ltb-false (length s - c.at) 2 g in record {
          within = record { inside = omega arith; counted = omega (arith, w.counted); behind = λ x. absurd (false≢true x) };
          shorter = omega arith;
          grows = omega arith;
        }))
        (λ f. record {
          within = record { inside = omega arith; counted = omega (arith, w.counted, stems_bound b c.args c.stems); behind = λ x. omega arith };
          shorter = omega (arith, due-bit (is_mask b));
          grows = omega arith;
        })

    fine_plain : (q : Read) → Further s c.at q → ReadingRead q → Fine s c (plain_at s c q)
    fine_plain cut f r = tt
    fine_plain operator f r = fine_op (get_or s c.at 0)
    fine_plain (number z n) f r =
        let o = nothing-due in (
          r,
          record {
            within = record { inside = f.1; counted = omega (arith, w.counted, f.0); behind = λ x. absurd (false≢true x) };
            shorter = omega (arith, f.0, f.1);
            grows = omega (arith, f.0);
          },
        )

  fine_due : (b : Octets s) (len : MaskLen) (t : Bool) → c.due ≡ t → more s c ≡ true → Fine s c (token_at s len c)
  unfolding token_at
  fine_due b len true e m =
      subst (λ (x : Bool). Fine s c (pick x (mask_at s c (mask_len len c.stems)) (plain_at s c (number_at s c.at)))) (sym e)
      (fine_mask (mask_len len c.stems) e)
  fine_due b len false e m =
      let h = byte_left s c e m in
      subst (λ (x : Bool). Fine s c (pick x (mask_at s c (mask_len len c.stems)) (plain_at s c (number_at s c.at)))) (sym e)
      (fine_plain h e (number_at s c.at) (further s c.at h) (reading-at s c.at b))

  pub fine : Octets s → (len : MaskLen) → more s c ≡ true → Fine s c (token_at s len c)
  fine b len m = fine_due b len c.due refl m

-- the step's answer, taken apart
next-num : (s : List ℕ) (c d : Cursor) (z : ℤ) → Reading z → Moves s c d 5 → Next s c (got_num z d) (Num (float_of z)) d
next-num s c d z r m =
    let k = number_short (is_neg (scaled_of (float_of z))) (mag (scaled_of (float_of z))) in
    record {
      moves = record { within = m.within; shorter = m.shorter; grows = omega (arith, m.grows, k.few) };
      writable = holds z r;
      goes = λ rest. ap (λ (y : ℤ). join (num y ∷ []) (rest d)) (sym (back-reading z r));
    }

next_as : (s : List ℕ) (c : Cursor) (q : Lexeme) (t u : Token) (d e : Cursor) → t ≡ u → d ≡ e → Next s c q t d → Next s c q u e
next_as s c q t u d e f g n = subst (λ (x : Cursor). Next s c q u x) g (subst (λ (x : Token). Next s c q x d) f n)

-- a token and where reading stands after it, each by itself
pub read_parts : (t u : Token) (c d : Cursor) → ◌≡◌ {A = Option (Token × Cursor)} (Some (t, c)) (Some (u, d)) → (t ≡ u) × (c ≡ d)
read_parts t u c d e =
    let p : ◌≡◌ {A = Token × Cursor} (t, c) (u, d) = cc in (ap (λ (q : Token × Cursor). q.0) p, ap (λ (q : Token × Cursor). q.1) p)

next_fine : (s : List ℕ) (c : Cursor) (q : Lexeme) → Fine s c q → (t : Token) (d : Cursor) → step_of q ≡ Some (t, d) → Next s c q t d
next_fine s c lost f t d e = absurd (no cc)
next_fine s c (got_num z x) f t d e = next_as s c (got_num z x) (Num (float_of z)) t x d (read_parts _ _ _ _ e).0 (read_parts _ _ _ _ e).1 (next-num s c x z f.0 f.1)
next_fine s c (got_op b x) f t d e = next_as s c (got_op b x) (Op b) t x d (read_parts _ _ _ _ e).0 (read_parts _ _ _ _ e).1 (record { moves = f; writable = tt; goes = λ rest. refl })
next_fine s c (got_esc b x) f t d e = next_as s c (got_esc b x) (Esc b) t x d (read_parts _ _ _ _ e).0 (read_parts _ _ _ _ e).1 (record { moves = f; writable = tt; goes = λ rest. refl })
next_fine s c (got_mask a n x) f t d e = next_as s c (got_mask a n x) (Mask a n) t x d (read_parts _ _ _ _ e).0 (read_parts _ _ _ _ e).1 (record { moves = f.1; writable = f.0; goes = λ rest. refl })

pub next_of : (s : List ℕ) (c : Cursor) (len : MaskLen) → Octets s → Within s c → more s c ≡ true → (r : Option (Token × Cursor)) → r ≡ step_of (token_at s len c)
    → (t : Token) (d : Cursor) → r ≡ Some (t, d) → Next s c (token_at s len c) t d
next_of s c len b w m r e t d f = next_fine s c (token_at s len c) (fine s c w b len m) t d (sym e ∙ f)

lost_is : (q : Lexeme) → step_of q ≡ None → q ≡ lost
lost_is lost e = refl
lost_is (got_num z x) e = absurd (no cc)
lost_is (got_op b x) e = absurd (no cc)
lost_is (got_esc b x) e = absurd (no cc)
lost_is (got_mask a n x) e = absurd (no cc)

pub lost_of : (s : List ℕ) (c : Cursor) (len : MaskLen) (r : Option (Token × Cursor)) → r ≡ step_of (token_at s len c) → r ≡ None → token_at s len c ≡ lost
lost_of s c len r e f = lost_is (token_at s len c) (sym e ∙ f)

-- ---- enough is enough

pub join-join : (ts us : List Tok) (b : Option (List Tok)) → join (ts ++ us) b ≡ join ts (join us b)
join-join ts us None = refl
join-join ts us (Some vs) = ap Some (append_assoc ts us vs)

pub join-none : (b : Option (List Tok)) → join [] b ≡ b
join-none None = refl
join-none (Some ts) = refl

same-onward : (s : List ℕ) (c : Cursor) (q : Lexeme) → Fine s c q → (f g : Cursor → Option (List Tok))
    → ((d : Cursor) → Within s d → fuel_of s d < fuel_of s c → f d ≡ g d) → onward s q f ≡ onward s q g
same-onward s c lost h f g e = refl
same-onward s c (got_num z d) h f g e = ap (join (num z ∷ [])) (e d h.1.within h.1.shorter)
same-onward s c (got_op b d) h f g e = ap (join (op b ∷ [])) (e d h.within h.shorter)
same-onward s c (got_esc b d) h f g e = ap (join (esc b ∷ [])) (e d h.within h.shorter)
same-onward s c (got_mask a n d) h f g e = ap (join (mask (take n (drop a s)) ∷ [])) (e d h.1.within h.1.shorter)

-- a token left takes fuel
some_fuel : (s : List ℕ) (c : Cursor) (t : Bool) → c.due ≡ t → more s c ≡ true → 0 < fuel_of s c
some_fuel s c true e m = let k : bit c.due ≡ 1 = ap bit e in omega arith
some_fuel s c false e m = let h = byte_left s c e m in omega arith

module _ (given : ℕ → MaskLen) (s : List ℕ) (b : Octets s) where
  none_left : (k : ℕ) (c : Cursor) → more s c ≡ false → tokens_from k given s c ≡ Some []
  unfolding tokens_from
  none_left zero c e = refl
  none_left (suc k) c e = rw e

  more_turn : (k j : ℕ) (c : Cursor) → Within s c → ((d : Cursor) → Within s d → fuel_of s d < fuel_of s c → tokens_from k given s d ≡ tokens_from j given s d)
      → (t : Bool) → more s c ≡ t → tokens_from (suc k) given s c ≡ tokens_from (suc j) given s c
  unfolding tokens_from
  more_turn k j c w h false e = rw e
  more_turn k j c w h true e =
      rw e (same-onward s c (token_at s (given (c.at - 1)) c) (fine s c w b (given (c.at - 1)) e) (tokens_from k given s) (tokens_from j given s) h)

  no_fuel : (c : Cursor) → fuel_of s c ≤ 0 → (t : Bool) → more s c ≡ t → more s c ≡ false
  no_fuel c p false e = e
  no_fuel c p true e = let o = some_fuel s c c.due refl e in absurd (no (omega arith))

  -- k and j tokens are enough, so they give the same
  enough : (k j : ℕ) (c : Cursor) → Within s c → fuel_of s c ≤ k → fuel_of s c ≤ j → tokens_from k given s c ≡ tokens_from j given s c
  enough zero j c w p q = let e = no_fuel c p (more s c) refl in none_left 0 c e ∙ sym (none_left j c e)
  enough (suc k) zero c w p q = let e = no_fuel c q (more s c) refl in none_left (suc k) c e ∙ sym (none_left 0 c e)
  enough (suc k) (suc j) c w p q = more_turn k j c w (λ d v l. enough k j d v (omega arith) (omega arith)) (more s c) refl

  -- the tokens from a cursor on, with as much fuel as it can need
  abbrev pub left_from : Cursor → Option (List Tok)
  left_from c = tokens_from (fuel_of s c) given s c

  pub left-none : (c : Cursor) → more s c ≡ false → left_from c ≡ Some []
  left-none c e = none_left (fuel_of s c) c e

  turned : (k : ℕ) (c : Cursor) → more s c ≡ true → tokens_from (suc k) given s c ≡ onward s (token_at s (given (c.at - 1)) c) (tokens_from k given s)
  unfolding tokens_from
  turned k c e = rw e

  left-turn : (c : Cursor) → Within s c → more s c ≡ true → left_from c ≡ onward s (token_at s (given (c.at - 1)) c) (tokens_from (fuel_of s c) given s)
  left-turn c w e = enough (fuel_of s c) (suc (fuel_of s c)) c w (omega arith) (omega arith) ∙ turned (fuel_of s c) c e

  -- one token, and what is left after it
  pub left-next : (c : Cursor) → Within s c → more s c ≡ true → (t : Token) (d : Cursor) → Next s c (token_at s (given (c.at - 1)) c) t d
      → left_from c ≡ join (told s t ∷ []) (left_from d)
  left-next c w e t d n =
      left-turn c w e ∙ n.goes (tokens_from (fuel_of s c) given s)
      ∙ ap (join (told s t ∷ [])) (enough (fuel_of s c) (fuel_of s d) d n.moves.within (omega (arith, n.moves.shorter)) (omega arith))

  pub left_lost : (c : Cursor) → Within s c → more s c ≡ true → token_at s (given (c.at - 1)) c ≡ lost → left_from c ≡ None
  left_lost c w e f = left-turn c w e ∙ ap (λ (q : Lexeme). onward s q (tokens_from (fuel_of s c) given s)) f

  pub start-within : Within s start
  start-within = record { inside = omega arith; counted = omega arith; behind = λ x. absurd (false≢true x) }

  pub left-start : tokens_of given s ≡ left_from start
  unfolding tokens_of
  left-start = ap (λ (k : ℕ). tokens_from k given s start) (let e : 2 * length s ≡ fuel_of s start = omega arith in e)
