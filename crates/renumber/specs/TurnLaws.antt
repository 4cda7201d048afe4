-- Laws of a body renumbered token by token: what was written so far and what is left give the whole.
use Rattle.std.specs.Prelude.{ℕ, ◌+◌, ◌≡◌, refl, Bool, true, false, List, [], ◌∷◌, ◌++◌, ℤ, Float, length, take, drop, None, Option, Some, Result, Ok, Err}
use Rattle.std.proofs.Common.{sym, ◌∙◌, append_assoc, append-nil, arith, length-append}
use Rattle.std.proofs.Math.Path.{ap, subst}
use Rattle.octets.specs.Pick.{pick}
use Rattle.type2_number.specs.Floats.{scaled_of, HoldsReading}
use Rattle.charstring.specs.declared.Token.{Token}
use Rattle.charstring.specs.declared.Token.TheVariants.{Num, Op, Esc, Mask}
use Rattle.charstring.specs.declared.Cursor.{Cursor}
use Rattle.charstring.specs.Token.{Tok, num, op, esc, mask, start}
use Rattle.charstring.specs.Encode.{encode}
use Rattle.charstring.specs.Answers.{told, Measurable, Writable}
use Rattle.charstring.specs.TokenLaws.{token-length}
use Rattle.charstring.specs.EncodeLaws.{encode-append}
use Rattle.prune.specs.StepLaws.{zero_one}
use Rattle.prune.specs.Renumber.{Calls, is_call, before, called, called_after, kept, renumber}
use Rattle.renumber.specs.Turn.{turn_for, call_turn, turn_of, after, held_after, turned_by, turned_at, held_bytes_lem, own_bytes, sent_bytes, held_len_lem, own_len, a_turn}
use Rattle.renumber.specs.declared.turns.Stuck.{Stuck}
use Rattle.renumber.specs.declared.Turned.{Turned}

-- ---- tokens written before what is left

-- some tokens before a list of tokens renumbered
abbrev pub ahead : List Tok → Option (List Tok) → Option (List Tok)
ahead ts None = None
ahead ts (Some us) = Some (ts ++ us)

pub ahead_none : (r : Option (List Tok)) → r ≡ ahead [] r
ahead_none None = refl
ahead_none (Some us) = refl

pub ahead-ahead : (ts us : List Tok) (r : Option (List Tok)) → ahead ts (ahead us r) ≡ ahead (ts ++ us) r
ahead-ahead ts us None = refl
ahead-ahead ts us (Some vs) = ap Some (sym (append_assoc ts us vs))

-- the tokens that are written at a token: the number that was held, and the token unless it is a number
abbrev pub held_toks : Option ℤ → List Tok
held_toks None = []
held_toks (Some v) = num v ∷ []

abbrev pub own_toks : List ℕ → Token → List Tok
own_toks s (Num v) = []
own_toks s (Op b) = op b ∷ []
own_toks s (Esc b) = esc b ∷ []
own_toks s (Mask start len) = mask (take len (drop start s)) ∷ []

abbrev pub sent_toks : List ℕ → Option ℤ → Token → List Tok
sent_toks s h t = held_toks h ++ own_toks s t

pub held_bytes : (h : Option ℤ) → encode (held_toks h) ≡ held_bytes_lem h
unfolding encode
held_bytes None = refl
held_bytes (Some v) = append-nil _

own-bytes : (s : List ℕ) (t : Token) → encode (own_toks s t) ≡ own_bytes s t
unfolding encode
own-bytes s (Num v) = refl
own-bytes s (Op b) = refl
own-bytes s (Esc b) = refl
own-bytes s (Mask start len) = append-nil _

-- their bytes
pub sent-bytes : (s : List ℕ) (h : Option ℤ) (t : Token) → encode (sent_toks s h t) ≡ sent_bytes s h t
sent-bytes s h t =
    encode-append (held_toks h) (own_toks s t) ∙ ap (λ (l : List ℕ). l ++ encode (own_toks s t)) (held_bytes h)
    ∙ ap (λ (l : List ℕ). held_bytes_lem h ++ l) (own-bytes s t)

pub held-length : (h : Option ℤ) → held_len_lem h ≡ length (held_bytes_lem h)
held-length None = refl
held-length (Some v) = refl

own-length : (s : List ℕ) (t : Token) → Writable s t → own_len t ≡ length (own_bytes s t)
own-length s (Num v) h = refl
own-length s (Op b) h = refl
own-length s (Esc b) h = refl
own-length s (Mask start len) h = token-length s (Mask start len) h

pub sent-length : (s : List ℕ) (h : Option ℤ) (t : Token) → Writable s t → held_len_lem h + own_len t ≡ length (encode (sent_toks s h t))
sent-length s h t w =
    let a = held-length h in
    let b = own-length s t w in
    let c : length (encode (sent_toks s h t)) ≡ length (held_bytes_lem h) + length (own_bytes s t) = ap length (sent-bytes s h t) ∙ length-append (held_bytes_lem h) (own_bytes s t) in
    omega arith

-- the number that is held after a token that is measured is a reading
pub after_holds : (t : Token) (v : Float) → after t ≡ Some v → Measurable t → HoldsReading v
after_holds (Num x) v e h = let f : x ≡ v = cc in subst HoldsReading f h
after_holds (Op b) v e h = absurd (zero_one cc)
after_holds (Esc b) v e h = absurd (zero_one cc)
after_holds (Mask start len) v e h = absurd (zero_one cc)

-- ---- one token

kept-ahead : (h : Option ℤ) (r : Option (List Tok)) → kept h r ≡ ahead (held_toks h ++ []) r
kept-ahead None None = refl
kept-ahead None (Some us) = refl
kept-ahead (Some v) None = refl
kept-ahead (Some v) (Some us) = refl

kept-own : (h : Option ℤ) (t : Tok) (r : Option (List Tok)) → kept h (before t r) ≡ ahead (held_toks h ++ (t ∷ [])) r
kept-own None t None = refl
kept-own None t (Some us) = refl
kept-own (Some v) t None = refl
kept-own (Some v) t (Some us) = refl

kept_failed : (w : Option ℤ) (t : Tok) → kept w (before t None) ≡ None
kept_failed None t = refl
kept_failed (Some z) t = refl

pub stuck_sends : (w : Stuck) (v : Option ℤ) → Err w ≡ Ok v → ⊥
stuck_sends w v e = zero_one cc

pub sends_same : (h v : Option ℤ) → ◌≡◌ {A = Result (Option ℤ) Stuck} (Ok h) (Ok v) → h ≡ v
sends_same h v e = cc

module _ (calls : Calls) where
  -- a call
  called-turn : (b : ℕ) (v : Option ℤ) (r : Option (List Tok)) (o : Option ℤ) → turn_for o ≡ Ok v → called b o r ≡ ahead (held_toks v ++ (op b ∷ [])) r
  called-turn b v r None e = absurd (stuck_sends _ v e)
  called-turn b v r (Some y) e = kept-own (Some y) (op b) r ∙ ap (λ (x : Option ℤ). ahead (held_toks x ++ (op b ∷ [])) r) (sends_same (Some y) v e)

  op_turn : (b : ℕ) (h v : Option ℤ) (r : Option (List Tok)) (k : Bool) → pick k (call_turn (calls b) h) (Ok h) ≡ Ok v
      → pick k (called_after calls b h r) (kept h (before (op b) r)) ≡ ahead (held_toks v ++ (op b ∷ [])) r
  op_turn b h v r false e = kept-own h (op b) r ∙ ap (λ (x : Option ℤ). ahead (held_toks x ++ (op b ∷ [])) r) (sends_same h v e)
  op_turn b None v r true e = absurd (stuck_sends _ v e)
  op_turn b (Some x) v r true e = called-turn b v r (calls b x) e

  op_stuck : (b : ℕ) (h : Option ℤ) (r : Option (List Tok)) (k : Bool) (w : Stuck) → pick k (call_turn (calls b) h) (Ok h) ≡ Err w
      → pick k (called_after calls b h r) (kept h (before (op b) r)) ≡ None
  op_stuck b h r false w e = absurd (stuck_sends w h (sym e))
  op_stuck b None r true w e = refl
  op_stuck b (Some x) r true w e = go (calls b x) e
    where
      go : (o : Option ℤ) → turn_for o ≡ Err w → called b o r ≡ None
      go None f = refl
      go (Some y) f = absurd (stuck_sends w (Some y) (sym f))

  -- a token that sends a number: what is written, before what is left
  pub turn_sends : (s : List ℕ) (h : Option ℤ) (t : Token) (v : Option ℤ) (ts : List Tok) → turn_of calls h t ≡ Ok v
      → renumber calls h (told s t ∷ ts) ≡ ahead (sent_toks s v t) (renumber calls (held_after t) ts)
  unfolding renumber
  turn_sends s h (Num x) v ts e =
      let r = renumber calls (Some (scaled_of x)) ts in
      kept-ahead h r ∙ ap (λ (y : Option ℤ). ahead (held_toks y ++ []) r) (sends_same h v e)
  turn_sends s h (Op b) v ts e = op_turn b h v (renumber calls None ts) (is_call b) e
  turn_sends s h (Esc b) v ts e =
      let r = renumber calls None ts in
      kept-own h (esc b) r ∙ ap (λ (y : Option ℤ). ahead (held_toks y ++ (esc b ∷ [])) r) (sends_same h v e)
  turn_sends s h (Mask start len) v ts e =
      let r = renumber calls None ts in
      let m = mask (take len (drop start s)) in
      kept-own h m r ∙ ap (λ (y : Option ℤ). ahead (held_toks y ++ (m ∷ [])) r) (sends_same h v e)

  -- and one at which the renumbering fails
  pub turn_stuck : (s : List ℕ) (h : Option ℤ) (t : Token) (ts : List Tok) (w : Stuck) → turn_of calls h t ≡ Err w → renumber calls h (told s t ∷ ts) ≡ None
  unfolding renumber
  turn_stuck s h (Num x) ts w e = absurd (stuck_sends w h (sym e))
  turn_stuck s h (Op b) ts w e = op_stuck b h (renumber calls None ts) (is_call b) w e
  turn_stuck s h (Esc b) ts w e = absurd (stuck_sends w h (sym e))
  turn_stuck s h (Mask start len) ts w e = absurd (stuck_sends w h (sym e))

-- ---- a step

-- what a step that goes on says
pub record Onward (calls : Calls) (h : Option ℤ) (st : Option (Token × Cursor)) (v : Option ℤ) (t : Token) (d : Cursor) : Type 0 where
  pub step : st ≡ Some (t, d)
  pub turn : turn_of calls h t ≡ Ok v

module _ (calls : Calls) (h : Option ℤ) where
  pub onward-of : (st : Option (Token × Cursor)) (v : Option ℤ) (t : Token) (d : Cursor) → turned_at calls h st ≡ a_turn v t d → Onward calls h st v t d
  onward-of None v t d e = absurd (zero_one cc)
  onward-of (Some (t', d')) v t d e = go (turn_of calls h t') refl e
    where
      go : (q : Result (Option ℤ) Stuck) → turn_of calls h t' ≡ q → turned_by q t' d' ≡ a_turn v t d → Onward calls h (Some (t', d')) v t d
      go (Err w) f g = absurd (zero_one cc)
      go (Ok u) f g =
          let p : ◌≡◌ {A = Turned} (record { before = u; token = t'; next = d' }) (record { before = v; token = t; next = d }) = cc in
          let a : u ≡ v = ap (λ (q : Turned). q.before) p in
          let b : t' ≡ t = ap (λ (q : Turned). q.token) p in
          let c : d' ≡ d = ap (λ (q : Turned). q.next) p in
          record { step = ap (λ (x : Token). Some (x, d')) b ∙ ap (λ (x : Cursor). Some (t, x)) c; turn = ap (turn_of calls h) (sym b) ∙ f ∙ ap Ok a }

  pub failed_of : (st : Option (Token × Cursor)) (P : Type 0) → turned_at calls h st ≡ None → (st ≡ None → P)
      → ((t : Token) (d : Cursor) → st ≡ Some (t, d) → (w : Stuck) → turn_of calls h t ≡ Err w → P) → P
  failed_of None P e f g = f refl
  failed_of (Some (t, d)) P e f g = go (turn_of calls h t) refl e
    where
      go : (q : Result (Option ℤ) Stuck) → turn_of calls h t ≡ q → turned_by q t d ≡ None → P
      go (Err w) k l = g t d refl w k
      go (Ok u) k l = absurd (zero_one cc)
