-- Laws of looking a mask's length up, and of a walk over a body that measures or writes each token.
use Rattle.std.specs.Prelude.{ℕ, suc, ◌+◌, ◌-◌, ◌*◌, ◌≤◌, ◌<◌, ◌≡◌, refl, Bool, true, false, length, drop, get_or, None, Option, Some, Ok, Err}
use Rattle.std.proofs.Common.{sym, ◌∙◌, length-append, length-drop, drop-cons, eq-eqb, ne_eqb, le-leb}
use Rattle.std.proofs.Math.Path.{ap, subst}
use Rattle.std.proofs.lemmas.Bool.{false≢true, lt-leb}
use mathlib.Core.List.{List, [], ◌∷◌, ◌++◌, append_assoc, append-nil}
use native.Mathlib.Omega.{arith}
use Rattle.octets.specs.Pick.{pick}
use Rattle.octets.specs.Octets.{Octets, Wrote}
use Rattle.octets.specs.PutLaws.{wrote_none, wrote_then, wrote_as, wrote-length}
use Rattle.charstring.specs.Token.{Tok, mask_at, mask_len, plain_at, token_at, join, more, tokens_from, tokens_of, start, lookup}
use Rattle.type2_number.specs.Number.{number_at}
use Rattle.charstring.specs.Encode.{tok_bytes, encode, is_whole, body_bytes}
use Rattle.charstring.specs.Answers.{step_of, told, token_bytes, token_len_lem, Within, given_at, measured_of, Recodes}
use Rattle.charstring.specs.TokenLaws.{token-length}
use Rattle.charstring.specs.TokensLaws.{fuel_of, Next, next_of, lost_of, join-join, join-none, left-none, left-next, left_lost, left-start, start-within}
use Rattle.charstring.specs.declared.MaskLen.{MaskLen}
use Rattle.charstring.specs.declared.MaskLen.TheVariants.{Own, Given}
use Rattle.charstring.specs.declared.Token.{Token}
use Rattle.charstring.specs.declared.Cursor.{Cursor}
use Rattle.charstring.specs.declared.RecodeError.TheVariants.{Cut, Full}

-- ---- looking up

two-on : (p : List ℕ) (i : ℕ) → i + 1 < length p → drop i p ≡ get_or p i 0 ∷ get_or p (i + 1) 0 ∷ drop (i + 2) p
two-on p i h =
    let k : i < length p = omega arith in
    let e : suc i ≡ i + 1 = omega arith in
    let f : suc (i + 1) ≡ i + 2 = omega arith in
    drop-cons p i 0 k ∙ ap (λ (l : List ℕ). get_or p i 0 ∷ l) (ap (λ (j : ℕ). drop j p) e ∙ drop-cons p (i + 1) 0 h ∙ ap (λ (j : ℕ). get_or p (i + 1) 0 ∷ drop j p) f)

module _ (p : List ℕ) (at i : ℕ) (h : i + 1 < length p) where
  pub lookup-here : get_or p i 0 ≡ at → lookup (drop i p) at ≡ Given (get_or p (i + 1) 0)
  unfolding lookup
  lookup-here e = ap (λ (l : List ℕ). lookup l at) (two-on p i h) ∙ rw (eq-eqb (get_or p i 0) at e)

  pub lookup-on : (get_or p i 0 ≡ at → ⊥) → lookup (drop i p) at ≡ lookup (drop (i + 2) p) at
  unfolding lookup
  lookup-on n = ap (λ (l : List ℕ). lookup l at) (two-on p i h) ∙ rw (ne_eqb (get_or p i 0) at n)

lookup-short : (l : List ℕ) (at : ℕ) → length l ≤ 1 → lookup l at ≡ Own
unfolding lookup
lookup-short [] at h = refl
lookup-short (o ∷ []) at h = refl
lookup-short (o ∷ n ∷ l) at h = absurd (let y : ⊥ = omega arith in y)

pub lookup_end : (p : List ℕ) (at i : ℕ) → length p ≤ i + 1 → lookup (drop i p) at ≡ Own
lookup_end p at i h = lookup-short (drop i p) at (rw length-drop (omega arith))

-- only a mask that is due asks for a length
pub given-due : (s : List ℕ) (l : MaskLen) (c : Cursor) → token_at s (pick c.due l Own) c ≡ token_at s l c
unfolding token_at
given-due s l c = go c.due
  where
    go : (t : Bool) → pick t (mask_at s c (mask_len (pick t l Own) c.stems)) (plain_at s c (number_at s c.at))
        ≡ pick t (mask_at s c (mask_len l c.stems)) (plain_at s c (number_at s c.at))
    go true = refl
    go false = refl

-- ---- encoding

pub encode-append : (ts us : List Tok) → encode (ts ++ us) ≡ encode ts ++ encode us
unfolding encode
encode-append [] us = refl
encode-append (t ∷ ts) us = ap (λ (l : List ℕ). tok_bytes t ++ l) (encode-append ts us) ∙ sym (append_assoc (tok_bytes t) (encode ts) (encode us))

encode_one : (t : Tok) → encode (t ∷ []) ≡ tok_bytes t
unfolding encode
encode_one t = append-nil (tok_bytes t)

pub encode_snoc : (ts : List Tok) (t : Tok) → encode (ts ++ (t ∷ [])) ≡ encode ts ++ tok_bytes t
encode_snoc ts t = encode-append ts (t ∷ []) ∙ ap (λ (l : List ℕ). encode ts ++ l) (encode_one t)

-- ---- a walk: the tokens done, and that they and what is left are the body's
pub record Walk (given : ℕ → MaskLen) (s : List ℕ) (c : Cursor) (done : List Tok) : Type 0 where
  pub within : Within s c
  pub rest : tokens_of given s ≡ join done (tokens_from (fuel_of s c) given s c)

module _ (given : ℕ → MaskLen) (s : List ℕ) (b : Octets s) where
  pub walk_start : Walk given s start []
  walk_start = record { within = start-within given s b; rest = left-start given s b ∙ sym (join-none _) }

  module _ (c : Cursor) (done : List Tok) (w : Walk given s c done) where
    module _ (m : more s c ≡ true) (r : Option (Token × Cursor)) (e : r ≡ step_of (token_at s (given_at given c) c)) where
      here : r ≡ step_of (token_at s (given (c.at - 1)) c)
      here = e ∙ ap step_of (given-due s (given (c.at - 1)) c)

      pub walk-next : (t : Token) (d : Cursor) → r ≡ Some (t, d) → Next s c (token_at s (given (c.at - 1)) c) t d
      walk-next t d f = next_of s c (given (c.at - 1)) b w.within m r here t d f

      pub walk_turn : (t : Token) (d : Cursor) → r ≡ Some (t, d) → Walk given s d (done ++ (told s t ∷ []))
      walk_turn t d f =
          let n = walk-next t d f in
          record {
            within = n.moves.within;
            rest = w.rest ∙ ap (join done) (left-next given s b c w.within m t d n) ∙ sym (join-join done (told s t ∷ []) (tokens_from (fuel_of s d) given s d));
          }

      pub walk-cut : r ≡ None → tokens_of given s ≡ None
      walk-cut f = w.rest ∙ ap (join done) (left_lost given s b c w.within m (lost_of s c (given (c.at - 1)) r here f))

    pub walk_end : more s c ≡ false → tokens_of given s ≡ Some done
    walk_end m = w.rest ∙ ap (join done) (left-none given s b c m) ∙ ap Some (append-nil done)

-- ---- measuring: the length so far is that of the tokens done
pub record Measuring (given : ℕ → MaskLen) (s : List ℕ) (c : Cursor) (len : ℕ) : Type 0 where
  pub done : List Tok
  pub walk : Walk given s c done
  pub size : len ≡ length (encode done)
  pub small : len ≤ 5 * c.at

-- ---- writing: the tokens done stand in the output
pub record Writing (given : ℕ → MaskLen) (s old : List ℕ) (to : ℕ) (c : Cursor) (new : List ℕ) (p : ℕ) : Type 0 where
  pub done : List Tok
  pub walk : Walk given s c done
  pub wrote : Wrote old to (encode done) new p

whole_length : (done : List Tok) (x : Option (List Tok)) → is_whole (join done x) ≡ true → length (encode done) ≤ length (body_bytes (join done x))
whole_length done None e = absurd (false≢true e)
whole_length done (Some us) e = rw (encode-append, length-append) (omega arith)

module _ (given : ℕ → MaskLen) (s : List ℕ) (b : Octets s) where
  pub measuring_start : (c : Cursor) → c ≡ start → Measuring given s c 0
  unfolding encode
  measuring_start c e = subst (λ (x : Cursor). Measuring given s x 0) (sym e) (record { done = []; walk = walk_start given s b; size = refl; small = omega arith })

  pub measured_end : (c : Cursor) (len : ℕ) → Measuring given s c len → more s c ≡ false → Some len ≡ measured_of (tokens_of given s)
  measured_end c len m e = ap Some m.size ∙ ap measured_of (sym (walk_end given s b c m.done m.walk e))

  pub writing_start : (old : List ℕ) (to : ℕ) (c : Cursor) → c ≡ start → Writing given s old to c old to
  unfolding encode
  writing_start old to c e = subst (λ (x : Cursor). Writing given s old to x old to) (sym e) (record { done = []; walk = walk_start given s b; wrote = wrote_none old to })

  -- what is done is no longer than the whole
  pub done_length : (c : Cursor) (done : List Tok) → Walk given s c done → is_whole (tokens_of given s) ≡ true
      → length (encode done) ≤ length (body_bytes (tokens_of given s))
  done_length c done w e =
      subst (λ (x : Option (List Tok)). length (encode done) ≤ length (body_bytes x)) (sym w.rest)
      (whole_length done (tokens_from (fuel_of s c) given s c) (ap is_whole (sym w.rest) ∙ e))

  pub written_end : (old : List ℕ) (to : ℕ) (c : Cursor) (new : List ℕ) (p : ℕ) → Writing given s old to c new p → more s c ≡ false
      → Wrote old to (body_bytes (tokens_of given s)) new p
  written_end old to c new p w e = wrote_as w.wrote (ap body_bytes (sym (walk_end given s b c w.done w.walk e)))

  -- a turn
  module _ (c : Cursor) (m : more s c ≡ true) (r : Option (Token × Cursor)) (e : r ≡ step_of (token_at s (given_at given c) c)) where
    pub measuring_turn : (len : ℕ) → Measuring given s c len → (t : Token) (d : Cursor) → r ≡ Some (t, d) → (n : ℕ) → n ≡ token_len_lem t → Measuring given s d (len + n)
    measuring_turn len w t d f n g =
        let x = walk-next given s b c w.done w.walk m r e t d f in
        let k : n ≡ length (tok_bytes (told s t)) = g ∙ token-length s t x.writable in
        record {
          done = w.done ++ (told s t ∷ []);
          walk = walk_turn given s b c w.done w.walk m r e t d f;
          size = rw (encode_snoc, length-append) (omega (arith, w.size, k));
          small = omega (arith, w.small, x.moves.grows, g);
        }

    pub measured-cut : (len : ℕ) → Measuring given s c len → r ≡ None → None ≡ measured_of (tokens_of given s)
    measured-cut len w f = ap measured_of (sym (walk-cut given s b c w.done w.walk m r e f))

    module _ (old : List ℕ) (to : ℕ) (new : List ℕ) (p : ℕ) (w : Writing given s old to c new p) (h : is_whole (tokens_of given s) ≡ true)
        (room : to + length (body_bytes (tokens_of given s)) ≤ length old) where
      pub writing-room : (t : Token) (d : Cursor) → r ≡ Some (t, d) → p + length (token_bytes s t) ≤ length new
      writing-room t d f =
          let v = walk_turn given s b c w.done w.walk m r e t d f in
          let k : length (encode w.done) + length (token_bytes s t) ≤ length (body_bytes (tokens_of given s))
          = (simp (encode_snoc, length-append) at (done_length d (w.done ++ (told s t ∷ [])) v h)) in
          let n : length new ≡ length old = wrote-length w.wrote (omega arith) in
          omega (arith, w.wrote.behind)

      pub writing-turn : (t : Token) (d : Cursor) → r ≡ Some (t, d) → (newer : List ℕ) (q : ℕ) → Wrote new p (token_bytes s t) newer q → Writing given s old to d newer q
      writing-turn t d f newer q v =
          record {
            done = w.done ++ (told s t ∷ []);
            walk = walk_turn given s b c w.done w.walk m r e t d f;
            wrote = wrote_as (wrote_then (omega arith) w.wrote v) (sym (encode_snoc w.done (told s t)));
          }

      pub writing-cut : r ≡ None → ⊥
      writing-cut f = false≢true (ap is_whole (sym (walk-cut given s b c w.done w.walk m r e f)) ∙ h)

-- ---- a body measured, and then written or not
module _ (old : List ℕ) (to : ℕ) where
  pub recoded_cut : (x : Option (List Tok)) (r : Option ℕ) → r ≡ measured_of x → r ≡ None → Recodes old to x old (Err Cut)
  recoded_cut None r e f = record { answer = refl; leaves = refl }
  recoded_cut (Some ts) r e f = absurd (let z : ◌≡◌ {A = ℕ} 0 1 = cc in (let y : ⊥ = omega arith in y))

  pub measured-whole : (x : Option (List Tok)) (r : Option ℕ) (n : ℕ) → r ≡ measured_of x → r ≡ Some n → (is_whole x ≡ true) × (n ≡ length (body_bytes x))
  measured-whole None r n e f = absurd (let z : ◌≡◌ {A = ℕ} 0 1 = cc in (let y : ⊥ = omega arith in y))
  measured-whole (Some ts) r n e f = (refl, let k : length (encode ts) ≡ n = cc in sym k)

  pub recoded_full : (x : Option (List Tok)) (r : Option ℕ) (n : ℕ) → r ≡ measured_of x → r ≡ Some n → length old < to + n → Recodes old to x old (Err Full)
  recoded_full None r n e f h = absurd (let z : ◌≡◌ {A = ℕ} 0 1 = cc in (let y : ⊥ = omega arith in y))
  recoded_full (Some ts) r n e f h =
      let k : length (encode ts) ≡ n = cc in
      let l : length old < to + length (encode ts) = omega arith in
      record { answer = rw (lt-leb (to + length (encode ts)) (length old) l); leaves = rw (lt-leb (to + length (encode ts)) (length old) l) }

  pub recoded_done : (x : Option (List Tok)) (new : List ℕ) (q : ℕ) → is_whole x ≡ true → to + length (body_bytes x) ≤ length old → Wrote old to (body_bytes x) new q
      → Recodes old to x new (Ok q)
  recoded_done None new q h l w = absurd (false≢true h)
  recoded_done (Some ts) new q h l w =
      record {
        answer = rw (le-leb (to + length (encode ts)) (length old) l) (ap Ok w.behind);
        leaves = rw (le-leb (to + length (encode ts)) (length old) l) w.is;
      }
