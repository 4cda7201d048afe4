-- Laws of the kinds t and e: a walk over a body that lists its tokens, and how long a body written back can be.
use Prim.Native.Nat.{ℕ, zero, suc, ◌+◌, ◌-◌, ◌*◌, ◌≤◌, ◌<◌}
use Rattle.std.specs.Prelude.{◌≡◌, Bool, List, [], ◌∷◌, ◌++◌, ◌⊎◌, leb, None, Option, Some, Ok, Err, Result}
use Rattle.std.proofs.Math.Path.{refl, sym, ap, subst}
use Rattle.std.proofs.Common.{◌∙◌, MutBor, append_assoc, append-nil, inl, inr, length-append, leb-false}
use Rattle.std.proofs.Math.Bool.{true, false}
use native.Mathlib.Omega.{arith}
use Rattle.std.proofs.Math.ListN.{length}
use Rattle.octets.specs.Pick.{pick}
use Rattle.octets.specs.Octets.{Octets, put, Wrote}
use Rattle.octets.specs.declared.out.Out.{Out}
use Rattle.octets.specs.Out.{Writes}
use Rattle.type2_number.specs.Floats.{float_of, scaled_of}
use Rattle.charstring.specs.Token.{Tok, num, Lexeme, lost, got_num, got_op, got_esc, got_mask, token_at, join, onward, more, tokens_from, tokens_of, start}
use Rattle.charstring.specs.Encode.{tok_bytes, encode, body_bytes}
use Rattle.charstring.specs.Answers.{step_of, told, Within, given_at, Recodes, RecodesAt, placed}
use Rattle.charstring.specs.TokenLaws.{byte_left, token-length as length-told}
use Rattle.charstring.specs.TokensLaws.{bit, fuel_of, Next, read_parts, next_of, lost_of, start-within}
use Rattle.charstring.specs.EncodeLaws.{given-due}
use Rattle.charstring.specs.declared.MaskLen.{MaskLen}
use Rattle.charstring.specs.declared.Cursor.{Cursor}
use Rattle.charstring.specs.declared.Token.{Token}
use Rattle.charstring.specs.declared.Token.TheVariants.{Num, Op, Esc, Mask}
use Rattle.charstring.specs.declared.RecodeError.{RecodeError}
use Rattle.charstring.specs.declared.RecodeError.TheVariants.{Cut, Full}
use Rattle.charstring_cases.specs.Numbers.{count_bytes}
use Rattle.charstring_cases.specs.Streams.{ahead, listed, list_from, flagged, tokens_bytes, recoded_bytes, token_bytes}
use Rattle.charstring_cases.specs.AnswersLaws.{token-length}

no : ◌≡◌ {A = ℕ} 0 1 → ⊥
no h = omega arith

-- ---- bytes in front

ahead_none : (o : Option (List ℕ)) → ahead [] o ≡ o
ahead_none None = refl
ahead_none (Some bs) = refl

ahead-ahead : (a b : List ℕ) (o : Option (List ℕ)) → ahead a (ahead b o) ≡ ahead (a ++ b) o
ahead-ahead a b None = refl
ahead-ahead a b (Some bs) = ap Some (sym (append_assoc a b bs))

-- ---- one token

only : (u v : Tok) → ◌≡◌ {A = Option (List Tok)} (Some (u ∷ [])) (Some (v ∷ [])) → u ≡ v
only u v e = cc

-- the token that the code has, for the lexeme that stands there
listed-token : (s : List ℕ) (c : Cursor) (q : Lexeme) (t : Token) (d : Cursor) → Next s c q t d → step_of q ≡ Some (t, d)
    → (rest : Cursor → Option (List ℕ)) → listed q rest ≡ ahead (token_bytes t) (rest d)
listed-token s c lost t d n e rest = absurd (no cc)
listed-token s c (got_num z x) t d n e rest =
    let f : t ≡ Num (float_of z) = sym (read_parts _ _ _ _ e).0 in
    let g : x ≡ d = (read_parts _ _ _ _ e).1 in
    let h : num z ≡ told s t = only (num z) (told s t) (n.goes (λ y. Some [])) in
    let i : num z ≡ num (scaled_of (float_of z)) = h ∙ ap (told s) f in
    let k : z ≡ scaled_of (float_of z) = cc in
    ap (λ (y : _). ahead (1 ∷ count_bytes y) (rest x)) k ∙ ap (λ (y : Token). ahead (token_bytes y) (rest x)) (sym f) ∙ ap (λ (y : Cursor). ahead (token_bytes t) (rest y)) g
listed-token s c (got_op b x) t d n e rest =
    let f : Op b ≡ t = (read_parts _ _ _ _ e).0 in
    let g : x ≡ d = (read_parts _ _ _ _ e).1 in
    ap (λ (y : Token). ahead (token_bytes y) (rest x)) f ∙ ap (λ (y : Cursor). ahead (token_bytes t) (rest y)) g
listed-token s c (got_esc b x) t d n e rest =
    let f : Esc b ≡ t = (read_parts _ _ _ _ e).0 in
    let g : x ≡ d = (read_parts _ _ _ _ e).1 in
    ap (λ (y : Token). ahead (token_bytes y) (rest x)) f ∙ ap (λ (y : Cursor). ahead (token_bytes t) (rest y)) g
listed-token s c (got_mask a m x) t d n e rest =
    let f : Mask a m ≡ t = (read_parts _ _ _ _ e).0 in
    let g : x ≡ d = (read_parts _ _ _ _ e).1 in
    ap (λ (y : Token). ahead (token_bytes y) (rest x)) f ∙ ap (λ (y : Cursor). ahead (token_bytes t) (rest y)) g

-- ---- a walk: the tokens done are written, and they and what is left are the body's

pub record Listing (given : ℕ → MaskLen) (s : List ℕ) (c : Cursor) (to : List ℕ) : Type 0 where
  pub done : List ℕ
  pub fuel : ℕ
  pub within : Within s c
  pub enough : fuel_of s c ≤ fuel
  pub rest : list_from (2 * length s) given s start ≡ ahead done (list_from fuel given s c)
  pub is : to ≡ 1 ∷ done
  pub room : length to + 6 * fuel_of s c ≤ 4096

module _ (given : ℕ → MaskLen) (s : List ℕ) (b : Octets s) where
  pub listing_start : (c : Cursor) → c ≡ start → (to : List ℕ) → to ≡ 1 ∷ [] → length s ≤ 60 → Listing given s c to
  listing_start c e to w h =
      let n = ap length w in
      subst (λ (x : Cursor). Listing given s x to) (sym e)
      (record {
        done = [];
        fuel = 2 * length s;
        within = start-within given s b;
        enough = omega arith;
        rest = sym (ahead_none (list_from (2 * length s) given s start));
        is = w;
        room = omega (arith, n);
      })

  -- where a token is left there is fuel for it
  fuel_left : (c : Cursor) → more s c ≡ true → 0 < fuel_of s c
  fuel_left c m = go c.due refl
    where
      go : (t : Bool) → c.due ≡ t → 0 < fuel_of s c
      go true e = let o : bit c.due ≡ 1 = ap bit e in omega arith
      go false e = omega (arith, byte_left s c e m)

  none_more : (k : ℕ) (c : Cursor) → more s c ≡ false → list_from k given s c ≡ Some []
  unfolding list_from
  none_more zero c e = refl
  none_more (suc k) c e = rw e

  one_more : (k : ℕ) (c : Cursor) → more s c ≡ true → list_from (suc k) given s c ≡ listed (token_at s (given_at given c) c) (list_from k given s)
  unfolding list_from
  one_more k c e = rw e (ap (λ (q : Lexeme). listed q (list_from k given s)) (sym (given-due s (given (c.at - 1)) c)))

  module _ (c : Cursor) (to : List ℕ) where
    pub listing_end : Listing given s c to → more s c ≡ false → to ≡ tokens_bytes given s
    unfolding tokens_bytes
    listing_end l e = l.is ∙ sym (ap flagged (l.rest ∙ ap (ahead l.done) (none_more l.fuel c e) ∙ ap Some (append-nil l.done)))

    module _ (m : more s c ≡ true) (r : Option (Token × Cursor)) (e : r ≡ step_of (token_at s (given_at given c) c)) where
      pub listing-next : Within s c → (t : Token) (d : Cursor) → r ≡ Some (t, d) → Next s c (token_at s (given_at given c) c) t d
      listing-next w t d f = next_of s c (given_at given c) b w m r e t d f

      pub listing-cut : Listing given s c to → r ≡ None → 0 ∷ [] ≡ tokens_bytes given s
      unfolding tokens_bytes
      listing-cut l f = sym (ap flagged (l.rest ∙ ap (ahead l.done) (cut_at l.fuel l.enough)))
        where
          nothing : token_at s (given_at given c) c ≡ lost
          nothing = lost_of s c (given_at given c) r e f

          cut_at : (k : ℕ) → fuel_of s c ≤ k → list_from k given s c ≡ None
          cut_at zero h = absurd (let y : ⊥ = omega (arith, fuel_left c m) in y)
          cut_at (suc k) h = one_more k c m ∙ ap (λ (q : Lexeme). listed q (list_from k given s)) nothing

      pub listing-room : (l : Listing given s c to) (t : Token) (d : Cursor) → r ≡ Some (t, d) → length to + length (token_bytes t) ≤ 4096
      listing-room l t d f = omega (arith, (listing-next l.within t d f).moves.shorter, l.room, token-length t)

      listing-more : (k : ℕ) (done : List ℕ) (t : Token) (d : Cursor) (n : Next s c (token_at s (given_at given c) c) t d) → r ≡ Some (t, d) → fuel_of s c ≤ suc k
          → list_from (2 * length s) given s start ≡ ahead done (list_from (suc k) given s c)
          → list_from (2 * length s) given s start ≡ ahead (done ++ token_bytes t) (list_from k given s d)
      listing-more k done t d n f h l =
          l ∙ ap (ahead done) (one_more k c m ∙ listed-token s c (token_at s (given_at given c) c) t d n (sym e ∙ f) (list_from k given s))
          ∙ ahead-ahead done (token_bytes t) (list_from k given s d)

      pub listing-turn : (l : Listing given s c to) (t : Token) (d : Cursor) → r ≡ Some (t, d) → (newer : List ℕ) → newer ≡ to ++ token_bytes t → Listing given s d newer
      listing-turn l t d f newer v = turn l.fuel l.enough l.rest
        where
          n : Next s c (token_at s (given_at given c) c) t d
          n = listing-next l.within t d f

          longer : length newer ≡ length to + length (token_bytes t)
          longer = ap length v ∙ length-append to (token_bytes t)

          turn : (k : ℕ) → fuel_of s c ≤ k → list_from (2 * length s) given s start ≡ ahead l.done (list_from k given s c) → Listing given s d newer
          turn zero h x = absurd (let y : ⊥ = omega (arith, n.moves.shorter) in y)
          turn (suc k) h x =
              record {
                done = l.done ++ token_bytes t;
                fuel = k;
                within = n.moves.within;
                enough = omega (arith, n.moves.shorter);
                rest = listing-more k l.done t d n f h x;
                is = v ∙ ap (λ (xs : List ℕ). xs ++ token_bytes t) l.is;
                room = omega (arith, n.moves.shorter, l.room, token-length t, longer);
              }

-- ---- how long a body written back can be

step_or_lost : (q : Lexeme) → (q ≡ lost) ⊎ ((t : Token) × (d : Cursor) × (step_of q ≡ Some (t, d)))
step_or_lost lost = inl refl
step_or_lost (got_num z d) = inr (Num (float_of z), d, refl)
step_or_lost (got_op b d) = inr (Op b, d, refl)
step_or_lost (got_esc b d) = inr (Esc b, d, refl)
step_or_lost (got_mask a n d) = inr (Mask a n, d, refl)

join-length : (u : Tok) (x : Option (List Tok)) → length (body_bytes (join (u ∷ []) x)) ≤ length (tok_bytes u) + length (body_bytes x)
unfolding encode
join-length u None = omega arith
join-length u (Some us) = rw length-append (omega arith)

module _ (given : ℕ → MaskLen) (s : List ℕ) (b : Octets s) where
  -- a token takes no more than five bytes for each of its own
  Short : ℕ → Type 0
  Short k = (c : Cursor) → Within s c → length (body_bytes (tokens_from k given s c)) + 5 * c.at ≤ 5 * length s

  short-step : (k : ℕ) → Short k → (c : Cursor) → Within s c → more s c ≡ true → (q : Lexeme) → token_at s (given (c.at - 1)) c ≡ q
      → (q ≡ lost) ⊎ ((t : Token) × (d : Cursor) × (step_of q ≡ Some (t, d)))
      → length (body_bytes (onward s q (tokens_from k given s))) + 5 * c.at ≤ 5 * length s
  unfolding Short
  short-step k ih c w m q f (inl e) = rw e (omega (arith, w.inside))
  short-step k ih c w m q f (inr x) =
      let n = subst (λ (y : Lexeme). Next s c y x.0 x.1) f (next_of s c (given (c.at - 1)) b w m (step_of q) (ap step_of (sym f)) x.0 x.1 x.2) in
      rw (n.goes (tokens_from k given s))
      (omega (
        arith,
        join-length (told s x.0) (tokens_from k given s x.1),
        ih x.1 n.moves.within,
        n.moves.grows,
        length-told s x.0 n.writable,
      ))

  short-one : (k : ℕ) → Short k → (c : Cursor) → Within s c → (t : Bool) → more s c ≡ t
      → length (body_bytes (tokens_from (suc k) given s c)) + 5 * c.at ≤ 5 * length s
  unfolding tokens_from encode
  short-one k ih c w true e = let q = token_at s (given (c.at - 1)) c in rw e (short-step k ih c w e q refl (step_or_lost q))
  short-one k ih c w false e = rw e (omega (arith, w.inside))

  short-from : (k : ℕ) → Short k
  unfolding Short tokens_from encode
  short-from zero c w = omega (arith, w.inside)
  short-from (suc k) c w = short-one k (short-from k) c w (more s c) refl

  pub encode-short : length (body_bytes (tokens_of given s)) ≤ 5 * length s
  unfolding tokens_of Short
  encode-short = omega (arith, short-from (2 * length s) start (start-within given s b))

-- ---- a body written back behind a 1

done_is : (t : Bool) (n q : ℕ) (a b : List ℕ) → pick t (Ok n) (Err Full) ≡ Ok q → (n ≡ q) × (pick t a b ≡ a)
done_is true n q a b e = (cc, refl)
done_is false n q a b e = absurd (no cc)

never_cut : (t : Bool) (n : ℕ) → pick t (Ok n) (Err Full) ≡ Err Cut → ⊥
never_cut true n e = no cc
never_cut false n e = no cc

full_is : (t : Bool) (n : ℕ) → pick t (Ok n) (Err Full) ≡ Err Full → t ≡ false
full_is true n e = absurd (no cc)
full_is false n e = refl

module _ (one : List ℕ) where
  pub recoded_done : (x : Option (List Tok)) (new : List ℕ) (r : Result ℕ RecodeError) → Recodes one 0 x new r
      → (q : ℕ) → r ≡ Ok q → Wrote one 0 (body_bytes x) new q × (1 ∷ body_bytes x ≡ recoded_bytes x)
  recoded_done None new r z q e = absurd (no (cc z.answer))
  recoded_done (Some ts) new r z q e =
      let d = done_is (leb (0 + length (encode ts)) (length one)) (0 + length (encode ts)) q (put one 0 (encode ts)) one (sym z.answer ∙ e) in
      (record { is = z.leaves ∙ d.1; behind = sym d.0 }, refl)

  pub recoded_cut : (x : Option (List Tok)) (new : List ℕ) (r : Result ℕ RecodeError) → Recodes one 0 x new r → r ≡ Err Cut → 0 ∷ [] ≡ recoded_bytes x
  recoded_cut None new r z e = refl
  recoded_cut (Some ts) new r z e = absurd (never_cut (leb (0 + length (encode ts)) (length one)) (0 + length (encode ts)) (sym z.answer ∙ e))

  pub recoded_full : (x : Option (List Tok)) (new : List ℕ) (r : Result ℕ RecodeError) → Recodes one 0 x new r → r ≡ Err Full → length one < length (body_bytes x)
  recoded_full None new r z e = absurd (no (cc z.answer))
  recoded_full (Some ts) new r z e =
      let h = leb-false (0 + length (encode ts)) (length one) (full_is (leb (0 + length (encode ts)) (length one)) (0 + length (encode ts)) (sym z.answer ∙ e)) in
      omega (arith, h)

-- the same at an output's place
module _ {one : MutBor (List ℕ)} {new : Out} {x : Option (List Tok)} {r : Result Unit RecodeError} (z : RecodesAt (record { bytes = one; at = 0 }) x new r) where
  pub recoded_writes : r ≡ Ok tt → Writes (record { bytes = one; at = 0 }) (body_bytes x) new × (1 ∷ body_bytes x ≡ recoded_bytes x)
  recoded_writes e =
      let d = recoded_done one.now x new.bytes.now (placed new.at r) z.recodes new.at (ap (placed new.at) e) in
      (record { wrote = d.0; same = z.same; size = z.size }, d.1)
