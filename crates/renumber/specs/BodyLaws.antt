-- A body renumbered by a walk over its tokens: the tokens read, those written, and the number that is held.
use Rattle.std.specs.Prelude.{ℕ, ◌+◌, ◌-◌, ◌*◌, ◌≤◌, ◌≡◌, refl, Bool, true, false, ℤ, None, Option, Some, Ok, Err}
use Rattle.std.proofs.Common.{sym, ◌∙◌}
use Rattle.std.proofs.Math.Path.{ap, subst}
use Rattle.std.proofs.lemmas.Bool.{false≢true}
use mathlib.Core.List.{List, [], ◌∷◌, ◌++◌, append_assoc, append-nil}
use native.Mathlib.Omega.{arith}
use Rattle.std.proofs.Math.ListN.{length, length-append}
use Rattle.octets.specs.Pick.{pick}
use Rattle.octets.specs.Octets.{Octets, Wrote}
use Rattle.octets.specs.PutLaws.{wrote_none, wrote_then, wrote_as, wrote-length}
use Rattle.type2_number.specs.Number.{Reading, mag, is_neg}
use Rattle.type2_number.specs.Floats.{scaled_of}
use Rattle.type2_number.specs.EncodingLaws.{number_short}
use Rattle.charstring.specs.declared.MaskLen.{MaskLen}
use Rattle.charstring.specs.declared.Token.{Token}
use Rattle.charstring.specs.declared.Token.TheVariants.{Num, Op, Esc, Mask}
use Rattle.charstring.specs.declared.Cursor.{Cursor}
use Rattle.charstring.specs.Token.{Tok, join, more, token_at, tokens_from, tokens_of, start}
use Rattle.charstring.specs.Encode.{encode}
use Rattle.charstring.specs.Answers.{step_of, told, token_len_lem, Writable, given_at}
use Rattle.charstring.specs.TokensLaws.{fuel_of, Next}
use Rattle.charstring.specs.EncodeLaws.{encode-append, Walk, walk_start, walk-next, walk_turn, walk-cut, walk_end}
use Rattle.unfold.specs.Unfold.{Row, Site}
use Rattle.record.specs.Record.{given_in, two_lengths_lem}
use Rattle.prune.specs.StepLaws.{zero_one}
use Rattle.prune.specs.Renumber.{Calls, is_call, renumber, renumber_charstring}
use Rattle.prune.specs.RenumberSteps.{written_back, renumbered_tokens}
use Rattle.subset.specs.Pruned.{renumbered_body}
use Rattle.renumber.specs.Turn.{call_turn, turn_of, held_after, turned_at, held_bytes_lem, sent_bytes, held_len_lem, own_len, sized_of, body_of_lem, is_yes, a_turn}
use Rattle.renumber.specs.TurnLaws.{ahead, ahead_none, ahead-ahead, held_toks, sent_toks, sent-bytes, held_bytes, held-length, sent-length, stuck_sends, sends_same, turn_sends, turn_stuck, Onward, onward-of, failed_of}
use Rattle.renumber.specs.declared.turns.Stuck.{Stuck}
use Rattle.renumber.specs.declared.Turned.{Turned}

-- the tokens read, and that renumbering what is left, after what was written, is renumbering all
pub record Turning (calls : Calls) (given : ℕ → MaskLen) (s : List ℕ) (c : Cursor) (h : Option ℤ) (sent : List Tok) : Type 0 where
  pub read : List Tok
  pub walk : Walk given s c read
  pub carries : (ts : List Tok) → renumber calls None (read ++ ts) ≡ ahead sent (renumber calls h ts)

-- the most bytes that a number that is held can take
abbrev pub held_most : Option ℤ → ℕ
held_most None = 0
held_most (Some v) = 5

-- measuring: the length so far is that of the tokens written
pub record Sizing (calls : Calls) (given : ℕ → MaskLen) (s : List ℕ) (c : Cursor) (h : Option ℤ) (len : ℕ) : Type 0 where
  pub sent : List Tok
  pub turning : Turning calls given s c h sent
  pub size : len ≡ length (encode sent)
  pub small : len + held_most h ≤ 5 * c.at

-- writing: the tokens written stand in the output
pub record Putting (calls : Calls) (given : ℕ → MaskLen) (s old : List ℕ) (to : ℕ) (c : Cursor) (h : Option ℤ) (new : List ℕ) (p : ℕ) : Type 0 where
  pub sent : List Tok
  pub turning : Turning calls given s c h sent
  pub wrote : Wrote old to (encode sent) new p

-- ---- bounds

pub held-few : (h : Option ℤ) → held_len_lem h ≤ 5
held-few None = omega arith
held-few (Some v) = (number_short (is_neg v) (mag v)).few

pub held-most : (h : Option ℤ) → held_len_lem h ≤ held_most h
held-most None = omega arith
held-most (Some v) = held-few (Some v)

sends_most : (calls : Calls) (h : Option ℤ) (t : Token) (v : Option ℤ) → turn_of calls h t ≡ Ok v → held_len_lem v ≤ held_most h
sends_most calls h (Num x) v e = subst (λ (y : Option ℤ). held_len_lem y ≤ held_most h) (sends_same h v e) (held-most h)
sends_most calls h (Op b) v e = go h (is_call b) e
  where
    go : (g : Option ℤ) (k : Bool) → pick k (call_turn (calls b) g) (Ok g) ≡ Ok v → held_len_lem v ≤ held_most g
    go g false f = subst (λ (y : Option ℤ). held_len_lem y ≤ held_most g) (sends_same g v f) (held-most g)
    go None true f = absurd (stuck_sends _ v f)
    go (Some x) true f = held-few v
sends_most calls h (Esc b) v e = subst (λ (y : Option ℤ). held_len_lem y ≤ held_most h) (sends_same h v e) (held-most h)
sends_most calls h (Mask start len) v e = subst (λ (y : Option ℤ). held_len_lem y ≤ held_most h) (sends_same h v e) (held-most h)

own_most : (t : Token) (a d : ℕ) → token_len_lem t + 5 * a ≤ 5 * d → own_len t + held_most (held_after t) + 5 * a ≤ 5 * d
own_most (Num v) a d h = let k = (number_short (is_neg (scaled_of v)) (mag (scaled_of v))).some in omega arith
own_most (Op b) a d h = omega arith
own_most (Esc b) a d h = omega arith
own_most (Mask start len) a d h = omega arith

pub own-small : (s : List ℕ) (t : Token) → Writable s t → length s ≤ 67108864 → own_len t ≤ 67108864
own-small s (Num v) w h = omega arith
own-small s (Op b) w h = omega arith
own-small s (Esc b) w h = omega arith
own-small s (Mask start len) w h = omega arith

end_held : (calls : Calls) (h : Option ℤ) → renumber calls h [] ≡ Some (held_toks h)
unfolding renumber
end_held calls None = refl
end_held calls (Some v) = refl

-- ---- a walk

module _ (calls : Calls) (reads : (b : ℕ) (z y : ℤ) → calls b z ≡ Some y → Reading y) (given : ℕ → MaskLen) (s : List ℕ) (b : Octets s) where
  turning_start : Turning calls given s start None []
  turning_start = record { read = []; walk = walk_start given s b; carries = λ ts. ahead_none (renumber calls None ts) }

  -- what was written is no longer than the whole
  pub sent-within : (c : Cursor) (h : Option ℤ) (sent : List Tok) → Turning calls given s c h sent → (bs : List ℕ)
      → renumbered_tokens calls (tokens_of given s) ≡ Some bs → length (encode sent) ≤ length bs
  sent-within c h sent w bs e = go (tokens_from (fuel_of s c) given s c) (ap (renumbered_tokens calls) (sym w.walk.rest) ∙ e)
    where
      more-written : (r : Option (List Tok)) → written_back (ahead sent r) ≡ Some bs → length (encode sent) ≤ length bs
      more-written None f = absurd (zero_one cc)
      more-written (Some us) f =
          let g : encode (sent ++ us) ≡ bs = cc in
          let k : length bs ≡ length (encode sent) + length (encode us) = ap length (sym g) ∙ ap length (encode-append sent us) ∙ length-append (encode sent) (encode us) in
          omega arith

      go : (x : Option (List Tok)) → renumbered_tokens calls (join w.read x) ≡ Some bs → length (encode sent) ≤ length bs
      go None f = absurd (zero_one cc)
      go (Some us) f = more-written (renumber calls h us) (ap written_back (sym (w.carries us)) ∙ f)

  module _ (c : Cursor) (h : Option ℤ) (sent : List Tok) (w : Turning calls given s c h sent) where
    turning_end : more s c ≡ false → renumbered_tokens calls (tokens_of given s) ≡ Some (encode (sent ++ held_toks h))
    turning_end m =
        ap (renumbered_tokens calls) (walk_end given s b c w.read w.walk m)
        ∙ ap (λ (ts : List Tok). written_back (renumber calls None ts)) (sym (append-nil w.read))
        ∙ ap written_back (w.carries [] ∙ ap (ahead sent) (end_held calls h))

    module _ (m : more s c ≡ true) (r : Option Turned) (e : r ≡ turned_at calls h (step_of (token_at s (given_at given c) c))) where
      onward : (v : Option ℤ) (t : Token) (d : Cursor) → r ≡ a_turn v t d → Onward calls h (step_of (token_at s (given_at given c) c)) v t d
      onward v t d f = onward-of calls h (step_of (token_at s (given_at given c) c)) v t d (sym e ∙ f)

      pub turning_next : (v : Option ℤ) (t : Token) (d : Cursor) → r ≡ a_turn v t d → Next s c (token_at s (given (c.at - 1)) c) t d
      turning_next v t d f = walk-next given s b c w.read w.walk m (step_of (token_at s (given_at given c) c)) refl t d (onward v t d f).step

      -- a token and what is left after it
      after_read : (t : Token) (ts : List Tok) → renumber calls None ((w.read ++ (told s t ∷ [])) ++ ts) ≡ ahead sent (renumber calls h (told s t ∷ ts))
      after_read t ts = ap (renumber calls None) (append_assoc w.read (told s t ∷ []) ts) ∙ w.carries (told s t ∷ ts)

      pub turning_turn : (v : Option ℤ) (t : Token) (d : Cursor) → r ≡ a_turn v t d → Turning calls given s d (held_after t) (sent ++ sent_toks s v t)
      turning_turn v t d f =
          let o = onward v t d f in
          record {
            read = w.read ++ (told s t ∷ []);
            walk = walk_turn given s b c w.read w.walk m (step_of (token_at s (given_at given c) c)) refl t d o.step;
            carries = λ ts. after_read t ts ∙ ap (ahead sent) (turn_sends calls s h t v ts o.turn)
                ∙ ahead-ahead sent (sent_toks s v t) (renumber calls (held_after t) ts);
          }

      stuck_join : (t : Token) (v : Stuck) → turn_of calls h t ≡ Err v → (x : Option (List Tok)) → renumbered_tokens calls (join (w.read ++ (told s t ∷ [])) x) ≡ None
      stuck_join t v k None = refl
      stuck_join t v k (Some us) = ap written_back (after_read t us ∙ ap (ahead sent) (turn_stuck calls s h t us v k))

      turning_failed : r ≡ None → renumbered_tokens calls (tokens_of given s) ≡ None
      turning_failed f =
          let st = step_of (token_at s (given_at given c) c) in
          failed_of calls h st (renumbered_tokens calls (tokens_of given s) ≡ None) (sym e ∙ f)
          (λ k. ap (renumbered_tokens calls) (walk-cut given s b c w.read w.walk m st refl k))
          (λ t d k v l. ap (renumbered_tokens calls) (walk_turn given s b c w.read w.walk m st refl t d k).rest ∙ stuck_join t v l (tokens_from (fuel_of s d) given s d))

  -- ---- measuring

  pub sizing_start : (c : Cursor) → c ≡ start → Sizing calls given s c None 0
  unfolding encode
  sizing_start c e =
      subst (λ (x : Cursor). Sizing calls given s x None 0) (sym e) (record { sent = []; turning = turning_start; size = refl; small = omega arith })

  module _ (c : Cursor) (h : Option ℤ) (len : ℕ) (w : Sizing calls given s c h len) where
    pub sized-room : len + held_len_lem h ≤ 5 * c.at
    sized-room = let k = held-most h in omega (arith, w.small)

    pub sized_end : more s c ≡ false → (n : ℕ) → n ≡ held_len_lem h → Some (len + n) ≡ sized_of (renumber_charstring calls given s)
    unfolding renumber_charstring
    sized_end m n g =
        let k : length (encode (w.sent ++ held_toks h)) ≡ length (encode w.sent) + length (held_bytes_lem h)
        = ap length (encode-append w.sent (held_toks h)) ∙ length-append (encode w.sent) (encode (held_toks h))
        ∙ ap (λ (l : List ℕ). length (encode w.sent) + length l) (held_bytes h) in
        let l : len + n ≡ length (encode (w.sent ++ held_toks h)) = omega (arith, w.size, held-length h) in
        ap Some l ∙ ap (λ (x : Option (List ℕ)). sized_of x) (sym (turning_end c h w.sent w.turning m))

    module _ (m : more s c ≡ true) (r : Option Turned) (e : r ≡ turned_at calls h (step_of (token_at s (given_at given c) c))) where
      pub sizing_turn : (v : Option ℤ) (t : Token) (d : Cursor) → r ≡ a_turn v t d → (n : ℕ) → n ≡ held_len_lem v + own_len t
          → (k : Option ℤ) → k ≡ held_after t → Sizing calls given s d k (len + n)
      sizing_turn v t d f n g held j =
          let x = turning_next c h w.sent w.turning m r e v t d f in
          let o = onward c h w.sent w.turning m r e v t d f in
          let most = sends_most calls h t v o.turn in
          let l = own_most t c.at d.at x.moves.grows in
          let p : length (encode (w.sent ++ sent_toks s v t)) ≡ length (encode w.sent) + length (encode (sent_toks s v t))
          = ap length (encode-append w.sent (sent_toks s v t)) ∙ length-append (encode w.sent) (encode (sent_toks s v t)) in
          subst (λ (y : Option ℤ). Sizing calls given s d y (len + n)) (sym j) (record {
            sent = w.sent ++ sent_toks s v t;
            turning = turning_turn c h w.sent w.turning m r e v t d f;
            size = omega (arith, w.size, sent-length s v t x.writable);
            small = omega (arith, w.small);
          })

      pub sized_failed : r ≡ None → None ≡ sized_of (renumber_charstring calls given s)
      unfolding renumber_charstring
      sized_failed f = ap (λ (x : Option (List ℕ)). sized_of x) (sym (turning_failed c h w.sent w.turning m r e f))

  -- ---- writing

  module _ (old : List ℕ) (to : ℕ) where
    pub putting_start : (c : Cursor) → c ≡ start → Putting calls given s old to c None old to
    unfolding encode
    putting_start c e =
        subst (λ (x : Cursor). Putting calls given s old to x None old to) (sym e) (record { sent = []; turning = turning_start; wrote = wrote_none old to })

    module _ (bs : List ℕ) (y : renumbered_tokens calls (tokens_of given s) ≡ Some bs) (room : to + length bs ≤ length old)
        (c : Cursor) (h : Option ℤ) (new : List ℕ) (p : ℕ) (w : Putting calls given s old to c h new p) where
      pub same_length : length new ≡ length old
      same_length = let k = sent-within c h w.sent w.turning bs y in wrote-length w.wrote (omega arith)

      -- all that is written at the end
      whole_sent : more s c ≡ false → encode w.sent ++ held_bytes_lem h ≡ bs
      whole_sent m =
          let e : Some (encode (w.sent ++ held_toks h)) ≡ Some bs = sym (turning_end c h w.sent w.turning m) ∙ y in
          let f : encode (w.sent ++ held_toks h) ≡ bs = cc in
          ap (λ (l : List ℕ). encode w.sent ++ l) (sym (held_bytes h)) ∙ sym (encode-append w.sent (held_toks h)) ∙ f

      pub put_end_room : more s c ≡ false → p + length (held_bytes_lem h) ≤ length new
      put_end_room m =
          let k : length bs ≡ length (encode w.sent) + length (held_bytes_lem h) = ap length (sym (whole_sent m)) ∙ length-append (encode w.sent) (held_bytes_lem h) in
          let n = same_length in
          omega (arith, w.wrote.behind)

      pub put_end : more s c ≡ false → (newer : List ℕ) (q : ℕ) → Wrote new p (held_bytes_lem h) newer q → Wrote old to bs newer q
      put_end m newer q v = wrote_as (wrote_then (omega arith) w.wrote v) (whole_sent m)

      module _ (m : more s c ≡ true) (r : Option Turned) (e : r ≡ turned_at calls h (step_of (token_at s (given_at given c) c))) where
        pub putting_room : (v : Option ℤ) (t : Token) (d : Cursor) → r ≡ a_turn v t d → p + length (sent_bytes s v t) ≤ length new
        putting_room v t d f =
            let x = sent-within d (held_after t) (w.sent ++ sent_toks s v t) (turning_turn c h w.sent w.turning m r e v t d f) bs y in
            let k : length (encode (w.sent ++ sent_toks s v t)) ≡ length (encode w.sent) + length (sent_bytes s v t)
            = ap length (encode-append w.sent (sent_toks s v t)) ∙ length-append (encode w.sent) (encode (sent_toks s v t))
            ∙ ap (λ (l : List ℕ). length (encode w.sent) + length l) (sent-bytes s v t) in
            let n = same_length in
            omega (arith, w.wrote.behind)

        pub putting_turn : (v : Option ℤ) (t : Token) (d : Cursor) → r ≡ a_turn v t d → (newer : List ℕ) (q : ℕ) → Wrote new p (sent_bytes s v t) newer q
            → (k : Option ℤ) → k ≡ held_after t → Putting calls given s old to d k newer q
        putting_turn v t d f newer q u k j =
            subst (λ (x : Option ℤ). Putting calls given s old to d x newer q) (sym j) (record {
              sent = w.sent ++ sent_toks s v t;
              turning = turning_turn c h w.sent w.turning m r e v t d f;
              wrote = wrote_as (wrote_then (omega arith) w.wrote u)
                  (ap (λ (l : List ℕ). encode w.sent ++ l) (sym (sent-bytes s v t)) ∙ sym (encode-append w.sent (sent_toks s v t)));
            })

        pub putting_failed : r ≡ None → ⊥
        putting_failed f = no_bytes (sym (turning_failed c h w.sent w.turning m r e f) ∙ y)
          where
            no_bytes : ◌≡◌ {A = Option (List ℕ)} None (Some bs) → ⊥
            no_bytes g = zero_one cc

-- ---- a body with the lengths that a record gives

pub whole-body : (rows : List Row) (calls : Calls) (site : Site) (s : List ℕ) → is_yes (renumbered_body rows calls site s) ≡ true
    → renumbered_tokens calls (tokens_of (given_in rows site) s) ≡ Some (body_of_lem (renumbered_body rows calls site s))
unfolding renumbered_body renumber_charstring
whole-body rows calls site s e = go (two_lengths_lem rows site) (renumbered_tokens calls (tokens_of (given_in rows site) s)) e
  where
    go : (t : Bool) (x : Option (List ℕ)) → is_yes (pick t None x) ≡ true → x ≡ Some (body_of_lem (pick t None x))
    go true x f = absurd (false≢true f)
    go false None f = absurd (false≢true f)
    go false (Some bs) f = refl

pub two-fail : (rows : List Row) (calls : Calls) (site : Site) (s : List ℕ) → two_lengths_lem rows site ≡ true → None ≡ sized_of (renumbered_body rows calls site s)
unfolding renumbered_body
two-fail rows calls site s e = rw e

pub one-length : (rows : List Row) (calls : Calls) (site : Site) (s : List ℕ) → two_lengths_lem rows site ≡ false
    → sized_of (renumber_charstring calls (given_in rows site) s) ≡ sized_of (renumbered_body rows calls site s)
unfolding renumbered_body
one-length rows calls site s e = rw e
