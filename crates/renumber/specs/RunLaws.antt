-- Laws of runs of plain tokens: a token passes, passes follow one another, and the loop that takes a run keeps what a run is.
use Rattle.std.specs.Prelude.{ℕ, ◌+◌, ◌-◌, ◌≤◌, ◌<◌, ◌≡◌, Bool, length, take, drop, get_or, None, Option, Some, Result, Ok, ℤ}
use Rattle.std.proofs.Math.Path.{refl, ap, subst}
use Rattle.std.proofs.Common.{sym, ◌∙◌, arith, take-add, drop-drop}
use Rattle.std.proofs.Math.Bool.{true, false}
use Rattle.std.proofs.lemmas.Bool.{false≢true}
use mathlib.Core.List.{List, [], ◌∷◌, ◌++◌, append_assoc, append-nil}
use borrow.Author.Tests.{lt-ltb, ne_eqb}
use Rattle.octets.specs.Pick.{pick}
use Rattle.octets.specs.Octets.{Octets}
use Rattle.type2_number.specs.Number.{Read}
use Rattle.type2_number.specs.Floats.{float_of}
use Rattle.type2_number.specs.NumberLaws.{OperatorByte, form_op}
use Rattle.type2_number.specs.Readings.{back-reading}
use Rattle.charstring.specs.declared.MaskLen.{MaskLen}
use Rattle.charstring.specs.declared.MaskLen.TheVariants.{Own}
use Rattle.charstring.specs.declared.Token.{Token}
use Rattle.charstring.specs.declared.Token.TheVariants.{Num, Op}
use Rattle.charstring.specs.declared.Cursor.{Cursor}
use Rattle.charstring.specs.Bias.{last_at}
use Rattle.charstring.specs.BiasLaws.{last_none}
use Rattle.charstring.specs.Token.{is_mask, stems_after, plain_at, operator_at, token_at}
use Rattle.charstring.specs.Encode.{encode}
use Rattle.charstring.specs.Answers.{step_of, Within}
use Rattle.charstring.specs.TokensLaws.{next_of}
use Rattle.charstring.specs.EncodeLaws.{encode-append}
use Rattle.prune.specs.Renumber.{Calls, is_call}
use Rattle.renumber.specs.Turn.{call_turn, turn_of, held_after, cursor, turned_by, turned_at, held_bytes_lem, sent_bytes}
use Rattle.renumber.specs.TurnLaws.{sent_toks, sent-bytes}
use Rattle.renumber.specs.BodyLaws.{turning_turn}
use Rattle.renumber.specs.Run.{is_plain, is_operator, plain_len, part, Standing, Passes, RunFrom}
use Rattle.renumber.specs.ShortLaws.{ShortAt, none_there, short-at, operates_told, part-one}
use Rattle.renumber.specs.declared.runs.Run.{Run}
use Rattle.renumber.specs.declared.turns.Stuck.{Stuck}

-- ---- passes

standing_as : {calls : Calls} {given : ℕ → MaskLen} {s : List ℕ} {c : Cursor} {h : Option ℤ} {bs cs : List ℕ} → bs ≡ cs
    → Standing calls given s c h bs → Standing calls given s c h cs
standing_as e w = record { sent = w.sent; turning = w.turning; written = w.written ∙ e }

passes_as : {s : List ℕ} {c : Cursor} {h : Option ℤ} {d : Cursor} {g : Option ℤ} {bs cs : List ℕ} → bs ≡ cs → Passes s c h d g bs → Passes s c h d g cs
passes_as e p = record { goes = λ calls reads given pre w. standing_as (ap (λ (l : List ℕ). pre ++ l) e) (p.goes calls reads given pre w) }

passes_then : {s : List ℕ} {c : Cursor} {h : Option ℤ} {d : Cursor} {g : Option ℤ} {e : Cursor} {k : Option ℤ} {bs cs : List ℕ}
    → Passes s c h d g bs → Passes s d g e k cs → Passes s c h e k (bs ++ cs)
passes_then {bs = bs} {cs = cs} p q =
    record { goes = λ calls reads given pre w. standing_as (append_assoc pre bs cs) (q.goes calls reads given (pre ++ bs) (p.goes calls reads given pre w)) }

-- from c on the bytes bs are passed, up to e, whatever is held at either end
unfoldable pub Carries : List ℕ → Cursor → Cursor → List ℕ → Type 0
Carries s c e bs =
    (d : Cursor) (k : Option ℤ) (own : List ℕ) → ((g : Option ℤ) → Passes s e g d k (held_bytes_lem g ++ own)) → (h : Option ℤ) → Passes s c h d k (held_bytes_lem h ++ (bs ++ own))

-- one token more
carries_on : (s : List ℕ) (c e f : Cursor) (k : Option ℤ) (bs own : List ℕ) → Carries s c e bs → ((g : Option ℤ) → Passes s e g f k (held_bytes_lem g ++ own))
    → Carries s c f (bs ++ (own ++ held_bytes_lem k))
unfolding Carries
carries_on s c e f k bs own carry one d j rest next h =
    passes_as (ap (λ (l : List ℕ). held_bytes_lem h ++ l) (sym (append_assoc bs (own ++ held_bytes_lem k) rest)))
    (carry d j ((own ++ held_bytes_lem k) ++ rest)
    (λ g. passes_as (grouped (held_bytes_lem g) own (held_bytes_lem k) rest) (passes_then (one g) (next k))) h)
  where
    grouped : (x y z w : List ℕ) → (x ++ y) ++ (z ++ w) ≡ x ++ ((y ++ z) ++ w)
    grouped x y z w = append_assoc x y (z ++ w) ∙ ap (λ (l : List ℕ). x ++ l) (sym (append_assoc y z w))

-- ---- one plain token

module _ (s : List ℕ) (b : Octets s) (at args stems : ℕ) (h : at < length s) where
  module _ (t : Token) (d : Cursor) (st : step_of (token_at s Own (cursor at args stems false)) ≡ Some (t, d)) where
    token-within : Within s (cursor at args stems false) → Within s d
    token-within w =
        (next_of s (cursor at args stems false) Own b w (lt-ltb at (length s) h) (step_of (token_at s Own (cursor at args stems false))) refl t d st).moves.within

    token-passes : ((calls : Calls) (g : Option ℤ) → turn_of calls g t ≡ Ok g) → (g : Option ℤ) → Passes s (cursor at args stems false) g d (held_after t) (sent_bytes s g t)
    token-passes sends g =
        record {
          goes = λ calls reads given pre w. record {
            sent = w.sent ++ sent_toks s g t;
            turning = turning_turn calls reads given s b (cursor at args stems false) g w.sent w.turning (lt-ltb at (length s) h)
                (turned_at calls g (step_of (token_at s Own (cursor at args stems false)))) refl g t d
                (ap (turned_at calls g) st ∙ ap (λ (q : Result (Option ℤ) Stuck). turned_by q t d) (sends calls g));
            written = encode-append w.sent (sent_toks s g t) ∙ ap (λ (l : List ℕ). l ++ encode (sent_toks s g t)) w.written
                ∙ ap (λ (l : List ℕ). pre ++ l) (sent-bytes s g t);
          };
        }

  module _ (low : get_or s at 0 < 32) (plain : is_plain (get_or s at 0) ≡ true) where
    other : (n : ℕ) → is_plain n ≡ false → get_or s at 0 ≡ n → ⊥
    other n e f = false≢true (sym e ∙ ap is_plain (sym f) ∙ plain)

    no_mask : is_mask (get_or s at 0) ≡ false
    no_mask = rw (ne_eqb (get_or s at 0) 19 (other 19 refl), ne_eqb (get_or s at 0) 20 (other 20 refl))

    no_call : is_call (get_or s at 0) ≡ false
    no_call = rw (ne_eqb (get_or s at 0) 10 (other 10 refl), ne_eqb (get_or s at 0) 29 (other 29 refl))

    by_itself : step_of (operator_at s (cursor at args stems false) (get_or s at 0))
        ≡ Some (Op (get_or s at 0), cursor (at + 1) 0 (stems_after (get_or s at 0) args stems) (is_mask (get_or s at 0)))
    by_itself = rw (ne_eqb (get_or s at 0) 12 (other 12 refl))

    operator-step : step_of (token_at s Own (cursor at args stems false))
        ≡ Some (Op (get_or s at 0), cursor (at + 1) 0 (stems_after (get_or s at 0) args stems) false)
    unfolding token_at
    operator-step =
        ap (λ (q : Read). step_of (plain_at s (cursor at args stems false) q)) (form_op s at low (other 28 refl)) ∙ by_itself
        ∙ ap (λ (t : Bool). Some (Op (get_or s at 0), cursor (at + 1) 0 (stems_after (get_or s at 0) args stems) t)) no_mask

    operator-passes : (g : Option ℤ) → Passes s (cursor at args stems false) g (cursor (at + 1) 0 (stems_after (get_or s at 0) args stems) false) None
        (held_bytes_lem g ++ (get_or s at 0 ∷ []))
    operator-passes g =
        token-passes (Op (get_or s at 0)) (cursor (at + 1) 0 (stems_after (get_or s at 0) args stems) false) operator-step
        (λ calls k. ap (λ (t : Bool). pick t (call_turn (calls (get_or s at 0)) k) (Ok k)) no_call) g

  module _ (n : ℕ) (short : ShortAt s at n) where
    number_step : step_of (token_at s Own (cursor at args stems false)) ≡ Some (Num (float_of short.value), cursor n (args + 1) stems false)
    unfolding token_at
    number_step = ap (λ (q : Read). step_of (plain_at s (cursor at args stems false) q)) short.reads

    number-passes : (g : Option ℤ) → Passes s (cursor at args stems false) g (cursor n (args + 1) stems false) (Some short.value) (held_bytes_lem g ++ [])
    number-passes g =
        subst (λ (x : Option ℤ). Passes s (cursor at args stems false) g (cursor n (args + 1) stems false) x (held_bytes_lem g ++ [])) (ap Some (back-reading short.value short.reading))
        (token-passes (Num (float_of short.value)) (cursor n (args + 1) stems false) number_step (λ calls k. refl) g)

    number-own : held_bytes_lem (Some short.value) ≡ part s at n
    number-own = short.own

    number-held : Some short.value ≡ last_at s at n
    number-held = rw (lt-ltb at n short.further, short.reads)

-- ---- the loop that takes a run

pub record Running (s : List ℕ) (c : Cursor) (r : Run) : Type 0 where
  pub run : RunFrom s c r
  pub within : Within s (cursor r.at r.args r.stems false)
  pub carries : Carries s c (cursor r.at r.args r.stems false) (part s c.at r.at)

abbrev pub run_of : ℕ → ℕ → ℕ → ℕ → Run
run_of at last args stems = record { at = at; last = last; args = args; stems = stems }

part_none : (s : List ℕ) (at : ℕ) → part s at at ≡ []
part_none s at = let e : at - at ≡ 0 = omega arith in ap (λ (n : ℕ). take n (drop at s)) e

part-part : (s : List ℕ) (from at to : ℕ) → from ≤ at → at ≤ to → part s from at ++ part s at to ≡ part s from to
part-part s from at to h k =
    let e : at - from + (to - at) ≡ to - from = omega arith in
    let f : from + (at - from) ≡ at = omega arith in
    ap (λ (n : ℕ). part s from at ++ take (to - at) (drop n s)) (sym f)
    ∙ ap (λ (l : List ℕ). part s from at ++ take (to - at) l) (sym (drop-drop (at - from) from s))
    ∙ sym (take-add (at - from) (to - at) (drop from s)) ∙ ap (λ (n : ℕ). take n (drop from s)) e

-- no token where it starts
pub run_none : (s : List ℕ) (at args stems : ℕ) (due : Bool) → at ≤ length s → RunFrom s (cursor at args stems due) (run_of at at args stems)
run_none s at args stems due h =
    record { starts = omega arith; ends = omega arith; inside = h; passes = λ l. absurd (let y : ⊥ = omega arith in y) }

-- a run by the four numbers of its cursor, no mask being due
module _ (s : List ℕ) (at args stems : ℕ) (due : Bool) (e : due ≡ false) where
  pub within_not_due : Within s (cursor at args stems due) → Within s (cursor at args stems false)
  within_not_due w = subst (λ (t : Bool). Within s (cursor at args stems t)) e w

  pub run_not_due : (r : Run) → RunFrom s (cursor at args stems false) r → RunFrom s (cursor at args stems due) r
  run_not_due r w = subst (λ (t : Bool). RunFrom s (cursor at args stems t) r) (sym e) w

pub running_start : (s : List ℕ) (at args stems : ℕ) → Within s (cursor at args stems false) → Running s (cursor at args stems false) (run_of at at args stems)
unfolding Carries
running_start s at args stems w =
    record {
      run = run_none s at args stems false w.inside;
      within = w;
      carries = λ d k own f h. passes_as (ap (λ (l : List ℕ). held_bytes_lem h ++ (l ++ own)) (sym (part_none s at))) (f h);
    }

carries_as : (s : List ℕ) (c e : Cursor) (bs cs : List ℕ) → bs ≡ cs → Carries s c e bs → Carries s c e cs
carries_as s c e bs cs f w = subst (Carries s c e) f w

passes-held : {s : List ℕ} {c : Cursor} {h : Option ℤ} {d : Cursor} {g k : Option ℤ} {bs : List ℕ} → g ≡ k → Passes s c h d g bs → Passes s c h d k bs
passes-held {s} {c} {h} {d} {g} {k} {bs} e p = subst (λ (x : Option ℤ). Passes s c h d x bs) e p

module _ (s : List ℕ) (b : Octets s) (c : Cursor) (at last args stems : ℕ) (w : Running s c (run_of at last args stems)) (h : at < length s) (n : ℕ)
    (e : Some n ≡ plain_len s at) where
  from_at : c.at ≤ at
  from_at = omega (arith, w.run.starts, w.run.ends)

  -- a plain operator
  plain-operator : get_or s at 0 < 32 → (get_or s at 0 ≡ 28 → ⊥) → is_plain (get_or s at 0) ≡ true
  unfolding plain_len
  plain-operator low d = go (is_plain (get_or s at 0)) refl
    where
      go : (t : Bool) → is_plain (get_or s at 0) ≡ t → t ≡ true
      go true f = refl
      go false f = none_there n (e ∙ rw (lt-ltb (get_or s at 0) 32 low, f, ne_eqb (get_or s at 0) 28 d))

  pub running_operator : is_operator (get_or s at 0) ≡ true → (k : ℕ) → k ≡ stems_after (get_or s at 0) args stems → Running s c (run_of (at + 1) (at + 1) 0 k)
  unfolding Carries
  running_operator operates k j =
      subst (λ (x : ℕ). Running s c (run_of (at + 1) (at + 1) 0 x)) (sym j) (record {
        run = record {
          starts = omega (arith, from_at);
          ends = omega arith;
          inside = omega arith;
          passes = λ l g. passes-held (last_none s (at + 1) (at + 1) (omega arith)) (passes_as (ap (λ (x : List ℕ). held_bytes_lem g ++ x) own) (w.carries next None (get_or s at 0 ∷ []) one g));
        };
        within = token-within s b at args stems h (Op (get_or s at 0)) next (operator-step s b at args stems h low plain) w.within;
        carries = carries_as s c next _ _ own (carries_on s c (cursor at args stems false) next None (part s c.at at) (get_or s at 0 ∷ []) w.carries one);
      })
    where
      told : OperatorByte (get_or s at 0)
      told = operates_told (get_or s at 0) operates

      low : get_or s at 0 < 32
      low = told.low

      plain : is_plain (get_or s at 0) ≡ true
      plain = plain-operator low told.other

      next : Cursor
      next = cursor (at + 1) 0 (stems_after (get_or s at 0) args stems) false

      one : (g : Option ℤ) → Passes s (cursor at args stems false) g next None (held_bytes_lem g ++ (get_or s at 0 ∷ []))
      one = operator-passes s b at args stems h low plain

      own : part s c.at at ++ (get_or s at 0 ∷ []) ≡ part s c.at (at + 1)
      own = ap (λ (l : List ℕ). part s c.at at ++ l) (sym (part-one s at h)) ∙ part-part s c.at at (at + 1) from_at (omega arith)

  pub running_number : is_operator (get_or s at 0) ≡ false → Running s c (run_of (at + n) at (args + 1) stems)
  unfolding Carries
  running_number begins = record {
    run = record {
      starts = from_at;
      ends = omega arith;
      inside = short.inside;
      passes = λ l g. passes-held (number-held s b at args stems h (at + n) short)
          (passes_as (ap (λ (x : List ℕ). held_bytes_lem g ++ x) (append-nil (part s c.at at))) (w.carries next held [] one g));
    };
    within = token-within s b at args stems h (Num (float_of short.value)) next (number_step s b at args stems h (at + n) short) w.within;
    carries = carries_as s c next _ _ own (carries_on s c (cursor at args stems false) next held (part s c.at at) [] w.carries one);
  }
    where
      short : ShortAt s at (at + n)
      short = short-at s at b h begins n e

      held : Option ℤ
      held = Some short.value

      next : Cursor
      next = cursor (at + n) (args + 1) stems false

      one : (g : Option ℤ) → Passes s (cursor at args stems false) g next held (held_bytes_lem g ++ [])
      one = number-passes s b at args stems h (at + n) short

      own : part s c.at at ++ ([] ++ held_bytes_lem held) ≡ part s c.at (at + n)
      own = ap (λ (l : List ℕ). part s c.at at ++ l) (number-own s b at args stems h (at + n) short) ∙ part-part s c.at at (at + n) from_at (omega arith)
