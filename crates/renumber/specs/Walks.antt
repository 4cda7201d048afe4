-- Laws of a body that is renumbered by a walk over its tokens, one by one or a run at once: those of BodyLaws and RunBodyLaws, by all that it reads.
use Rattle.std.specs.Prelude.{ℕ, ◌+◌, ◌-◌, ◌≤◌, ◌<◌, ◌≡◌, true, false, List, ℤ, length, None, Option, Some}
use Rattle.std.proofs.Common.{arith}
use Rattle.octets.specs.Octets.{Wrote}
use Rattle.type2_number.specs.Number.{Reading}
use Rattle.charstring.specs.declared.Token.{Token}
use Rattle.charstring.specs.declared.Cursor.{Cursor}
use Rattle.charstring.specs.Bias.{last_at}
use Rattle.charstring.specs.Token.{Tok, more, token_at, tokens_of, start}
use Rattle.charstring.specs.Answers.{step_of, given_at}
use Rattle.charstring.specs.TokensLaws.{Next}
use Rattle.prune.specs.RenumberSteps.{renumbered_tokens}
use Rattle.record.specs.Record.{rows_of}
use Rattle.unfold.specs.Sites.{site_of}
use Rattle.renumber.specs.OperandLaws.{calls-read}
use Rattle.renumber.specs.Turn.{cursor, held_after, turned_at, held_bytes_lem, sent_bytes, held_len_lem, own_len, sized_of, body_of_lem, is_yes, a_turn}
use Rattle.renumber.specs.BodyLaws.{Turning, Sizing, Putting, turning_next, sizing_start, sized-room, sized_end, sizing_turn, sized_failed, putting_start, putting_room, putting_turn, putting_failed, put_end_room, put_end, whole-body}
use Rattle.renumber.specs.RunBodyLaws.{sizing_run, putting_run-room, putting_run}
use Rattle.renumber.specs.Run.{run_bytes, RunFrom}
use Rattle.renumber.specs.Bodies.{calls_of, given_of, renumbered_of, turned_of}
use Rattle.renumber.specs.declared.runs.Run.{Run}
use Rattle.renumber.specs.declared.Turned.{Turned}
use Rattle.renumber.specs.declared.body.Body.{Body}

-- the walk stands at a cursor, holds a number, and has measured so many bytes, or written
abbrev pub Sizes : Body → Cursor → Option ℤ → ℕ → Type 0
Sizes b c h len = Sizing (calls_of b) (given_of b) b.code.now c h len

abbrev pub Puts : Body → List ℕ → ℕ → Cursor → Option ℤ → List ℕ → ℕ → Type 0
Puts b old to c h new p = Putting (calls_of b) (given_of b) b.code.now old to c h new p

-- what reading the token at a cursor answers
abbrev pub Turns : Body → Cursor → Option ℤ → Option Turned → Type 0
Turns b c h r = r ≡ turned_at (calls_of b) h (step_of (token_at b.code.now (given_at (given_of b) c) c))

module _ (b : Body) where
  reads : (k : ℕ) (z y : ℤ) → calls_of b k z ≡ Some y → Reading y
  reads = calls-read b.words.now b.locals b.globals b.inputs.local_ranks b.inputs.global_ranks

  -- the token, and where it leads
  pub walk_next : {c : Cursor} {h : Option ℤ} {sent : List Tok} → Turning (calls_of b) (given_of b) b.code.now c h sent → more b.code.now c ≡ true → {r : Option Turned} → Turns b c h r
      → {v : Option ℤ} {t : Token} {d : Cursor} → r ≡ a_turn v t d → Next b.code.now c (token_at b.code.now (given_of b (c.at - 1)) c) t d
  walk_next {c} {h} {sent} w m {r} e {v} {t} {d} f = turning_next (calls_of b) reads (given_of b) b.code.now b.octets c h sent w m r e v t d f

  -- ---- measuring

  pub size_start : {c : Cursor} → c ≡ start → Sizes b c None 0
  size_start {c} e = sizing_start (calls_of b) reads (given_of b) b.code.now b.octets c e

  module _ {c : Cursor} {h : Option ℤ} {len : ℕ} (w : Sizes b c h len) where
    pub size_small : len ≤ 335544320
    size_small = omega (arith, w.small, w.turning.walk.within.inside, b.inputs.size)

    pub size_room : len + held_len_lem h ≤ 335544320
    size_room = omega (arith, sized-room (calls_of b) reads (given_of b) b.code.now b.octets c h len w, w.turning.walk.within.inside, b.inputs.size)

    pub size_end : more b.code.now c ≡ false → {n : ℕ} → n ≡ held_len_lem h → Some (len + n) ≡ sized_of (turned_of b)
    size_end m {n} e = sized_end (calls_of b) reads (given_of b) b.code.now b.octets c h len w m n e

    pub size_run : {r : Run} → RunFrom b.code.now c r → c.at < r.at → {n : ℕ} → n ≡ held_len_lem h + (r.last - c.at) → {k : Option ℤ} → k ≡ last_at b.code.now r.last r.at
        → Sizes b (cursor r.at r.args r.stems false) k (len + n)
    size_run {r} run on {n} e {k} f = sizing_run (calls_of b) reads (given_of b) b.code.now b.octets c r run on h len w n e k f

    module _ (m : more b.code.now c ≡ true) {r : Option Turned} (e : Turns b c h r) where
      pub size_turn : {v : Option ℤ} {t : Token} {d : Cursor} → r ≡ a_turn v t d → {n : ℕ} → n ≡ held_len_lem v + own_len t → {k : Option ℤ} → k ≡ held_after t → Sizes b d k (len + n)
      size_turn {v} {t} {d} f {n} g {k} j = sizing_turn (calls_of b) reads (given_of b) b.code.now b.octets c h len w m r e v t d f n g k j

      pub size_failed : r ≡ None → None ≡ sized_of (turned_of b)
      size_failed f = sized_failed (calls_of b) reads (given_of b) b.code.now b.octets c h len w m r e f

  -- ---- writing

  pub puts_start : {old : List ℕ} {to : ℕ} {c : Cursor} → c ≡ start → Puts b old to c None old to
  puts_start {old} {to} {c} e = putting_start (calls_of b) reads (given_of b) b.code.now b.octets old to c e

  module _ (yes : is_yes (renumbered_of b) ≡ true) {old : List ℕ} {to : ℕ} (room : to + length (body_of_lem (renumbered_of b)) ≤ length old)
      {c : Cursor} {h : Option ℤ} {new : List ℕ} {p : ℕ} (w : Puts b old to c h new p) where
    abbrev bs : List ℕ
    bs = body_of_lem (renumbered_of b)

    whole : renumbered_tokens (calls_of b) (tokens_of (given_of b) b.code.now) ≡ Some (body_of_lem (renumbered_of b))
    whole = whole-body (rows_of b.rows.bytes.now) (calls_of b) (site_of b.site) b.code.now yes

    pub puts_end-room : more b.code.now c ≡ false → p + length (held_bytes_lem h) ≤ length new
    puts_end-room m = put_end_room (calls_of b) reads (given_of b) b.code.now b.octets old to bs whole room c h new p w m

    pub puts_end : more b.code.now c ≡ false → {newer : List ℕ} {q : ℕ} → Wrote new p (held_bytes_lem h) newer q → Wrote old to (body_of_lem (renumbered_of b)) newer q
    puts_end m {newer} {q} v = put_end (calls_of b) reads (given_of b) b.code.now b.octets old to bs whole room c h new p w m newer q v

    module _ {r : Run} (run : RunFrom b.code.now c r) (on : c.at < r.at) where
      pub puts_run-room : p + length (run_bytes b.code.now h c.at r.last) ≤ length new
      puts_run-room = putting_run-room (calls_of b) reads (given_of b) b.code.now b.octets c r run on old to bs whole room h new p w

      pub puts_run : {newer : List ℕ} {q : ℕ} → Wrote new p (run_bytes b.code.now h c.at r.last) newer q → {k : Option ℤ} → k ≡ last_at b.code.now r.last r.at
          → Puts b old to (cursor r.at r.args r.stems false) k newer q
      puts_run {newer} {q} v {k} f = (putting_run (calls_of b) reads (given_of b) b.code.now b.octets c r run on old to bs whole room h new p w newer q v k f).0

    module _ (m : more b.code.now c ≡ true) {r : Option Turned} (e : Turns b c h r) where
      pub puts_turn-room : {v : Option ℤ} {t : Token} {d : Cursor} → r ≡ a_turn v t d → p + length (sent_bytes b.code.now v t) ≤ length new
      puts_turn-room {v} {t} {d} f = putting_room (calls_of b) reads (given_of b) b.code.now b.octets old to bs whole room c h new p w m r e v t d f

      pub puts_turn : {v : Option ℤ} {t : Token} {d : Cursor} → r ≡ a_turn v t d → {newer : List ℕ} {q : ℕ} → Wrote new p (sent_bytes b.code.now v t) newer q → {k : Option ℤ} → k ≡ held_after t
          → Puts b old to d k newer q
      puts_turn {v} {t} {d} f {newer} {q} u {k} j = putting_turn (calls_of b) reads (given_of b) b.code.now b.octets old to bs whole room c h new p w m r e v t d f newer q u k j

      pub puts_failed : r ≡ None → ⊥
      puts_failed f = putting_failed (calls_of b) reads (given_of b) b.code.now b.octets old to bs whole room c h new p w m r e f
