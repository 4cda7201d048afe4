-- A body renumbered by a walk that takes a run at once: the measuring and the writing go on after it.
use Rattle.std.specs.Prelude.{ℕ, ◌+◌, ◌-◌, ◌*◌, ◌≤◌, ◌<◌, ◌≡◌, refl, false, List, ◌++◌, ltb, ℤ, length, drop, Some, None, Option}
use Rattle.std.proofs.Common.{sym, ap, ◌∙◌, subst, arith, length-append, length-drop, length-take-le, ltb-true}
use Rattle.octets.specs.Pick.{pick_ind}
use Rattle.octets.specs.Octets.{Octets, Wrote}
use Rattle.octets.specs.PutLaws.{wrote_then, wrote_as, wrote-length}
use Rattle.type2_number.specs.Number.{number_at, Reading}
use Rattle.charstring.specs.declared.MaskLen.{MaskLen}
use Rattle.charstring.specs.declared.Cursor.{Cursor}
use Rattle.charstring.specs.Bias.{last_of, last_at}
use Rattle.charstring.specs.Token.{Tok, tokens_of}
use Rattle.charstring.specs.Encode.{encode}
use Rattle.charstring.specs.TokensLaws.{fuel_of}
use Rattle.prune.specs.Renumber.{Calls}
use Rattle.prune.specs.RenumberSteps.{renumbered_tokens}
use Rattle.renumber.specs.Turn.{cursor, held_bytes_lem, held_len_lem}
use Rattle.renumber.specs.TurnLaws.{held-length}
use Rattle.renumber.specs.BodyLaws.{Turning, held_most, Sizing, Putting, held-most, sent-within, same_length}
use Rattle.renumber.specs.Run.{part, run_bytes, Standing, RunFrom}
use Rattle.renumber.specs.declared.runs.Run.{Run}

part_length : (s : List ℕ) (from to : ℕ) → to ≤ length s → length (part s from to) ≡ to - from
part_length s from to h = length-take-le (to - from) (drop from s) (rw length-drop (omega arith))

-- the bytes written at a run, with its length in the code's terms
run_length : (s : List ℕ) (h : Option ℤ) (from last : ℕ) → last ≤ length s → length (run_bytes s h from last) ≡ held_len_lem h + (last - from)
run_length s h from last k =
    let e = length-append (held_bytes_lem h) (part s from last) in
    let f = part_length s from last k in
    let g = held-length h in
    omega arith

-- a number that is held back had a byte
most_in : (s : List ℕ) (last at : ℕ) → held_most (last_at s last at) + 5 * last ≤ 5 * at + 5 * (last - at)
most_in s last at =
    pick_ind (λ (g : Option ℤ). held_most g + 5 * last ≤ 5 * at + 5 * (last - at)) (ltb last at) (last_of (number_at s last)) None
    (λ e. let l = ltb-true last at e in let m = five (last_of (number_at s last)) in omega arith) (λ e. omega arith)
  where
    five : (g : Option ℤ) → held_most g ≤ 5
    five None = omega arith
    five (Some v) = omega arith

module _ (calls : Calls) (reads : (b : ℕ) (z y : ℤ) → calls b z ≡ Some y → Reading y) (given : ℕ → MaskLen) (s : List ℕ) (b : Octets s)
    (c : Cursor) (r : Run) (run : RunFrom s c r) (on : c.at < r.at) where
  -- where the walk stands after the run
  after_run : (h : Option ℤ) (sent : List Tok) → Turning calls given s c h sent
      → Standing calls given s (cursor r.at r.args r.stems false) (last_at s r.last r.at) (encode sent ++ run_bytes s h c.at r.last)
  after_run h sent w = (run.passes on h).goes calls reads given (encode sent) (record { sent = sent; turning = w; written = refl })

  pub sizing_run : (h : Option ℤ) (len : ℕ) → Sizing calls given s c h len → (n : ℕ) → n ≡ held_len_lem h + (r.last - c.at)
      → (k : Option ℤ) → k ≡ last_at s r.last r.at → Sizing calls given s (cursor r.at r.args r.stems false) k (len + n)
  sizing_run h len w n e k f =
      let q = after_run h w.sent w.turning in
      let inside : r.last ≤ length s = omega (arith, run.ends, run.inside) in
      let p : length (encode q.sent) ≡ length (encode w.sent) + length (run_bytes s h c.at r.last)
      = ap length q.written ∙ length-append (encode w.sent) (run_bytes s h c.at r.last) in
      subst (λ (y : Option ℤ). Sizing calls given s (cursor r.at r.args r.stems false) y (len + n)) (sym f) (record {
        sent = q.sent;
        turning = q.turning;
        size = omega (arith, w.size, run_length s h c.at r.last inside);
        small = omega (arith, w.small, held-most h, most_in s r.last r.at, run.starts, run.ends);
      })

  module _ (old : List ℕ) (to : ℕ) (bs : List ℕ) (y : renumbered_tokens calls (tokens_of given s) ≡ Some bs) (room : to + length bs ≤ length old)
      (h : Option ℤ) (new : List ℕ) (p : ℕ) (w : Putting calls given s old to c h new p) where
    pub putting_run-room : p + length (run_bytes s h c.at r.last) ≤ length new
    putting_run-room =
        let q = after_run h w.sent w.turning in
        let x = sent-within calls reads given s b (cursor r.at r.args r.stems false) (last_at s r.last r.at) q.sent q.turning bs y in
        let k : length (encode q.sent) ≡ length (encode w.sent) + length (run_bytes s h c.at r.last)
        = ap length q.written ∙ length-append (encode w.sent) (run_bytes s h c.at r.last) in
        let n = same_length calls reads given s b old to bs y room c h new p w in
        omega (arith, w.wrote.behind)

    pub putting_run : (newer : List ℕ) (q : ℕ) → Wrote new p (run_bytes s h c.at r.last) newer q → (k : Option ℤ) → k ≡ last_at s r.last r.at
        → Putting calls given s old to (cursor r.at r.args r.stems false) k newer q × (length newer ≡ length new)
    putting_run newer q u k j =
        let x = after_run h w.sent w.turning in (
          subst (λ (g : Option ℤ). Putting calls given s old to (cursor r.at r.args r.stems false) g newer q) (sym j) (record {
            sent = x.sent;
            turning = x.turning;
            wrote = wrote_as (wrote_then (omega arith) w.wrote u) (sym x.written);
          }),
          wrote-length u putting_run-room,
        )

  -- fewer tokens are left
  pub run_shorter : fuel_of s (cursor r.at r.args r.stems false) < fuel_of s c
  run_shorter = omega (arith, run.inside)
