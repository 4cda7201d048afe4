-- Parts that are written one behind the other: what is done and what is left make the whole.
use Rattle.std.specs.Prelude.{ℕ, ◌+◌, ◌≤◌, ◌≡◌, refl, List, [], ◌++◌, length}
use Rattle.std.proofs.Common.{sym, ap, ◌∙◌, append_assoc, append-nil, arith, length-append}
use Rattle.octets.specs.Octets.{Wrote}
use Rattle.octets.specs.PutLaws.{wrote_none, wrote_then, wrote_as, wrote-length}

-- a part, and what follows it
pub record Split (all part more : List ℕ) : Type 0 where
  pub is : all ≡ part ++ more

pub split-append : (part more : List ℕ) → Split (part ++ more) part more
split-append part more = record { is = refl }

pub split-length : {all part more : List ℕ} → Split all part more → length all ≡ length part + length more
split-length {all} {part} {more} s = ap length s.is ∙ length-append part more

-- there is room for the first part
pub split-room : {all part more : List ℕ} (at n : ℕ) → at + length all ≤ n → Split all part more → at + length part ≤ n
split-room at n room s = omega (arith, split-length s)

-- ---- writing: what is done stands in the output
pub record Writing (all old : List ℕ) (at : ℕ) (left new : List ℕ) (p : ℕ) : Type 0 where
  pub done : List ℕ
  pub whole : all ≡ done ++ left
  pub wrote : Wrote old at done new p
  pub size : length new ≡ length old

pub writing_start : (all old : List ℕ) (at : ℕ) → Writing all old at all old at
writing_start all old at = record { done = []; whole = refl; wrote = wrote_none old at; size = refl }

pub writing_end : {all old left new : List ℕ} {at p : ℕ} → Writing all old at left new p → left ≡ [] → Wrote old at all new p
writing_end w e = wrote_as w.wrote (sym (w.whole ∙ ap (λ (l : List ℕ). w.done ++ l) e ∙ append-nil w.done))

-- the next part: there is room for it, and once it is written what follows it is left
module _ {all old left new part more : List ℕ} {at p : ℕ} (room : at + length all ≤ length old) (s : Split left part more) (w : Writing all old at left new p) where
  fits : at + (length w.done + length part + length more) ≤ length old
  fits = omega (arith, ap length w.whole, length-append w.done left, split-length s)

  pub writing-room : p + length part ≤ length new
  writing-room = omega (arith, fits, w.wrote.behind, w.size)

  pub writing-turn : {newer : List ℕ} {q : ℕ} → Wrote new p part newer q → Writing all old at more newer q
  writing-turn {newer} {q} x =
      record {
        done = w.done ++ part;
        whole = w.whole ∙ ap (λ (l : List ℕ). w.done ++ l) s.is ∙ sym (append_assoc w.done part more);
        wrote = wrote_then (omega (arith, fits)) w.wrote x;
        size = wrote-length x writing-room ∙ w.size;
      }

-- the last part
module _ {all old left new : List ℕ} {at p : ℕ} (room : at + length all ≤ length old) (w : Writing all old at left new p) where
  pub writing-left : p + length left ≤ length new
  writing-left =
      let s : Split left left [] = record { is = sym (append-nil left) } in
      writing-room room s w

  pub writing-last : {newer : List ℕ} {q : ℕ} → Wrote new p left newer q → Wrote old at all newer q
  writing-last x = let h : at ≤ length old = omega arith in wrote_as (wrote_then h w.wrote x) (sym w.whole)
