-- Parts that one walk sends into a sink, one behind the other: what was taken and what is left make the whole.
use Rattle.std.specs.Prelude.{ℕ, ◌≡◌, refl, List, [], ◌++◌}
use Rattle.std.proofs.Common.{sym, ap, subst, ◌∙◌, append_assoc, append-nil}
use Rattle.dict_write.specs.Sinks.{Follows}
use Rattle.top_dict.specs.Writing.{Split}

pub record Sent {S : Type 0} (takes : S → List ℕ → S → Type 0) (all : List ℕ) (old : S) (left : List ℕ) (new : S) : Type 0 where
  pub done : List ℕ
  pub whole : all ≡ done ++ left
  pub took : takes old done new

pub sent_end : {S : Type 0} {takes : S → List ℕ → S → Type 0} {all left : List ℕ} {old new : S} → Sent takes all old left new → left ≡ [] → takes old all new
sent_end {S} {takes} {all} {left} {old} {new} w e =
    subst (λ (l : List ℕ). takes old l new) (sym (w.whole ∙ ap (λ (l : List ℕ). w.done ++ l) e ∙ append-nil w.done)) w.took

module _ {S : Type 0} {room : S → List ℕ → Type 0} {takes : S → List ℕ → S → Type 0} (follows : Follows room takes) where
  -- of two parts
  module _ {all part more : List ℕ} (s : Split all part more) {old : S} (fits : room old all) where
    parted : room old (part ++ more)
    parted = subst (room old) s.is fits

    pub first_fits : room old part
    first_fits = follows.first old part more parted

    pub then_fits : {mid : S} → takes old part mid → room mid more
    then_fits {mid} v = follows.second old mid part more parted v

    pub both_sent : {mid new : S} → takes old part mid → takes mid more new → takes old all new
    both_sent {mid} {new} v w = subst (λ (l : List ℕ). takes old l new) (sym s.is) (follows.both old mid new part more parted v w)

  -- of more
  pub sent_start : (all : List ℕ) (old : S) → Sent takes all old all old
  sent_start all old = record { done = []; whole = refl; took = follows.none old }

  module _ {all left : List ℕ} {old new : S} (fits : room old all) where
    module _ {part more : List ℕ} (s : Split left part more) (w : Sent takes all old left new) where
      whole : all ≡ (w.done ++ part) ++ more
      whole = w.whole ∙ ap (λ (l : List ℕ). w.done ++ l) s.is ∙ sym (append_assoc w.done part more)

      so_far : room old (w.done ++ part)
      so_far = follows.first old (w.done ++ part) more (subst (room old) whole fits)

      pub sent_room : room new part
      sent_room = follows.second old new w.done part so_far w.took

      pub sent_turn : {newer : S} → takes new part newer → Sent takes all old more newer
      sent_turn {newer} x = record { done = w.done ++ part; whole = whole; took = follows.both old new newer w.done part so_far w.took x }

    module _ (w : Sent takes all old left new) where
      pub sent_left : room new left
      sent_left = follows.second old new w.done left (subst (room old) w.whole fits) w.took

      pub sent_last : {newer : S} → takes new left newer → takes old all newer
      sent_last {newer} x = subst (λ (l : List ℕ). takes old l newer) (sym w.whole) (follows.both old new newer w.done left (subst (room old) w.whole fits) w.took x)
