-- Where a DICT goes: a count of its bytes, or an output. Parts that follow one another are taken one after the other.
use Rattle.std.specs.Prelude.{ℕ, ◌+◌, ◌^◌, ◌≤◌, ◌<◌, ◌≡◌, List, [], ◌∷◌, ◌++◌, length, refl}
use Rattle.std.proofs.Common.{arith, sym, ap, subst, ◌∙◌, length-append}
use mathlib.Core.List.{append_assoc, append-nil}
use Rattle.octets.specs.PutLaws.{wrote_none}
use Rattle.octets.specs.Out.{Writes}
use Rattle.octets.specs.declared.out.Out.{Out}
use Rattle.dict_write.specs.WriteLaws.{room-first, room-then, wrote-both}
use Rattle.dict_write.specs.declared.sink.Count.{Count}

-- of two parts the first has room, then the second, and both are taken
pub record Follows {S : Type 0} (room : S → List ℕ → Type 0) (takes : S → List ℕ → S → Type 0) : Type 0 where
  pub none : (s : S) → takes s [] s
  pub first : (s : S) (xs ys : List ℕ) → room s (xs ++ ys) → room s xs
  pub second : (s t : S) (xs ys : List ℕ) → room s (xs ++ ys) → takes s xs t → room t ys
  pub both : (s t u : S) (xs ys : List ℕ) → room s (xs ++ ys) → takes s xs t → takes t ys u → takes s (xs ++ ys) u

-- so many more were counted
pub record Counts (s : Count) (bs : List ℕ) (t : Count) : Type 0 where
  pub more : t.len ≡ s.len + length bs

pub counts_follow : Follows (λ (s : Count) (bs : List ℕ). s.len + length bs < 2 ^ 64) Counts
counts_follow =
    record {
      none = λ s. record { more = omega arith };
      first = λ s xs ys h. omega (arith, length-append xs ys);
      second = λ s t xs ys h v. omega (arith, length-append xs ys, v.more);
      both = λ s t u xs ys h v w. record { more = omega (arith, length-append xs ys, v.more, w.more) };
    }

pub writes_follow : Follows (λ (s : Out) (bs : List ℕ). s.at + length bs ≤ length s.bytes.now) Writes
writes_follow =
    record {
      none = λ s. record { wrote = wrote_none s.bytes.now s.at; same = refl; size = refl };
      first = λ s xs ys h. room-first (length s.bytes.now) s.at xs ys h;
      second = λ s t xs ys h v. room-then ys v.wrote h;
      both = λ s t u xs ys h v w. record { wrote = wrote-both h v.wrote w.wrote; same = w.same ∙ v.same; size = w.size ∙ v.size };
    }

-- of some things the ones done were taken, and those that are left follow
pub record Walking {S A : Type 0} (takes : S → List ℕ → S → Type 0) (bytes : List A → List ℕ) (all : List A) (old : S) (left : List A) (new : S) : Type 0 where
  pub done : List A
  pub whole : all ≡ done ++ left
  pub took : takes old (bytes done) new

module _ {S A : Type 0} (room : S → List ℕ → Type 0) (takes : S → List ℕ → S → Type 0) (follows : Follows room takes) (bytes : List A → List ℕ)
    (all : List A) (old : S) where
  pub walking_start : bytes [] ≡ [] → Walking takes bytes all old all old
  walking_start e = record { done = []; whole = refl; took = subst (λ (l : List ℕ). takes old l old) (sym e) (follows.none old) }

  module _ (left : List A) (new : S) (w : Walking takes bytes all old left new) where
    pub walking_end : left ≡ [] → takes old (bytes all) new
    walking_end e = subst (λ (l : List ℕ). takes old l new) (ap bytes (sym (w.whole ∙ ap (λ (l : List A). w.done ++ l) e ∙ append-nil w.done))) w.took

    pub walking_on : (next : List A) → left ≡ next → Walking takes bytes all old next new
    walking_on next e = record { done = w.done; whole = w.whole ∙ ap (λ (l : List A). w.done ++ l) e; took = w.took }

    module _ (append : (xs ys : List A) → bytes (xs ++ ys) ≡ bytes xs ++ bytes ys) (v : A) (next : List A) (f : left ≡ v ∷ next) (own : List ℕ)
        (one : bytes (v ∷ []) ≡ own) (fits : room old (bytes all)) where
      further : all ≡ (w.done ++ (v ∷ [])) ++ next
      further = w.whole ∙ ap (λ (l : List A). w.done ++ l) f ∙ sym (append_assoc w.done (v ∷ []) next)

      more : bytes (w.done ++ (v ∷ [])) ≡ bytes w.done ++ own
      more = append w.done (v ∷ []) ∙ ap (λ (l : List ℕ). bytes w.done ++ l) one

      so_far : room old (bytes w.done ++ own)
      so_far =
          follows.first old (bytes w.done ++ own) (bytes next)
          (subst (room old) (ap bytes further ∙ append (w.done ++ (v ∷ [])) next ∙ ap (λ (l : List ℕ). l ++ bytes next) more) fits)

      pub walking_room : room new own
      walking_room = follows.second old new (bytes w.done) own so_far w.took

      pub walking_turn : (newer : S) → takes new own newer → Walking takes bytes all old next newer
      walking_turn newer x =
          record {
            done = w.done ++ (v ∷ []);
            whole = further;
            took = subst (λ (l : List ℕ). takes old l newer) (sym more) (follows.both old new newer (bytes w.done) own so_far w.took x);
          }
