-- What the work words held before Wish 7 of document 02: a rank, plus 1, for each subroutine. Its bit gives it the number that it had.
use Rattle.std.specs.Prelude.{ℕ, ◌+◌, ◌-◌, ◌<◌, ◌≡◌, refl, Bool, true, false, List, eqb, take, drop, get_or, None, Option, Some}
use Rattle.std.proofs.Common.{sym, ap, ◌∙◌, arith, ne_eqb, get_or-drop, get_or-take}
use Rattle.octets.specs.Pick.{pick}
use Rattle.bits.specs.Bits.{count_below, words_for, bits_of}
use Rattle.reach.specs.Reach.{ranks_of, number_in}
use Rattle.reach.specs.WordLaws.{ranks-at, number_is}

-- the new number that a word stood for
abbrev pub number_of : ℕ → Option ℕ
number_of w = pick (eqb w 0) None (Some (w - 1))

number-of : (t : Bool) (n : ℕ) → number_of (pick t (n + 1) 0) ≡ pick t (Some n) None
number-of true n = let e : n + 1 - 1 ≡ n = omega arith in rw (ne_eqb (n + 1) 0 (λ z. omega arith), e)
number-of false n = refl

-- the bits' rank is the number that the rank words had
pub same_number : (ws : List ℕ) (at : ℕ) (was : List ℕ) (old count : ℕ) (set : ℕ → Bool) → take (words_for count) (drop at ws) ≡ bits_of set count
    → take count (drop old was) ≡ ranks_of set 0 count → (k : ℕ) → k < count → number_in ws at count k ≡ number_of (get_or was (old + k) 0)
same_number ws at was old count set e f k h =
    let z : 0 + k ≡ k = omega arith in
    let w : get_or was (old + k) 0 ≡ pick (set k) (count_below set k + 1) 0
    = sym (get_or-drop old was k 0) ∙ sym (get_or-take count (drop old was) k 0 h) ∙ ap (λ (l : List ℕ). get_or l k 0) f ∙ ranks-at set count 0 k h ∙ rw z in
    number_is ws at count set e k h ∙ sym (ap number_of w ∙ number-of (set k) (count_below set k))
