-- Laws of lines, fields and hexadecimal, as the functions meet them: a byte at a time, a pair of digits at a time.
use Prim.Native.Nat.{ℕ, zero, suc, ◌+◌, ◌-◌, ◌*◌, ◌≤◌, ◌<◌}
use Rattle.std.specs.Prelude.{◌≡◌, refl, Bool, true, false, List, [], ◌∷◌, ◌++◌, ltb, leb, get_or, None, Option, Some, drop, take}
use Rattle.std.specs.Option.{is_some, unwrap_or}
use Rattle.std.proofs.Common.{sym, ap, ◌∙◌, length-drop, take_all, leb-true}
use Rattle.std.proofs.lemmas.Bool.{false≢true}
use native.Mathlib.Omega.{arith}
use borrow.Author.Tests.{lt-ltb, le-ltb, ltb-false}
use Rattle.std.proofs.Math.ListN.{length}
use Rattle.std.proofs.Math.Seq.{take-length}
use Rattle.octets.specs.Pick.{pick, pick_ind}
use Rattle.octets.specs.PickLaws.{both_hold}
use Rattle.octets.specs.Octets.{Octets, put, Wrote}
use Rattle.octets.specs.PutLaws.{put_nil}
use Rattle.octets.specs.Lists.{before}
use Rattle.hexlines.specs.Hexlines.{hex_value_lem, octet_of, field_end_lem, is_hex_lem, spelt, hex_bytes, room_for, Unhexes}

-- ---- the first of a byte

-- a part that goes to the end is all that is left
rest_is : (s : List ℕ) (at : ℕ) → take (length s - at) (drop at s) ≡ drop at s
rest_is s at = take_all (length s - at) (drop at s) (omega (arith, length-drop at s))

pub field-place : (s : List ℕ) (at : ℕ) → at + before 32 (take (length s - at) (drop at s)) ≡ field_end_lem s at (length s)
unfolding field_end_lem
field-place s at = rw (rest_is s at, take-length)

-- ---- digits, a pair at a time

-- a choice between bytes and none that gives bytes
fitting : (t : Bool) (cs bs : List ℕ) → pick t None (Some cs) ≡ Some bs → (t ≡ false) × (cs ≡ bs)
fitting true cs bs e = absurd (let z : ◌≡◌ {A = ℕ} 0 1 = cc in omega arith)
fitting false cs bs e = (refl, cc)

hexadecimal : (t : Bool) (cs bs : List ℕ) → pick t (Some cs) None ≡ Some bs → (t ≡ true) × (bs ≡ cs)
hexadecimal true cs bs e = (refl, cc)
hexadecimal false cs bs e = absurd (let z : ◌≡◌ {A = ℕ} 0 1 = cc in omega arith)

-- a digit's value is below 16
pub digit_small : (b : ℕ) → unwrap_or (hex_value_lem b) 0 ≤ 15
unfolding hex_value_lem
digit_small b =
    pick_ind (λ o. unwrap_or o 0 ≤ 15) (ltb b 48) _ _ (λ e. omega arith) (λ e.
    pick_ind (λ o. unwrap_or o 0 ≤ 15) (leb b 57) _ _ (λ f. omega (arith, leb-true b 57 f)) (λ f.
    pick_ind (λ o. unwrap_or o 0 ≤ 15) (ltb b 97) _ _ (λ g. omega arith) (λ g.
    pick_ind (λ o. unwrap_or o 0 ≤ 15) (leb b 102) _ _ (λ h. omega (arith, leb-true b 102 h)) (λ h. omega arith))))

pub octet_small : (x y : ℕ) → octet_of x y < 256
unfolding octet_of
octet_small x y = omega (arith, digit_small x, digit_small y)

-- what a text of hexadecimal says of its first pair
pub hex-more : (x : ℕ) (u : List ℕ) → is_hex_lem (x ∷ u) ≡ true → 0 < length u
unfolding is_hex_lem
hex-more x [] h = absurd (false≢true h)
hex-more x (y ∷ u) h = omega arith

hex-rest : (x y : ℕ) (u : List ℕ) → is_hex_lem (x ∷ (y ∷ u)) ≡ true → is_hex_lem u ≡ true
unfolding is_hex_lem
hex-rest x y u h = (both_hold (is_some (hex_value_lem y)) _ (both_hold (is_some (hex_value_lem x)) _ h).1).1

-- the byte of a pair, and those of what follows it
pub spelt-pair : (xs ys : List ℕ) → length xs ≡ 2 → spelt (xs ++ ys) ≡ octet_of (get_or xs 0 0) (get_or xs 1 0) ∷ spelt ys
unfolding spelt
spelt-pair (x ∷ y ∷ []) ys h = refl
spelt-pair [] ys h = cc
spelt-pair (x ∷ []) ys h = cc
spelt-pair (x ∷ y ∷ z ∷ xs) ys h = cc

pub spelt-none : (s : List ℕ) → length s < 2 → spelt s ≡ []
unfolding spelt
spelt-none [] h = refl
spelt-none (x ∷ []) h = refl
spelt-none (x ∷ (y ∷ s)) h = absurd (omega arith)

-- two digits to a byte
pub spelt-length : (t : List ℕ) → is_hex_lem t ≡ true → length (spelt t) * 2 ≡ length t
unfolding spelt
spelt-length [] h = refl
spelt-length (x ∷ []) h = absurd (let k = hex-more x [] h in let z : ⊥ = omega arith in z)
spelt-length (x ∷ (y ∷ u)) h = omega (arith, spelt-length u (hex-rest x y u h))

-- ---- what is written

-- nothing is left to write
pub put_done : (old new : List ℕ) (to p : ℕ) (bs left : List ℕ) → left ≡ [] → p + length left ≡ to + length bs
    → put new p left ≡ put old to bs → Wrote old to bs new p
put_done old new to p bs left e n w =
    let z : length left ≡ 0 = ap length e in
    record { is = sym (put_nil new p) ∙ rw e at w; behind = omega arith }

-- ---- each way that unhexing goes

module _ (text : List ℕ) (room to : ℕ) where
  pub room_not_hex : is_hex_lem text ≡ false → room_for room to (hex_bytes text) ≡ None
  unfolding hex_bytes room_for
  room_not_hex h = rw h

  pub room-none : is_hex_lem text ≡ true → room < to + length (spelt text) → room_for room to (hex_bytes text) ≡ None
  unfolding hex_bytes room_for
  room-none h n = rw h (simp (lt-ltb room (to + length (spelt text)) n))

  pub room-found : is_hex_lem text ≡ true → to + length (spelt text) ≤ room → room_for room to (hex_bytes text) ≡ Some (spelt text)
  unfolding hex_bytes room_for
  room-found h n = rw h (simp (le-ltb room (to + length (spelt text)) n))

pub unhexes_bad : (o : Option (List ℕ)) (old : List ℕ) (to : ℕ) → o ≡ None → Unhexes o old to old None
unfolding Unhexes
unhexes_bad o old to e = rw e (refl, refl)

pub unhexes_done : (o : Option (List ℕ)) (bs old new : List ℕ) (to next : ℕ) → o ≡ Some bs → Wrote old to bs new next → Unhexes o old to new (Some next)
unfolding Unhexes
unhexes_done o bs old new to next e w = rw e (ap Some w.behind, w.is)

-- ---- what a caller has of an answer

-- Bad: the slice is as it was
pub bad-kept : (o : Option (List ℕ)) (old new : List ℕ) (to : ℕ) → Unhexes o old to new None → new ≡ old
unfolding Unhexes
bad-kept None old new to u = u.1
bad-kept (Some bs) old new to u = absurd (let e = u.0 in let z : ◌≡◌ {A = ℕ} 0 1 = cc in omega arith)

-- Done: the bytes, and that they were written
pub done_wrote : (o : Option (List ℕ)) (old new : List ℕ) (to next : ℕ) → Unhexes o old to new (Some next)
    → (bs : List ℕ) × (o ≡ Some bs) × Wrote old to bs new next
unfolding Unhexes
done_wrote None old new to next u = absurd (let e = u.0 in let z : ◌≡◌ {A = ℕ} 0 1 = cc in omega arith)
done_wrote (Some bs) old new to next u =
    let e : next ≡ to + length bs = let d = u.0 in cc in
    (bs, refl, record { is = u.1; behind = e })

-- bytes for which there is room fit
pub room-some : (room to : ℕ) (o : Option (List ℕ)) (bs : List ℕ) → room_for room to o ≡ Some bs → (o ≡ Some bs) × (to + length bs ≤ room)
unfolding room_for
room-some room to None bs e = absurd (let z : ◌≡◌ {A = ℕ} 0 1 = cc in omega arith)
room-some room to (Some cs) bs e =
    let p = fitting (ltb room (to + length cs)) cs bs e in
    let n = ltb-false room (to + length cs) p.0 in
    (ap Some p.1, omega (arith, n, ap length p.1))

-- bytes of a text are those that its digits spell
pub bytes-some : (text bs : List ℕ) → hex_bytes text ≡ Some bs → (is_hex_lem text ≡ true) × (bs ≡ spelt text)
unfolding hex_bytes
bytes-some text bs e = hexadecimal (is_hex_lem text) (spelt text) bs e

-- and each is below 256
pub spelt_octets : (text : List ℕ) → Octets (spelt text)
unfolding spelt
spelt_octets [] i = omega arith
spelt_octets (x ∷ []) i = omega arith
spelt_octets (x ∷ (y ∷ u)) zero = octet_small x y
spelt_octets (x ∷ (y ∷ u)) (suc i) = spelt_octets u i
