-- The next short charstring (document 02, Wish 13: 'Given one of them, or nothing, the answer is the next, or that none is left. Bytes that are not
-- such a charstring are refused with 2'), as the code finds it: what ends in endchar, tried one after the other. NextLaws `next_is` says what it is.
use Rattle.std.specs.Prelude.{ℕ, zero, suc, ◌+◌, ◌-◌, ◌*◌, ◌/◌, ◌%◌, ◌<◌, ◌≡◌, Bool, true, false, List, [], ◌∷◌, ltb, length, get_or, Result, Ok, Err, Option, Some, None}
use Rattle.octets.specs.Pick.{pick}
use Rattle.octets.specs.Octets.{put}
use Rattle.short_charstrings.specs.Short.{is_short, comes_before}
use Rattle.refusal.specs.declared.Refusal.{Refusal}
use Rattle.refusal.specs.declared.Refusal.TheVariants.{Malformed, Output}

-- ---- what the answer is

pub data Answer : Type 0 where
  refused : Refusal → Answer
  none_left : Answer
  next : List ℕ → Answer

-- what may be given: nothing, or one of them
abbrev pub may_be_given : List ℕ → Bool
may_be_given [] = true
may_be_given (x ∷ xs) = is_short (x ∷ xs)

-- t is the least short one behind s
pub record Least (s t : List ℕ) : Type 0 where
  pub short : is_short t ≡ true
  pub behind : comes_before s t ≡ true
  pub none_between : (u : List ℕ) → is_short u ≡ true → comes_before s u ≡ true → comes_before u t ≡ false

-- what document 02 asks of the answer
abbrev pub IsNext : List ℕ → Answer → Type 0
IsNext s (refused e) = (may_be_given s ≡ false) × (e ≡ Malformed)
IsNext s none_left = (may_be_given s ≡ true) × ((u : List ℕ) → is_short u ≡ true → comes_before s u ≡ false)
IsNext s (next t) = (may_be_given s ≡ true) × Least s t

-- ---- as the code finds it

-- all of 1 to 4 bytes that end in 14: 1 + 256 + 65,536 + 16,777,216 of them
abbrev pub candidates : ℕ
candidates = 16843009

-- the k-th of them, in their order
unfoldable pub candidate : ℕ → List ℕ
candidate k =
    pick (ltb k 1) (14 ∷ [])
    (pick (ltb k 257) ((k - 1) ∷ 14 ∷ [])
    (pick (ltb k 65793) (((k - 257) / 256) ∷ ((k - 257) % 256) ∷ 14 ∷ [])
    (((k - 65793) / 65536) ∷ ((k - 65793) / 256 % 256) ∷ ((k - 65793) % 256) ∷ 14 ∷ [])))

-- which of them a charstring is
unfoldable pub place_of : List ℕ → ℕ
place_of s =
    pick (ltb (length s) 2) 0
    (pick (ltb (length s) 3) (1 + get_or s 0 0)
    (pick (ltb (length s) 4) (257 + (get_or s 0 0 * 256 + get_or s 1 0))
    (65793 + ((get_or s 0 0 * 256 + get_or s 1 0) * 256 + get_or s 2 0))))

-- the first short one from the k-th on, n of them tried at most: its place
pub data Found : Type 0 where
  nowhere : Found
  found : ℕ → Found

unfoldable pub first_from_lem : ℕ → ℕ → Found
first_from_lem zero k = nowhere
first_from_lem (suc n) k = let rest = first_from_lem n (k + 1) in pick (is_short (candidate k)) (found k) rest

-- where to begin: behind what is given
abbrev pub start_of : List ℕ → ℕ
start_of [] = 0
start_of (x ∷ xs) = place_of (x ∷ xs) + 1

abbrev pub answer_at : Found → Answer
answer_at nowhere = none_left
answer_at (found k) = next (candidate k)

unfoldable pub next_of : List ℕ → Answer
next_of s = pick (may_be_given s) (answer_at (first_from_lem (candidates - start_of s) (start_of s))) (refused Malformed)

-- ---- what the calls answer, and leave in what is lent

-- the place of the next
abbrev pub found_place : Found → Option ℕ
found_place nowhere = None
found_place (found k) = Some k

unfoldable pub place_next : List ℕ → Result (Option ℕ) Refusal
place_next s = pick (may_be_given s) (Ok (found_place (first_from_lem (candidates - start_of s) (start_of s)))) (Err Malformed)

abbrev pub PlaceFits : Result (Option ℕ) Refusal → Type 0
PlaceFits (Err e) = e ≡ Malformed
PlaceFits (Ok None) = Unit
PlaceFits (Ok (Some k)) = k < candidates

-- too little room is fewer bytes than the next has
abbrev pub answer_as : Answer → ℕ → Result (Option ℕ) Refusal
answer_as (refused e) room = Err e
answer_as none_left room = Ok None
answer_as (next t) room = pick (ltb room (length t)) (Err Output) (Ok (Some (length t)))

abbrev pub leaves : Answer → List ℕ → List ℕ
leaves (refused e) out = out
leaves none_left out = out
leaves (next t) out = pick (ltb (length out) (length t)) out (put out 0 t)

-- a call's answer, and what was lent to it before and after
pub record Answers (a : Answer) (out out' : List ℕ) (r : Result (Option ℕ) Refusal) : Type 0 where
  pub answer : r ≡ answer_as a (length out)
  pub output : out' ≡ leaves a out

-- for C: the bytes and their count, 0 where none is left; refused where there is no room for the bytes or for the count
abbrev pub bytes_of : Answer → List ℕ
bytes_of (refused e) = []
bytes_of none_left = []
bytes_of (next t) = t

abbrev pub gives_as : Answer → ℕ → ℕ → Result Unit Refusal
gives_as (refused e) bytes words = Err e
gives_as none_left bytes words = pick (ltb words 1) (Err Output) (Ok tt)
gives_as (next t) bytes words = pick (ltb bytes (length t)) (Err Output) (pick (ltb words 1) (Err Output) (Ok tt))

-- a lent slice after the call: ws goes into its front where the call is not refused
abbrev pub written_if : Result Unit Refusal → List ℕ → List ℕ → List ℕ
written_if (Err e) old ws = old
written_if (Ok u) old ws = put old 0 ws

pub record Gives (a : Answer) (out out' size size' : List ℕ) (r : Result Unit Refusal) : Type 0 where
  pub answer : r ≡ gives_as a (length out) (length size)
  pub bytes : out' ≡ written_if r out (bytes_of a)
  pub count : size' ≡ written_if r size (length (bytes_of a) ∷ [])
