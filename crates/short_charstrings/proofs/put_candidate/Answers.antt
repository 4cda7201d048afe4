-- `short_charstrings::put_candidate` meets its contract: its bytes are stored one after the other.
use Rattle.std.proofs.Common.{[], arith, length, length-set, ◌%◌, ◌-◌, ◌/◌, ◌∷◌, ◌≡◌, ◌≤◌}
use Rattle.short_charstrings.specs.Next.{candidate}
use Rattle.short_charstrings.specs.CodeLaws.{candidate_1, candidate_2, candidate_3, candidate_4, room_for, wrote_1, wrote_2, wrote_3, wrote_4}
use Rattle.short_charstrings.proofs.put_candidate.Goals as goal
use Rattle.short_charstrings.proofs.put_candidate.Goals.{Else-k-lt65793, Then-k-lt1, Then-k-lt257, Then-k-lt65793}

-- what each way writes, and its room
is-1 : (c : Then-k-lt1) → candidate c.args.k ≡ 14 ∷ []
is-1 c = candidate_1 c.args.k c.if-k-lt1.true

is-2 : (c : Then-k-lt257) → let k = c.args.k in candidate k ≡ (k - 1) ∷ 14 ∷ []
is-2 c = candidate_2 c.args.k c.if-k-lt1.false c.if-k-lt257.true

is-3 : (c : Then-k-lt65793) → let k = c.args.k in candidate k ≡ ((k - 257) / 256) ∷ ((k - 257) % 256) ∷ 14 ∷ []
is-3 c = candidate_3 c.args.k c.if-k-lt1.false c.if-k-lt257.false c.if-k-lt65793.true

is-4 : (c : Else-k-lt65793) → let k = c.args.k in
    candidate k ≡ ((k - 65793) / 65536) ∷ ((k - 65793) / 256 % 256) ∷ ((k - 65793) % 256) ∷ 14 ∷ []
is-4 c = candidate_4 c.args.k c.if-k-lt1.false c.if-k-lt257.false c.if-k-lt65793.false

room-1 : (c : Then-k-lt1) → 1 ≤ length c.args.out.now
room-1 c = room_for c.args.out.now c.args.k c.requires.1 _ (is-1 c)

room-2 : (c : Then-k-lt257) → 2 ≤ length c.args.out.now
room-2 c = room_for c.args.out.now c.args.k c.requires.1 _ (is-2 c)

room-3 : (c : Then-k-lt65793) → 3 ≤ length c.args.out.now
room-3 c = room_for c.args.out.now c.args.k c.requires.1 _ (is-3 c)

room-4 : (c : Else-k-lt65793) → 4 ≤ length c.args.out.now
room-4 c = room_for c.args.out.now c.args.k c.requires.1 _ (is-4 c)

pub bounds-out-0 : goal.bounds-out-0
bounds-out-0 c = room-1 c

pub returns-then-k-lt1 : goal.returns-then-k-lt1
returns-then-k-lt1 c = wrote_1 c.args.out.now c.args.k c.requires.1 (is-1 c)

pub bounds-out-0-then-k-lt257 : goal.bounds-out-0-then-k-lt257
bounds-out-0-then-k-lt257 c = omega (arith, room-2 c)

pub bounds-out-1 : goal.bounds-out-1
bounds-out-1 c = simp length-set (omega (arith, room-2 c))

pub returns-then-k-lt257 : goal.returns-then-k-lt257
returns-then-k-lt257 c = wrote_2 c.args.out.now c.args.k c.requires.1 _ (is-2 c)

pub bounds-out-0-then-k-lt65793 : goal.bounds-out-0-then-k-lt65793
bounds-out-0-then-k-lt65793 c = omega (arith, room-3 c)

pub bounds-out-1-then-k-lt65793 : goal.bounds-out-1-then-k-lt65793
bounds-out-1-then-k-lt65793 c = simp length-set (omega (arith, room-3 c))

pub bounds-out-2 : goal.bounds-out-2
bounds-out-2 c = simp length-set (omega (arith, room-3 c))

pub returns-then-k-lt65793 : goal.returns-then-k-lt65793
returns-then-k-lt65793 c = wrote_3 c.args.out.now c.args.k c.requires.1 _ _ (is-3 c)

pub bounds-out-0-2 : goal.bounds-out-0-2
bounds-out-0-2 c = omega (arith, room-4 c)

pub bounds-out-1-2 : goal.bounds-out-1-2
bounds-out-1-2 c = simp length-set (omega (arith, room-4 c))

pub bounds-out-2-2 : goal.bounds-out-2-2
bounds-out-2-2 c = simp length-set (omega (arith, room-4 c))

pub bounds-out-3 : goal.bounds-out-3
bounds-out-3 c = simp length-set (omega (arith, room-4 c))

pub returns : goal.returns
returns c = wrote_4 c.args.out.now c.args.k c.requires.1 _ _ _ (is-4 c)
