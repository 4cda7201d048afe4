-- `hexlines::unhex` meets its contract: each way out is a case of `room_for`; the bytes are half as many as the digits.
use Rattle.std.proofs.Common.{arith, length, sym, true, ◌*◌, ◌∙◌, ◌≡◌}
use Rattle.hexlines.specs.Hexlines.{is_hex_lem, spelt}
use Rattle.hexlines.specs.HexlinesLaws.{spelt-length, room_not_hex, room-none, room-found, unhexes_bad, unhexes_done}
use Rattle.hexlines.proofs.unhex.Goals as goal
use Rattle.hexlines.proofs.unhex.Goals.{Then-is_hex}

hex : (c : Then-is_hex) → is_hex_lem c.args.s.now ≡ true
hex c = sym c.is_hex.ensures ∙ c.if-is_hex.true

many : (c : Then-is_hex) → length (spelt c.args.s.now) * 2 ≡ length c.args.s.now
many c = spelt-length _ (hex c)

pub returns-then-out-s : goal.returns-then-out-s
returns-then-out-s c =
    let t = (goal.at.returns-then-out-s c).Then-is_hex in
    unhexes_bad _ _ _ (room-none c.args.s.now _ _ (hex t) (omega (arith, many t)))

pub put_spelt-count-requires : goal.put_spelt-count-requires
put_spelt-count-requires c = let t = (goal.at.put_spelt-count-requires c).Then-is_hex in (hex t, omega (arith, many t))

pub returns-then-is_hex : goal.returns-then-is_hex
returns-then-is_hex c =
    let t = (goal.at.returns-then-is_hex c).Then-is_hex in
    unhexes_done _ _ _ _ _ _ (room-found c.args.s.now _ _ (hex t) (omega (arith, many t))) c.put_spelt-count.ensures

pub returns : goal.returns
returns c = unhexes_bad _ _ _ (room_not_hex c.args.s.now _ _ (sym c.is_hex.ensures ∙ c.if-is_hex.false))
