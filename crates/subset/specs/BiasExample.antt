-- The bias before and after (document 01, 'Corners in charstring.rs' and 'Corners in write.rs'): of 1240 local subroutines the last alone is
-- reached. Its operand is 108, `f7 00`, with the bias 1131, and -107, `20`, with the bias 107 of one subroutine. The body expected is
-- the Rust's, from its subset of such a font.
use Rattle.std.specs.Prelude.{◌≡◌, refl, List, [], ◌∷◌, replicate, Some}
use Rattle.std.proofs.Common.{arith}
use Rattle.octets.specs.Octets.{be, num_at, bytes_of}
use Rattle.type2_number.specs.Number.{keep24, rounded, number_at}
use Rattle.type2_number.specs.Encoding.{number_bytes, integer_bytes, fixed_bytes}
use Rattle.charstring.specs.Token.{tokens_of, tokens_from, token_at}
use Rattle.charstring.specs.Encode.{encode}
use Rattle.unfold.specs.Unfold.{Row, glyph, local, entered}
use Rattle.record.specs.Record.{lists, given_in, disagrees, two_lengths_lem}
use Rattle.prune.specs.Renumber.{renumber, renumber_charstring}
use Rattle.cff.specs.Font.{standard, Program}
use Rattle.bits.specs.Bits.{count_below}
use Rattle.subset.specs.Pruned.{reached, local_set, calls_in, renumbered_body}
use Rattle.subset.specs.ReachedLaws.{numbers_below, lists-past, count_past}

-- a program with so many
abbrev many_locals : Program
many_locals =
    record {
      top = [];
      strings = [];
      globals = [];
      charstrings = (0x0e ∷ []) ∷ (0xf7 ∷ 0x00 ∷ 0x0a ∷ 0x0e ∷ []) ∷ [];
      ids = 0 ∷ 1 ∷ [];
      privates = (record { entries = []; locals = replicate 1240 (0x0b ∷ []) }) ∷ [];
      fds = 0 ∷ 0 ∷ [];
      dicts = [];
      coding = standard;
    }

-- the record
abbrev reach_rows : List Row
reach_rows = entered (local 0 1239) ∷ []

-- numbers below 1240 alone are listed, of them 1239
few-reached : reached (local_set reach_rows 0) ≡ count_below (local_set reach_rows 0) 1240
unfolding numbers_below
few-reached = count_past (local_set reach_rows 0) 1240 65536 (λ k h. lists-past 1240 reach_rows (entered (local 0 k)) refl h) (omega arith)

below_1240 : count_below (local_set reach_rows 0) 1240 ≡ 1
unfolding count_below lists
below_1240 = refl

below_1239 : count_below (local_set reach_rows 0) 1239 ≡ 0
unfolding count_below lists
below_1239 = refl

-- the glyph that calls it
call_renumbered : renumbered_body reach_rows (calls_in many_locals reach_rows 0) (glyph 1) (0xf7 ∷ 0x00 ∷ 0x0a ∷ 0x0e ∷ []) ≡ Some (0x20 ∷ 0x0a ∷ 0x0e ∷ [])
unfolding
    renumbered_body lists given_in two_lengths_lem disagrees renumber_charstring renumber encode number_at keep24 rounded number_bytes integer_bytes fixed_bytes tokens_of
    tokens_from token_at bytes_of num_at be
call_renumbered = simp (few-reached, below_1240, below_1239)
