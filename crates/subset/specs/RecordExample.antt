-- What a record makes of the renumbering (document 01, 'Corners in write.rs' and 'Reach record'), on `cid_program`. The Rust's renumber_cid
-- gives the same for each of these records.
use Rattle.std.specs.Prelude.{◌≡◌, refl, List, [], ◌∷◌, None, Some}
use Rattle.octets.specs.Octets.{be, num_at, bytes_of}
use Rattle.type2_number.specs.Number.{keep24, rounded, number_at}
use Rattle.type2_number.specs.Encoding.{number_bytes, integer_bytes, fixed_bytes}
use Rattle.charstring.specs.Token.{tokens_of, tokens_from, token_at}
use Rattle.charstring.specs.Encode.{encode}
use Rattle.unfold.specs.Unfold.{Row, glyph, local, global, entered, masked}
use Rattle.record.specs.Record.{lists, given_in, disagrees, two_lengths_lem}
use Rattle.prune.specs.Renumber.{renumber, renumber_charstring}
use Rattle.subset.specs.Kept.{those}
use Rattle.subset.specs.Pruned.{calls_across, each, renumbered_body, renumbered_subrs, stubbed_from, mapped, renumbered, stubbed, pruned}
use Rattle.subset.specs.CidFont.{cid_program, reach_rows}
use Rattle.subset.specs.BodiesExample.{used, order, few-reached, below_two, below_one, renumbered_bodies, unrenumbered_bodies}
use Rattle.subset.specs.declared.Way.TheVariants.{Renumbered, Stubbed}

-- an FD without kept glyphs, a glyph that is not kept, a subroutine that is not reached
abbrev others : List Row
others = entered (local 1 7) ∷ masked (glyph 2) 0 1 ∷ masked (glyph 2) 0 2 ∷ masked (global 0) 0 1 ∷ masked (global 0) 0 2 ∷ reach_rows

passed_over : pruned cid_program others used order 1 ≡ record { way = Renumbered; bodies = renumbered_bodies }
unfolding
    pruned renumbered renumbered_subrs renumbered_body each those lists given_in two_lengths_lem disagrees renumber_charstring renumber encode number_at keep24 rounded
    number_bytes integer_bytes fixed_bytes tokens_of tokens_from token_at bytes_of num_at be
passed_over = simp (few-reached, below_two, below_one)

-- two lengths at one offset of a reached subroutine
two_lengths : pruned cid_program (masked (global 1) 0 2 ∷ reach_rows) used order 1 ≡ record { way = Stubbed; bodies = unrenumbered_bodies 0x0b }
unfolding pruned renumbered renumbered_subrs renumbered_body each those lists two_lengths_lem disagrees stubbed stubbed_from mapped
two_lengths = simp (few-reached, below_two)

-- a global subroutine that calls a local one: with two FDs in use it fails, with one it is renumbered
local_from_global : renumbered_body reach_rows (calls_across cid_program reach_rows used) (global 1) (0x21 ∷ 0x0a ∷ 0x0b ∷ []) ≡ None
unfolding
    renumbered_body lists given_in two_lengths_lem disagrees renumber_charstring renumber encode number_at keep24 rounded tokens_of tokens_from token_at bytes_of num_at be
local_from_global = refl

local_of-one-fd : renumbered_body reach_rows (calls_across cid_program reach_rows (0 ∷ [])) (global 1) (0x21 ∷ 0x0a ∷ 0x0b ∷ []) ≡ Some (0x20 ∷ 0x0a ∷ 0x0b ∷ [])
unfolding
    renumbered_body lists given_in two_lengths_lem disagrees renumber_charstring renumber encode number_at keep24 rounded number_bytes integer_bytes fixed_bytes tokens_of
    tokens_from token_at bytes_of num_at be
local_of-one-fd = simp (few-reached, below_two, below_one)
