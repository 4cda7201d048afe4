-- Document 01, 'Corners in write.rs', by the work words: three local subroutines, the third reached.
use Rattle.std.specs.Prelude.{ℕ, ◌≡◌, refl, List, [], ◌∷◌}
use Rattle.charstring.specs.Token as tok
use Rattle.charstring.specs.Encode.{encode}
use Rattle.type2_number.specs.Number.{keep24, rounded}
use Rattle.type2_number.specs.Number as t2
use Rattle.type2_number.specs.Encoding as t2e
use Rattle.unfold.specs.Unfold.{glyph, local}
use Rattle.prune.specs.Renumber.{renumber, renumber_charstring}
use Rattle.record.specs.Record.{given_in, two_lengths_lem, disagrees}
use Rattle.subset.specs.Pruned.{renumbered_body, stubbed_from}
use Rattle.bits.specs.Bits.{count_below}
use Rattle.renumber.specs.Ranks.{calls_by}
use Rattle.renumber.specs.declared.Ranks.{Ranks}
use Rattle.bodies.specs.Ways.{new_body, new_subrs, reached_in}
use Rattle.subset.specs.declared.Way.TheVariants.{Renumbered, Stubbed}

-- the third has its bit, the others have none; no globals
abbrev words : List ℕ
words = 4 ∷ []

abbrev locals : Ranks
locals = record { at = 0; count = 3; reached = 1; low = 0x0001000100010000; high = 0x0001000100010001 }

abbrev globals : Ranks
globals = record { at = 1; count = 0; reached = 0; low = 0; high = 0 }

-- its call is renumbered
the_charstring : new_body Renumbered [] (calls_by words locals globals) (glyph 1) (0x22 ∷ 0x0a ∷ 0x0e ∷ []) ≡ 0x20 ∷ 0x0a ∷ 0x0e ∷ []
unfolding
    count_below renumbered_body renumber_charstring renumber given_in two_lengths_lem disagrees encode keep24 rounded t2.number_at t2e.number_bytes t2e.integer_bytes t2e.fixed_bytes tok.tokens_of
    tok.tokens_from tok.token_at
the_charstring = refl

-- stubbed, it stays as it is
the_charstring_stubbed : new_body Stubbed [] (calls_by words locals globals) (glyph 1) (0x22 ∷ 0x0a ∷ 0x0e ∷ []) ≡ 0x22 ∷ 0x0a ∷ 0x0e ∷ []
the_charstring_stubbed = refl

-- each unreached subroutine is a return
the_stubs : new_subrs Stubbed [] (reached_in words locals) (calls_by words locals globals) (local 0) ((0x8b ∷ 0x0b ∷ []) ∷ [] ∷ (0x0e ∷ []) ∷ [])
    ≡ (0x0b ∷ []) ∷ (0x0b ∷ []) ∷ (0x0e ∷ []) ∷ []
unfolding stubbed_from
the_stubs = refl
