-- Worked examples, computed.
use Rattle.std.specs.Prelude.{ℕ, ◌≡◌, refl, List, [], ◌∷◌, ◌++◌, None, Some}
use Rattle.octets.specs.Octets.{bytes_of}
use Rattle.cff.specs.Font.{Program}
use Rattle.subset.specs.Texts.{name_of, new_id}
use Rattle.subset.specs.Codes.{pairs, pair_bytes, encoding_bytes, coded_bytes}
use Rattle.encoding.specs.Encoded.{pairs_in, coded_in, held_after}
use Rattle.encoding.specs.declared.Encoding.TheVariants.{Absent, Expert}

-- codes 0 and 3 have pairs: glyph 0 is .notdef, whose id is 0; code 1 has none
some_pairs : pairs_in (Some 0 ∷ None ∷ None ∷ Some 391 ∷ []) 4 0 ≡ record { code = 0; id = 0 } ∷ record { code = 3; id = 391 } ∷ []
unfolding pairs_in
some_pairs = refl

-- as they are written
some_bytes : encoding_bytes (pairs_in (Some 0 ∷ None ∷ None ∷ Some 391 ∷ []) 4 0) ≡ 0x80 ∷ 0x00 ∷ 0x02 ∷ 0x00 ∷ 0x00 ∷ 0x00 ∷ 0x03 ∷ 0x01 ∷ 0x87 ∷ []
unfolding pairs_in pair_bytes bytes_of
some_bytes = refl

-- a table without pairs is written all the same; the predefined ones are not
no_pairs : coded_bytes (pairs (pairs_in [] 4 0)) ≡ 0x80 ∷ 0x00 ∷ 0x00 ∷ []
unfolding pairs_in pair_bytes
no_pairs = refl

no_bytes : coded_bytes (coded_in Absent []) ++ coded_bytes (coded_in Expert []) ≡ []
no_bytes = refl

-- glyphs 0, 2 and 5 are kept: a code of glyph 2 gets the new id of its name, and one of glyph 3, or of none, stays without
kept-code : (p : Program) (own : List (List ℕ)) → held_after p own (0 ∷ 2 ∷ 5 ∷ []) (Some 2) None ≡ Some (new_id own (name_of p 2))
unfolding held_after
kept-code p own = refl

not_kept : (p : Program) (own : List (List ℕ)) → held_after p own (0 ∷ 2 ∷ 5 ∷ []) (Some 3) None ≡ None
unfolding held_after
not_kept p own = refl

no_glyph : (p : Program) (own : List (List ℕ)) → held_after p own (0 ∷ 2 ∷ 5 ∷ []) None None ≡ None
unfolding held_after
no_glyph p own = refl
