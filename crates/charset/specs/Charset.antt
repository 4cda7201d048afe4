-- A charset (TN5176, section 13): the string id of each glyph, in a CID font its CID. Glyph 0 has id 0 and no entry. The others stand in
-- ranges: the first id (2 bytes) and nLeft, how many follow it, of 1 byte in format 1 and of 2 in format 2. Format 0 lists ids alone:
-- a range has one id and an nLeft of no bytes. So the bytes of nLeft are the format's number.
use Rattle.std.specs.Prelude.{ℕ, zero, suc, ◌+◌, List, [], ◌∷◌, length, take, drop, ltb, Result, Ok, Err}
use Rattle.octets.specs.Pick.{pick}
use Rattle.octets.specs.Octets.{be}
use Rattle.charset.specs.Listed.{onward, list_of}
use Rattle.refusal.specs.declared.Refusal.{Refusal}
use Rattle.refusal.specs.declared.Refusal.TheVariants.{Truncated, Malformed}

-- the ids of k glyphs: left of them are of the range under way, whose next id is id, and the others of the ranges at the front of bs. An id
-- above 65535 that a glyph reaches is malformed
unfoldable pub ids_from : ℕ → ℕ → ℕ → ℕ → List ℕ → Result (List ℕ) Refusal
ids_from width zero id left bs = Ok []
ids_from width (suc k) id (suc left) bs = pick (ltb 65535 id) (Err Malformed) (onward id (ids_from width k (id + 1) left bs))
ids_from width (suc k) id zero bs =
    pick (ltb (length bs) (2 + width)) (Err Truncated)
    (onward (be 0 (take 2 bs)) (ids_from width k (be 0 (take 2 bs) + 1) (be 0 (take width (drop 2 bs))) (drop (2 + width) bs)))

-- the ids of n glyphs by the table at the front of bs; glyph 0 is a range of its own, under way where the table begins
abbrev pub ids_in : ℕ → List ℕ → Result (List ℕ) Refusal
ids_in n [] = Err Truncated
ids_in n (format ∷ bs) = pick (ltb 2 format) (Err Malformed) (ids_from format n 0 1 bs)

-- the ids of n glyphs by the table at a place
unfoldable pub charset_at : List ℕ → ℕ → ℕ → Result (List ℕ) Refusal
charset_at b at n = ids_in n (drop at b)

-- the predefined charset ISOAdobe, as the Rust has it: each glyph's own number
abbrev pub iso_adobe : ℕ → List ℕ
iso_adobe n = list_of (λ g. g) 0 n
