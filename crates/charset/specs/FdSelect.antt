-- FDSelect (TN5176, section 19): the font dictionary (FD) of each glyph. Format 0 is a byte for each. Format 3 is nRanges (2 bytes), the first
-- glyph of the first range (2), and for each range its FD (1) and the first glyph behind it (2), where the next range starts. As in the Rust
-- a glyph of no range has FD 0, ranges may be empty or run past the last glyph, and one that ends before it starts is malformed.
use Rattle.std.specs.Prelude.{ℕ, zero, suc, ◌+◌, List, [], ◌∷◌, length, take, drop, get_or, ltb, eqb, Result, Ok, Err}
use Rattle.octets.specs.Pick.{pick}
use Rattle.octets.specs.Octets.{be}
use Rattle.charset.specs.Listed.{list_of}
use Rattle.refusal.specs.declared.Refusal.{Refusal}
use Rattle.refusal.specs.declared.Refusal.TheVariants.{Truncated, Malformed}

-- the FD of the range whose entry is at the front of bs
abbrev pub range_fd : List ℕ → ℕ
range_fd bs = get_or bs 0 0

-- where that range ends, which starts at glyph first: the number of `wide` bytes behind the FD. An entry of format 0 is an FD alone, and its
-- range is one glyph
unfoldable pub range_end : ℕ → ℕ → List ℕ → ℕ
range_end wide first bs = pick (eqb wide 0) (first + 1) (be 0 (take wide (drop 1 bs)))

-- the FD of glyph g by the count ranges at the front of bs, the first of which starts at glyph first
unfoldable pub fd_in : ℕ → ℕ → ℕ → List ℕ → ℕ → ℕ
fd_in wide zero first bs g = 0
fd_in wide (suc count) first bs g =
    pick (ltb g first) 0 (pick (ltb g (range_end wide first bs)) (range_fd bs) (fd_in wide count (range_end wide first bs) (drop (1 + wide) bs) g))

-- the refusal of these ranges, if they are refused: an entry is missing, or a range ends before it starts
unfoldable pub ranges_refusal : ℕ → ℕ → ℕ → List ℕ → Result Unit Refusal
ranges_refusal wide zero first bs = Ok tt
ranges_refusal wide (suc count) first bs =
    pick (ltb (length bs) (1 + wide)) (Err Truncated)
    (pick (ltb (range_end wide first bs) first) (Err Malformed) (ranges_refusal wide count (range_end wide first bs) (drop (1 + wide) bs)))

-- a list, if it is not refused
abbrev pub judged : Result Unit Refusal → List ℕ → Result (List ℕ) Refusal
judged (Err e) l = Err e
judged (Ok u) l = Ok l

-- the FDs of n glyphs by the ranges of format 3
unfoldable pub range_fds : ℕ → List ℕ → Result (List ℕ) Refusal
range_fds n bs =
    pick (ltb (length bs) 4) (Err Truncated)
    (judged (ranges_refusal 2 (be 0 (take 2 bs)) (be 0 (take 2 (drop 2 bs))) (drop 4 bs))
    (list_of (fd_in 2 (be 0 (take 2 bs)) (be 0 (take 2 (drop 2 bs))) (drop 4 bs)) 0 n))

-- the FDs of n glyphs by the table at the front of bs
abbrev pub fds_in : ℕ → List ℕ → Result (List ℕ) Refusal
fds_in n [] = Err Truncated
fds_in n (format ∷ bs) =
    pick (eqb format 0) (pick (ltb (length bs) n) (Err Truncated) (Ok (take n bs))) (pick (eqb format 3) (range_fds n bs) (Err Malformed))

-- the FDs of n glyphs by the table at a place
unfoldable pub fd_select_at : List ℕ → ℕ → ℕ → Result (List ℕ) Refusal
fd_select_at b at n = fds_in n (drop at b)

-- without an FDSelect
abbrev pub no_fds : ℕ → List ℕ
no_fds n = list_of (λ g. 0) 0 n
