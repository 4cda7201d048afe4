-- The bodies of a subset in the three ways (document 01, 'Corners in write.rs'): glyphs 0, 1, 3 and 4 of `cid_program`, by CID. The bodies
-- expected are those of the Rust's prune_cid.
use Rattle.std.specs.Prelude.{ℕ, ◌≡◌, refl, List, [], ◌∷◌}
use Rattle.std.proofs.Common.{arith}
use Rattle.octets.specs.Octets.{be, num_at, bytes_of}
use Rattle.type2_number.specs.Number.{keep24, rounded, number_at}
use Rattle.type2_number.specs.Encoding.{number_bytes, integer_bytes, fixed_bytes}
use Rattle.charstring.specs.Token.{tokens_of, tokens_from, token_at}
use Rattle.charstring.specs.Encode.{encode}
use Rattle.unfold.specs.Unfold.{global, entered}
use Rattle.record.specs.Record.{lists, given_in, disagrees, two_lengths_lem}
use Rattle.prune.specs.Renumber.{renumber, renumber_charstring}
use Rattle.subset.specs.Kept.{those}
use Rattle.bits.specs.Bits.{count_below}
use Rattle.subset.specs.Pruned.{Bodies, reached, global_set, local_set, each, renumbered_body, renumbered_subrs, stubbed_from, mapped, renumbered, stubbed, copied, pruned}
use Rattle.subset.specs.ReachedLaws.{numbers_below, lists-past, count_past}
use Rattle.subset.specs.CidFont.{cid_program, reach_rows, wrong_rows}
use Rattle.subset.specs.declared.Way.TheVariants.{Renumbered, Stubbed, Copied}

-- the FDs in use
abbrev pub used : List ℕ
used = 0 ∷ 2 ∷ []

-- the kept glyphs by CID: 0, 1, 3, 5
abbrev pub order : List ℕ
order = 0 ∷ 4 ∷ 3 ∷ 1 ∷ []

-- ---- counts of what the records list

-- numbers below 2 alone are listed, and of them 1
pub few-reached : reached (global_set reach_rows) ≡ count_below (global_set reach_rows) 2
unfolding numbers_below
few-reached = count_past (global_set reach_rows) 2 65536 (λ k h. lists-past 2 reach_rows (entered (global k)) refl h) (omega arith)

pub below_two : count_below (global_set reach_rows) 2 ≡ 1
unfolding count_below lists
below_two = refl

pub below_one : count_below (global_set reach_rows) 1 ≡ 0
unfolding count_below lists
below_one = refl

-- of the globals and of the locals of each FD number 1 alone is listed: the three sets compute to the same
same_global : global_set reach_rows ≡ local_set reach_rows 0
unfolding lists
same_global = refl

same_local : local_set reach_rows 0 ≡ local_set reach_rows 2
unfolding lists
same_local = refl

-- with the wrong row numbers below 3 alone, of them 1 and 2
few_wrong : reached (global_set wrong_rows) ≡ count_below (global_set wrong_rows) 3
unfolding numbers_below
few_wrong = count_past (global_set wrong_rows) 3 65536 (λ k h. lists-past 3 wrong_rows (entered (global k)) refl h) (omega arith)

wrong_three : count_below (global_set wrong_rows) 3 ≡ 2
unfolding count_below lists
wrong_three = refl

wrong_two : count_below (global_set wrong_rows) 2 ≡ 1
unfolding count_below lists
wrong_two = refl

-- ---- the three ways

-- each reached subroutine is the first of its INDEX, and is called by `20`; the masks keep their byte
abbrev pub renumbered_bodies : Bodies
renumbered_bodies =
    record {
      globals = (0x13 ∷ 0xff ∷ 0x0b ∷ []) ∷ [];
      locals = ((0x20 ∷ 0x1d ∷ 0x0b ∷ []) ∷ []) ∷ ((0x8d ∷ 0x16 ∷ 0x13 ∷ 0xff ∷ 0x0b ∷ []) ∷ []) ∷ [];
      charstrings =
          (0x0e ∷ []) ∷ (0x8d ∷ 0x0e ∷ []) ∷ (0x8c ∷ 0x8c ∷ 0x01 ∷ 0x20 ∷ 0x0a ∷ 0x0e ∷ []) ∷ (0x8c ∷ 0x8c ∷ 0x01 ∷ 0x20 ∷ 0x0a ∷ 0x0e ∷ []) ∷ [];
    }

-- the numbers stay, and each unreached subroutine is one byte
abbrev pub unrenumbered_bodies : ℕ → Bodies
unrenumbered_bodies unreached =
    record {
      globals = (unreached ∷ []) ∷ (0x13 ∷ 0xff ∷ 0x0b ∷ []) ∷ [];
      locals = ((unreached ∷ []) ∷ (0x21 ∷ 0x1d ∷ 0x0b ∷ []) ∷ []) ∷ ((unreached ∷ []) ∷ (0x8d ∷ 0x16 ∷ 0x13 ∷ 0xff ∷ 0x0b ∷ []) ∷ []) ∷ [];
      charstrings =
          (0x0e ∷ []) ∷ (0x8d ∷ 0x0e ∷ []) ∷ (0x8c ∷ 0x8c ∷ 0x01 ∷ 0x21 ∷ 0x0a ∷ 0x0e ∷ []) ∷ (0x8c ∷ 0x8c ∷ 0x01 ∷ 0x21 ∷ 0x0a ∷ 0x0e ∷ []) ∷ [];
    }

-- way 0
pub bodies-renumbered : pruned cid_program reach_rows used order 1 ≡ record { way = Renumbered; bodies = renumbered_bodies }
unfolding
    pruned renumbered renumbered_subrs renumbered_body each those lists given_in two_lengths_lem disagrees renumber_charstring renumber encode number_at keep24 rounded
    number_bytes integer_bytes fixed_bytes tokens_of tokens_from token_at bytes_of num_at be
bodies-renumbered = simp (few-reached, below_two, below_one)

-- way 1, a return for each unreached subroutine
pub bodies-stubbed : pruned cid_program wrong_rows used order 1 ≡ record { way = Stubbed; bodies = unrenumbered_bodies 0x0b }
unfolding pruned renumbered renumbered_subrs stubbed stubbed_from mapped lists
bodies-stubbed = simp (few_wrong, wrong_three, wrong_two)

-- way 2, each as it was
pub bodies-copied : pruned cid_program [] used order 0 ≡ record { way = Copied; bodies = unrenumbered_bodies 0x0e }
unfolding pruned copied mapped
bodies-copied = refl
