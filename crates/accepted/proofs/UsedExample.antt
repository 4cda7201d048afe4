-- The theorems used (document 02, Wish 6): each premise is one that holds of a font, a keep list and a record.
use Rattle.std.specs.Prelude.{ℕ, ◌≡◌, refl, true, false, List, [], ◌∷◌, pos, Ok, Err}
use Rattle.std.proofs.Common.{inl, inr, arith}
use Rattle.octets.specs.Octets.{Octets, be, num_at}
use Rattle.octets.specs.Lists.{all_below}
use Rattle.type2_number.specs.Number as t2
use Rattle.unfold.specs.Unfold.{Tok, num, op, mask, Row, plain, local, global, entered, masked, leave, but, target_of, operator_at, step_at, walk, run_body, unfold_glyph}
use Rattle.record.specs.Record.{rows_from, rows_of, lists}
use Rattle.cff.specs.Font.{Program, read_font}
use Rattle.subset.specs.Kept.{is_in}
use Rattle.subset.specs.Cut.{subset, cut_of}
use Rattle.subset.specs.CidFont.{cid_font, cid_program, reads, reach}
use Rattle.subset.proofs.CidExample.{renumbered_bytes, renumbers}
use Rattle.subset.proofs.NameExample as named
use Rattle.faithful.specs.Faithful.{unfolded, IsKept, Holds}
use Rattle.traced.specs.Has.{here, there}
use Rattle.traced.proofs.HeldExample as traced
use Rattle.refusal.specs.declared.Refusal.TheVariants.{NotAccepted}
use Rattle.accepted.specs.Accepted.{check_of}
use Rattle.accepted.proofs.Theorem.{InForm, Accepted, answer-reads, accepted-only, accepted_whenever, refused_only, refused_whenever, accepted-held, trace_accepted, second-length_stubs}
use Rattle.accepted.proofs.Examples.{keep, accepts, twice, twice-accepted, drops}
use Rattle.subset.specs.declared.Way.{Way}
use Rattle.subset.specs.declared.Way.TheVariants.{Renumbered, Stubbed}

-- ---- a CID-keyed font and the record of the Rust's trace

bytes : Octets cid_font
unfolding all_below
bytes = traced.octets_of cid_font refl

row-bytes : Octets reach
unfolding all_below
row-bytes = traced.octets_of reach refl

-- glyph 3 is kept
kept : IsKept cid_program keep 3
unfolding is_in
kept = record { there = omega arith; asked = inr refl }

-- the three conditions hold of it, and from them it is accepted
conditions : InForm cid_program keep reach × Accepted cid_program keep reach
conditions = accepted-only cid_font keep reach bytes cid_program reads accepts

back : check_of cid_font keep reach ≡ Ok tt
back = accepted_whenever cid_font keep reach bytes cid_program reads conditions.0 conditions.1

-- the subset cut with it holds every kept glyph: glyph 3 is plain, and found
held : (ts : List Tok) × (met : List Row) × (unfolded cid_program 3 ≡ plain ts met) × Holds cid_program 3 ts renumbered_bytes
held = accepted-held cid_font keep reach bytes cid_program reads accepts row-bytes true false (0x41 ∷ []) 8192 32768 Renumbered renumbered_bytes renumbers 3 kept

-- where the record is accepted the font was read
read : (p : Program) × (read_font cid_font ≡ Ok p)
read = answer-reads cid_font keep reach (inl accepts)

-- ---- a row dropped

fails : Accepted cid_program keep [] → ⊥
fails = (refused_only cid_font keep [] bytes cid_program reads drops).1

fourteen : check_of cid_font keep [] ≡ Err NotAccepted
fourteen = refused_whenever cid_font keep [] bytes cid_program reads (refused_only cid_font keep [] bytes cid_program reads drops).0 fails

-- ---- what was traced

traced-accepted : check_of named.name_font traced.keep named.reach ≡ Ok tt
traced-accepted = trace_accepted named.name_font traced.keep named.reach traced.bytes named.name_program named.reads 20 traced.traces

-- ---- a second length

-- glyph 3 enters local subroutine 1 of its FD, which enters global subroutine 1, and meets the mask there
abbrev tokens : List Tok
tokens = num (pos 65536) ∷ num (pos 65536) ∷ op 1 ∷ mask 19 (0xff ∷ []) ∷ op 14 ∷ []

abbrev met : List Row
met = entered (local 0 1) ∷ entered (global 1) ∷ masked (global 1) 0 1 ∷ []

unfolds : unfolded cid_program 3 ≡ plain tokens met
unfolding unfold_glyph run_body walk step_at operator_at leave but target_of t2.number_at t2.rounded t2.keep24 num_at be
unfolds = refl

-- a subset call with the two lengths that is not refused answers with stubs
stubs : (words lent : ℕ) (way : Way) (bs : List ℕ) → cut_of true false cid_font (0x41 ∷ []) keep twice 1 words lent ≡ subset way bs → way ≡ Stubbed
unfolding lists rows_of rows_from num_at be
stubs words lent way bs c =
    second-length_stubs cid_font keep twice bytes cid_program reads twice-accepted 3 kept tokens met unfolds (global 1) 0 1 2 (there (there (here refl))) refl
    (λ e. omega (arith, e)) true false (0x41 ∷ []) words lent way bs c
