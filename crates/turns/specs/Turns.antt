-- What a token of a body brings (document 01, 'Plain glyphs'; crates/unfold), as the code goes: by the counts of what has run, without the
-- tokens that it leaves and the rows that it meets. The number just before a place is told by where it starts.
use Rattle.std.specs.Prelude.{ℕ, ◌+◌, ◌-◌, ◌/◌, ◌≤◌, Bool, List, ltb, eqb, length, get_or, None, Option, Some}
use Rattle.octets.specs.Pick.{pick}
use Rattle.type2_number.specs.Number.{Read, cut, operator, number, number_at}
use Rattle.charstring.specs.Bias.{last_at}
use Rattle.charstring.specs.Token.{is_mask}
use Rattle.unfold.specs.Unfold.{target_of, is_stem, is_path}
use Rattle.turns.specs.declared.Counts.{Counts}
use Rattle.turns.specs.declared.Turn.{Turn}
use Rattle.turns.specs.declared.Turn.TheVariants.{Breaks, Returns, Ends, Goes, Masks, Calls}
use Rattle.turns.specs.declared.Kind.{Kind}
use Rattle.turns.specs.declared.Kind.TheVariants.{Local, Global}

-- what holds of the counts of a run: at most 48 operands and 96 stems
pub record Few (x : Counts) : Type 0 where
  pub operands : x.args ≤ 48
  pub hints : x.stems ≤ 96

-- of a thing for local and one for global subroutines, the one of the kind
abbrev pub of_kind : {A : Type 0} → Kind → A → A → A
of_kind Local local global = local
of_kind Global local global = global

-- one token more, its operands cleared or one more; at most 65,536 tokens and calls
abbrev pub leaves : ℕ → ℕ → ℕ → (Counts → Turn) → Turn
leaves args stems spent go = pick (ltb spent 65536) (go (record { args = args; stems = stems; spent = spent + 1 })) Breaks

abbrev pub goes_on : ℕ → ℕ → ℕ → ℕ → ℕ → Turn
goes_on at prev args stems spent = leaves args stems spent (Goes at prev)

-- a call: its operand is taken back, and what it had spent is the call's
abbrev pub call_turn : Kind → Counts → Option ℕ → Turn
call_turn kind x None = Breaks
call_turn kind x (Some i) = Calls kind i (record { args = x.args - 1; stems = x.stems; spent = x.spent })

-- an escape: 34 to 37
abbrev pub escape_turn : List ℕ → ℕ → Counts → Turn
escape_turn s at x =
    let e = get_or s (at + 1) 0 in
    pick (ltb (length s - at) 2) Breaks
    (pick (ltb e 34) Breaks (pick (ltb 37 e) Breaks (goes_on (at + 2) (at + 2) 0 x.stems x.spent)))

-- a mask with n stems, its own included: one bit each, rounded up to bytes, which must be there
abbrev pub mask_turn : List ℕ → ℕ → ℕ → ℕ → Turn
mask_turn s at n spent = pick (ltb 96 n) Breaks (pick (ltb (length s - (at + 1)) ((n + 7) / 8)) Breaks (leaves 0 n spent (Masks ((n + 7) / 8))))

-- a stem operator with n stems then: at most 96
abbrev pub stem_turn : ℕ → ℕ → ℕ → Turn
stem_turn at n spent = pick (ltb 96 n) Breaks (goes_on (at + 1) (at + 1) 0 n spent)

-- an operator that clears the operands, endchar aside
unfoldable pub clearing_turn_lem : List ℕ → ℕ → Counts → ℕ → Turn
clearing_turn_lem s at x b =
    pick (eqb b 12) (escape_turn s at x)
    (pick (is_mask b) (mask_turn s at (x.stems + x.args / 2) x.spent)
    (pick (is_stem b) (stem_turn at (x.stems + x.args / 2) x.spent)
    (pick (is_path b) (goes_on (at + 1) (at + 1) 0 x.stems x.spent) Breaks)))

-- the operator b at a place, by how many local and global subroutines there are, and whether the body is a glyph's own
unfoldable pub operator_turn_lem : ℕ → ℕ → Bool → List ℕ → ℕ → ℕ → Counts → ℕ → Turn
operator_turn_lem locals globals own s at prev x b =
    pick (eqb b 10) (call_turn Local x (target_of locals (last_at s prev at)))
    (pick (eqb b 29) (call_turn Global x (target_of globals (last_at s prev at)))
    (pick (eqb b 11) (pick own Breaks (Returns x))
    (pick (eqb b 14) (pick (ltb 1 x.args) Breaks (leaves 0 x.stems x.spent (λ y. Ends))) (clearing_turn_lem s at x b))))

-- what stands at a place: a number waits, at most 48 of them
unfoldable pub turn_by : ℕ → ℕ → Bool → List ℕ → ℕ → ℕ → Counts → Read → Turn
turn_by locals globals own s at prev x cut = Breaks
turn_by locals globals own s at prev x operator = operator_turn_lem locals globals own s at prev x (get_or s at 0)
turn_by locals globals own s at prev x (number z n) = pick (ltb x.args 48) (goes_on n at (x.args + 1) x.stems x.spent) Breaks

abbrev pub turn_at_lem : ℕ → ℕ → Bool → List ℕ → ℕ → ℕ → Counts → Turn
turn_at_lem locals globals own s at prev x = turn_by locals globals own s at prev x (number_at s at)
