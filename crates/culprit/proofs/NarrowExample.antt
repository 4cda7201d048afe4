-- Worked examples of what can be the culprit, computed: a charstring with dead code leaves its own glyph; a subroutine with dead code that two kept
-- glyphs enter leaves none.
use Rattle.std.specs.Prelude.{ℕ, ◌≡◌, refl, false, List, [], ◌∷◌, None, Some}
use Rattle.std.proofs.Common.{subst, arith}
use Rattle.octets.specs.Octets.{be, num_at, bytes_of}
use Rattle.octets.specs.ListLaws.{zeros-at}
use Rattle.type2_number.specs.Number as t2
use Rattle.charstring.specs.Token as tok
use Rattle.unfold.specs.Unfold.{Row, glyph, local, entered, masked, leave, but, target_of, operator_at, step_at, walk, run_body, unfold_glyph}
use Rattle.prune.specs.Bodies.{All, empty, one}
use Rattle.prune.specs.Renumber.{renumber, renumber_charstring}
use Rattle.record.specs.Record.{rows_from, rows_of, lists, given_in, disagrees, two_lengths_lem}
use Rattle.cff.specs.Font.{standard, Program, empty_private}
use Rattle.subset.specs.Kept.{is_in, those}
use Rattle.subset.specs.Pruned.{renumbered_body}
use Rattle.row_window.specs.Window.{placed, gathered}
use Rattle.traced.specs.Traced.{met_all, tens_bytes, record_of}
use Rattle.traced.specs.Has.{Has, here}
use Rattle.traced.specs.HasLaws.{all-at}
use Rattle.traced.specs.RowLaws.{RowFits}
use Rattle.traced.proofs.RowLaws.{record-from}
use Rattle.traced.specs.Theorem.{kept_rows}
use Rattle.culprit.specs.Culprit.{is_culprit}
use Rattle.culprit.specs.NarrowLaws.{body_at}
use Rattle.culprit.proofs.NarrowLaws.{Runs, FdsThere, one_culprit, charstring_fails}

abbrev name : List ℕ
name = 0x4e ∷ []

-- ---- a charstring: glyph 2 calls, behind its endchar, a subroutine that is not there

abbrev dead : Program
dead =
    record {
      top = [];
      strings = [];
      globals = [];
      charstrings = (0x0e ∷ []) ∷ (0x0e ∷ []) ∷ (0x0e ∷ 0x8b ∷ 0x0a ∷ []) ∷ [];
      ids = 0 ∷ 1 ∷ 2 ∷ [];
      privates = empty_private ∷ [];
      fds = 0 ∷ 0 ∷ 0 ∷ [];
      dicts = [];
      coding = standard;
    }

dead_fds : FdsThere dead
dead_fds = record { any = omega arith; fds = λ x h. omega (arith, zeros-at 3 x) }

dead-rows : kept_rows dead (1 ∷ 2 ∷ []) ≡ Some []
unfolding met_all unfold_glyph run_body walk step_at operator_at leave but target_of t2.number_at is_in those
dead-rows = refl

dead-fails : body_at dead (rows_of (record_of [])) (glyph 2) ≡ None
unfolding
    record_of tens_bytes gathered rows_of rows_from renumbered_body two_lengths_lem given_in renumber_charstring renumber lists t2.number_at t2.rounded t2.keep24 tok.tokens_of tok.tokens_from tok.token_at
dead-fails = refl

-- so glyph 1 is no culprit
only_2 : is_culprit dead name (1 ∷ 2 ∷ []) 8192 0 1 ≡ false
unfolding is_in those
only_2 = charstring_fails dead dead_fds name (1 ∷ 2 ∷ []) 8192 0 [] dead-rows empty 2 refl dead-fails 1 (λ e. omega (arith, e))

-- ---- a subroutine: local 0 calls, behind its return, one that is not there; glyphs 1 and 2 enter it

abbrev shared : Program
shared =
    record {
      top = [];
      strings = [];
      globals = [];
      charstrings = (0x0e ∷ []) ∷ (0x20 ∷ 0x0a ∷ 0x0e ∷ []) ∷ (0x20 ∷ 0x0a ∷ 0x0e ∷ []) ∷ [];
      ids = 0 ∷ 1 ∷ 2 ∷ [];
      privates = record { entries = []; locals = (0x0b ∷ 0x8b ∷ 0x0a ∷ []) ∷ [] } ∷ [];
      fds = 0 ∷ 0 ∷ 0 ∷ [];
      dicts = [];
      coding = standard;
    }

shared_fds : FdsThere shared
shared_fds = record { any = omega arith; fds = λ x h. omega (arith, zeros-at 3 x) }

abbrev met : List Row
met = entered (local 0 0) ∷ entered (local 0 0) ∷ []

shared-rows : kept_rows shared (1 ∷ 2 ∷ []) ≡ Some met
unfolding met_all unfold_glyph run_body walk step_at operator_at leave but target_of t2.number_at t2.rounded t2.keep24 is_in those
shared-rows = refl

met-fits : All RowFits met
met-fits =
    let fits : RowFits (entered (local 0 0)) = record { kind = omega arith; fd = omega arith; number = omega arith; offset = omega arith; len = omega arith } in
    one fits (one fits empty)

shared-fails : body_at shared (rows_of (record_of met)) (local 0 0) ≡ None
unfolding
    record_of tens_bytes gathered placed bytes_of be num_at rows_of rows_from renumbered_body two_lengths_lem disagrees given_in renumber_charstring renumber lists t2.number_at t2.rounded t2.keep24 tok.tokens_of
    tok.tokens_from tok.token_at
shared-fails = refl

no_masks : (o l : ℕ) → Has Row (masked (local 0 0) o l) (rows_of (record_of met)) → ⊥
no_masks o l h = by met (record-from met met-fits _ h) refl
  where
    by : (rows : List Row) → Has Row (masked (local 0 0) o l) rows → rows ≡ met → ⊥
    by rows i e = apart (all-at (λ r. r.kind ≡ 0) _ met (one refl (one refl empty)) (subst (Has Row (masked (local 0 0) o l)) e i))
      where
        apart : ◌≡◌ {A = ℕ} 3 0 → ⊥
        apart z = omega arith

-- each of the two enters it
runs_1 : Runs shared (rows_of (record_of met)) 1 (local 0 0)
unfolding unfold_glyph run_body walk step_at operator_at leave but target_of t2.number_at t2.rounded t2.keep24
runs_1 = record { enters = (refl, omega arith, record { tokens = _; met = _; plainly = refl; has = here refl }); masks = λ o l h. absurd (no_masks o l h) }

runs_2 : Runs shared (rows_of (record_of met)) 2 (local 0 0)
unfolding unfold_glyph run_body walk step_at operator_at leave but target_of t2.number_at t2.rounded t2.keep24
runs_2 = record { enters = (refl, omega arith, record { tokens = _; met = _; plainly = refl; has = here refl }); masks = λ o l h. absurd (no_masks o l h) }

-- so neither is a culprit
not_2 : is_culprit shared name (1 ∷ 2 ∷ []) 8192 10 2 ≡ false
unfolding is_in those
not_2 = one_culprit shared shared_fds name (1 ∷ 2 ∷ []) 8192 10 met shared-rows met-fits (local 0 0) shared-fails 1 refl runs_1 2 (λ e. omega (arith, e))

not_1 : is_culprit shared name (1 ∷ 2 ∷ []) 8192 10 1 ≡ false
unfolding is_in those
not_1 = one_culprit shared shared_fds name (1 ∷ 2 ∷ []) 8192 10 met shared-rows met-fits (local 0 0) shared-fails 2 refl runs_2 1 (λ e. omega (arith, e))
