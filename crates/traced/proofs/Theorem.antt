-- What tracing promises (document 02, Wish 1), whatever the font and the keep list are: with flag 1 the record lists exactly what the kept glyphs
-- meet, in rising byte order without repeats; flag 0 stands exactly where a kept glyph is not plain; no subset call refuses a traced record; and a
-- subset cut by it holds every plain kept glyph (document 01's demand 3, with no word of a record).
use Rattle.std.specs.Prelude.{ℕ, ◌%◌, ◌<◌, ◌≡◌, refl, Bool, true, false, ◌⊎◌, ltb, length, get_or, None, Option, Some, Result, Ok, Err}
use Rattle.std.proofs.Common.{sym, ap, ◌∙◌, inl, inr, arith, eq-eqb}
use Rattle.std.proofs.Math.Path.{subst}
use mathlib.Core.List.{List, [], ◌∷◌, map}
use Rattle.std.proofs.Math.Logic.{⊎_elim}
use Rattle.octets.specs.Pick.{pick}
use Rattle.octets.specs.Octets.{Octets}
use Rattle.octets.specs.Lists.{all_below}
use Rattle.octets.specs.ListLaws.{below_at}
use Rattle.unfold.specs.Unfold.{Tok, Row, not_plain_lem, plain}
use Rattle.prune.specs.Bodies.{All}
use Rattle.prune.specs.StepLaws.{zero_one}
use Rattle.record.specs.Record.{rows_from, rows_of, row_fine_lem, rows_fine_lem, record_fine, lists}
use Rattle.dict.specs.Lookup.{cid_keyed}
use Rattle.cff.specs.Font.{Program, read_font}
use Rattle.cff.specs.Find.{work_size}
use Rattle.subset.specs.Kept.{is_in, keeps, kept_of, locals_of}
use Rattle.subset.specs.Cut.{refused as refusedCut, subset, all_found_lem, cut_read, cut_with, cut_of}
use Rattle.row_window.specs.Window.{Rising, none as noKeys}
use Rattle.faithful.specs.Faithful.{unfolded, IsKept, Recorded, Holds, Faithful}
use Rattle.faithful.specs.Laid.{GoodProgram}
use Rattle.faithful.specs.GoodLaws.{font-good}
use Rattle.faithful.specs.KeptLaws.{kept_is}
use Rattle.faithful.proofs.Theorem.{faithful}
use Rattle.traced.specs.Traced.{met_all, row_key, record_of, refused, traced, answered, trace_program, trace_read, trace_of}
use Rattle.traced.specs.Has.{Has, here, there}
use Rattle.traced.specs.HasLaws.{has_listed, listed_has, all-at, all_from}
use Rattle.traced.specs.RowLaws.{RowFits}
use Rattle.traced.proofs.RowLaws.{record_tens, record-has, record-from, record-rises, record_octets}
use Rattle.traced.specs.BodyLaws.{ShortBodies, font-short}
use Rattle.traced.proofs.RunLaws.{Proper, FdFits, rows_proper}
use Rattle.traced.proofs.EightLaws.{not_eight}
use Rattle.traced.proofs.MetLaws.{Meets, met-within, met-from, met-fails, in_kept, kept_same, below_as}
use Rattle.traced.specs.Theorem.{kept_rows}
use Rattle.refusal.specs.declared.Refusal.{Refusal}
use Rattle.refusal.specs.declared.Refusal.TheVariants.{NoSuchNumber, NotFound, BadRecord, Output}
use Rattle.subset.specs.declared.Way.{Way}

-- ---- a call that is not refused

-- flag 0 with nothing, where one is not plain
record Without (m : Option (List Row)) (flag : ℕ) (rec : List ℕ) : Type 0 where
  fails : m ≡ None
  zero_flag : flag ≡ 0
  empty : rec ≡ []

-- flag 1 and the record of the rows met
record Recording (m : Option (List Row)) (flag : ℕ) (rec : List ℕ) : Type 0 where
  rows : List Row
  met : m ≡ Some rows
  one-flag : flag ≡ 1
  is : rec ≡ record_of rows

abbrev Answered : Option (List Row) → ℕ → List ℕ → Type 0
Answered m flag rec = Without m flag rec ⊎ Recording m flag rec

was_answered : (p : Program) (keep : List ℕ) (room flag : ℕ) (rec : List ℕ) → trace_program p keep room ≡ traced flag rec → Answered (kept_rows p keep) flag rec
was_answered p keep room flag rec e = by-below (all_below (length p.charstrings) keep) e
  where
    by-room : (rows : List Row) → kept_rows p keep ≡ Some rows → (t : Bool) → pick t (refused Output) (traced 1 (record_of rows)) ≡ traced flag rec
        → Answered (kept_rows p keep) flag rec
    by-room rows a true g = absurd (zero_one cc)
    by-room rows a false g =
        let n : 1 ≡ flag = cc in
        let l : record_of rows ≡ rec = cc in
        inr (record { rows = rows; met = a; one-flag = sym n; is = sym l })

    by_rows : (m : Option (List Row)) → kept_rows p keep ≡ m → answered room m ≡ traced flag rec → Answered (kept_rows p keep) flag rec
    by_rows None a h =
        let n : 0 ≡ flag = cc in
        let l : [] ≡ rec = cc in
        inl (record { fails = a; zero_flag = sym n; empty = sym l })
    by_rows (Some rows) a h = by-room rows a (ltb room (length (record_of rows))) h

    by-found : (t : Bool) → pick t (answered room (kept_rows p keep)) (refused NotFound) ≡ traced flag rec → Answered (kept_rows p keep) flag rec
    by-found true h = by_rows (kept_rows p keep) refl h
    by-found false h = absurd (zero_one cc)

    by-below : (t : Bool) → pick t (pick (all_found_lem p (kept_of (length p.charstrings) keep)) (answered room (kept_rows p keep)) (refused NotFound)) (refused NoSuchNumber) ≡ traced flag rec
        → Answered (kept_rows p keep) flag rec
    by-below true h = by-found (all_found_lem p (kept_of (length p.charstrings) keep)) h
    by-below false h = absurd (zero_one cc)

-- ---- rows of a font

-- the rows that a glyph of a font meets are proper
pub proper_met : (p : Program) → GoodProgram p → ShortBodies 67108864 p → (g : ℕ) → g < length p.charstrings → (ts : List Tok) (met : List Row) → unfolded p g ≡ plain ts met
    → All (Proper (cid_keyed p.top)) met
proper_met p good short g h ts met e =
    let fd = get_or p.fds g 0 in
    let there = below_at (length p.privates) p.fds good.fds_there g (omega (arith, good.fds_count)) in
    let fits : FdFits (cid_keyed p.top) fd = record { byte = good.fds g; one = λ n. omega (arith, good.one_private n, there) } in
    rows_proper (cid_keyed p.top) p.globals (locals_of p fd) fd fits good.globals.count (good.locals fd).count short.globals (short.locals fd) g
    (get_or p.charstrings g []) ts met (omega (arith, good.charstrings.count)) (short.charstrings g) e

pub glyph_proper : (font : List ℕ) → Octets font → (p : Program) → read_font font ≡ Ok p → (g : ℕ) → g < length p.charstrings → (ts : List Tok) (met : List Row)
    → unfolded p g ≡ plain ts met → All (Proper (cid_keyed p.top)) met
glyph_proper font octets p is = proper_met p (font-good font p octets is) (font-short font p is)

-- the rows that glyphs of a font meet together fit their bytes
pub met-fits : (p : Program) → GoodProgram p → ShortBodies 67108864 p → (gs : List ℕ) → ((g : ℕ) → is_in g gs ≡ true → g < length p.charstrings) → (rows : List Row)
    → met_all p gs ≡ Some rows → All RowFits rows
met-fits p good short gs inside rows e =
    all_from RowFits rows
    (λ r h. let m = met-from p gs rows e r h in
    (all-at (Proper (cid_keyed p.top)) r m.2.met (proper_met p good short m.0 (inside m.0 m.1) m.2.tokens m.2.met m.2.plainly) m.2.has).fits)

rows_fine : (cid : Bool) (rows : List Row) → ((r : Row) → Has Row r rows → row_fine_lem cid r ≡ true) → rows_fine_lem cid rows ≡ true
unfolding rows_fine_lem
rows_fine cid [] f = refl
rows_fine cid (r ∷ rows) f = rw (f r (here refl)) (rows_fine cid rows (λ q h. f q (there h)))

record-fine : (cid : Bool) (rows : List Row) → All RowFits rows → ((r : Row) → Has Row r rows → row_fine_lem cid r ≡ true) → record_fine cid (record_of rows) 1 ≡ true
unfolding record_fine
record-fine cid rows fits f =
    let n : length (record_of rows) % 10 ≡ 0 = omega (arith, record_tens rows) in
    let l : rows_fine_lem cid (rows_of (record_of rows)) ≡ true = rows_fine cid (rows_of (record_of rows)) (λ r h. f r (record-from rows fits r h)) in
    rw (eq-eqb (length (record_of rows) % 10) 0 n, l)

-- ---- the theorems

module _ (font keep : List ℕ) (room : ℕ) (octets : Octets font) (p : Program) (is : read_font font ≡ Ok p) where
  told : (flag : ℕ) (rec : List ℕ) → trace_of font keep room ≡ traced flag rec → Answered (kept_rows p keep) flag rec
  unfolding trace_of
  told flag rec e = was_answered p keep room flag rec (ap (λ (g : Result Program Refusal). trace_read g keep room) (sym is) ∙ e)

  -- the rows that the kept glyphs meet are proper
  kept_proper : (rows : List Row) → kept_rows p keep ≡ Some rows → (r : Row) → Has Row r rows → Proper (cid_keyed p.top) r
  kept_proper rows e r h =
      let m = met-from p (kept_of (length p.charstrings) keep) rows e r h in
      let k = in_kept p keep m.0 m.1 in
      all-at (Proper (cid_keyed p.top)) r m.2.met (glyph_proper font octets p is m.0 k.there m.2.tokens m.2.met m.2.plainly) m.2.has

  pub kept-fits : (rows : List Row) → kept_rows p keep ≡ Some rows → All RowFits rows
  kept-fits rows e = all_from RowFits rows (λ r h. (kept_proper rows e r h).fits)

  -- flag 1: the rows
  with-one : (rec : List ℕ) → trace_of font keep room ≡ traced 1 rec → Recording (kept_rows p keep) 1 rec
  with-one rec e = ⊎_elim (λ w. absurd (zero_one (sym w.zero_flag))) (λ r. r) (told 1 rec e)

  -- the flag is 0 or 1
  pub trace_flags : (flag : ℕ) (rec : List ℕ) → trace_of font keep room ≡ traced flag rec → (flag ≡ 0) ⊎ (flag ≡ 1)
  trace_flags flag rec e = ⊎_elim (λ w. inl w.zero_flag) (λ r. inr r.one-flag) (told flag rec e)

  -- flag 0 exactly where a kept glyph is not plain; the record is empty then
  pub trace_flag : (rec : List ℕ) → trace_of font keep room ≡ traced 0 rec → (rec ≡ []) × ((g : ℕ) × IsKept p keep g × (unfolded p g ≡ not_plain_lem))
  trace_flag rec e =
      let w = ⊎_elim (λ w. w) (λ r. absurd (zero_one r.one-flag)) (told 0 rec e) in
      let f = met-fails p (kept_of (length p.charstrings) keep) w.fails in
      (w.empty, (f.0, in_kept p keep f.0 f.1, f.2))

  -- flag 1: every kept glyph is plain
  pub trace_all : (rec : List ℕ) → trace_of font keep room ≡ traced 1 rec → (g : ℕ) → IsKept p keep g → (ts : List Tok) × (met : List Row) × (unfolded p g ≡ plain ts met)
  trace_all rec e g k =
      let r = with-one rec e in
      let w = met-within p (kept_of (length p.charstrings) keep) r.rows r.met g (kept_is p keep g k) in
      (w.tokens, w.met, w.plainly)

  -- flag 1: each row that a kept glyph meets is listed
  pub trace_lists : (rec : List ℕ) → trace_of font keep room ≡ traced 1 rec → (g : ℕ) → IsKept p keep g → (ts : List Tok) (met : List Row) → unfolded p g ≡ plain ts met
      → All (λ r. lists (rows_of rec) r ≡ true) met
  trace_lists rec e g k ts met u =
      let r = with-one rec e in
      let w = met-within p (kept_of (length p.charstrings) keep) r.rows r.met g (kept_is p keep g k) in
      let s : plain w.tokens w.met ≡ plain ts met = sym w.plainly ∙ u in
      let m : met ≡ w.met = cc in
      all_from (λ q. lists (rows_of rec) q ≡ true) met
      (λ q h. has_listed q (rows_of rec)
      (subst (λ (b : List ℕ). Has Row q (rows_of b)) (sym r.is)
      (record-has r.rows (kept-fits r.rows r.met) q (w.inside q (subst (Has Row q) m h)))))

  -- flag 1: each row that is listed is met by a kept glyph
  pub trace_met : (rec : List ℕ) → trace_of font keep room ≡ traced 1 rec → (r : Row) → lists (rows_of rec) r ≡ true → (g : ℕ) × IsKept p keep g × Meets p g r
  trace_met rec e q h =
      let r = with-one rec e in
      let a = subst (λ (b : List ℕ). Has Row q (rows_of b)) r.is (listed_has q (rows_of rec) h) in
      let m = met-from p (kept_of (length p.charstrings) keep) r.rows r.met q (record-from r.rows (kept-fits r.rows r.met) q a) in
      (m.0, in_kept p keep m.0 m.1, m.2)

  -- rising byte order, without repeats
  pub trace_rises : (flag : ℕ) (rec : List ℕ) → trace_of font keep room ≡ traced flag rec → Rising (map row_key (rows_of rec))
  unfolding rows_of rows_from
  trace_rises flag rec e =
      ⊎_elim (λ w. subst (λ (b : List ℕ). Rising (map row_key (rows_of b))) (sym w.empty) noKeys)
      (λ r. subst (λ (b : List ℕ). Rising (map row_key (rows_of b))) (sym r.is) (record-rises r.rows (kept-fits r.rows r.met)))
      (told flag rec e)

  -- bytes
  pub trace_octets : (flag : ℕ) (rec : List ℕ) → trace_of font keep room ≡ traced flag rec → Octets rec
  trace_octets flag rec e =
      ⊎_elim (λ w. subst Octets (sym w.empty) (λ i. omega arith)) (λ r. subst Octets (sym r.is) (record_octets r.rows)) (told flag rec e)

  -- refusal 8 does not meet a traced record
  pub trace_fine : (flag : ℕ) (rec : List ℕ) → trace_of font keep room ≡ traced flag rec → record_fine (cid_keyed p.top) rec flag ≡ true
  unfolding record_fine rows_of rows_from rows_fine_lem
  trace_fine flag rec e =
      ⊎_elim
      (λ w. subst (λ (b : List ℕ). record_fine (cid_keyed p.top) b flag ≡ true) (sym w.empty)
      (subst (λ (f : ℕ). record_fine (cid_keyed p.top) [] f ≡ true) (sym w.zero_flag) refl))
      (λ r. subst (λ (b : List ℕ). record_fine (cid_keyed p.top) b flag ≡ true) (sym r.is)
      (subst (λ (f : ℕ). record_fine (cid_keyed p.top) (record_of r.rows) f ≡ true) (sym r.one-flag) (record-fine (cid_keyed p.top) r.rows (kept-fits r.rows r.met) (λ q h. (kept_proper r.rows r.met q h).fine))))
      (told flag rec e)

  -- so no subset call with what was traced is refused by 8
  pub trace_not_eight : (flag : ℕ) (rec : List ℕ) → trace_of font keep room ≡ traced flag rec → (cid ask : Bool) (name asked : List ℕ) (words lent : ℕ)
      → cut_of cid ask font name asked rec flag words lent ≡ refusedCut BadRecord → ⊥
  unfolding cut_with
  trace_not_eight flag rec e cid ask name asked words lent c =
      not_eight ask p name asked rec flag lent (trace_fine flag rec e) cid words (ap (λ (g : Result Program Refusal). cut_read work_size cid ask g name asked rec flag words lent) (sym is) ∙ c)

  -- THE THEOREM: what was traced and then cut with what was traced, not refused, holds every plain kept glyph
  pub trace_held : (flag : ℕ) (rec : List ℕ) → trace_of font keep room ≡ traced flag rec
      → (cid ask : Bool) (name : List ℕ) (words lent : ℕ) (way : Way) (bs : List ℕ) → cut_of cid ask font name keep rec flag words lent ≡ subset way bs
      → (g : ℕ) → IsKept p keep g → (ts : List Tok) (met : List Row) → unfolded p g ≡ plain ts met → Holds p g ts bs
  trace_held flag rec e cid ask name words lent way bs c g k ts met u =
      let f : Faithful font keep rec flag (subset way bs)
      = subst (Faithful font keep rec flag) c (faithful work_size cid ask font name keep rec flag words lent octets (trace_octets flag rec e)) in
      let r : Recorded rec flag met
      = ⊎_elim (λ z. inl z) (λ o. inr (trace_lists rec (e ∙ ap (λ (n : ℕ). traced n rec) o) g k ts met u)) (trace_flags flag rec e) in
      f p is g k ts met u r

  -- with flag 1 that is every kept glyph
  pub trace_all-held : (rec : List ℕ) → trace_of font keep room ≡ traced 1 rec
      → (cid ask : Bool) (name : List ℕ) (words lent : ℕ) (way : Way) (bs : List ℕ) → cut_of cid ask font name keep rec 1 words lent ≡ subset way bs
      → (g : ℕ) → IsKept p keep g → (ts : List Tok) × (met : List Row) × (unfolded p g ≡ plain ts met) × Holds p g ts bs
  trace_all-held rec e cid ask name words lent way bs c g k =
      let a = trace_all rec e g k in
      (a.0, a.1, a.2, trace_held 1 rec e cid ask name words lent way bs c g k a.0 a.1 a.2)

-- ---- the keep list

same_tests : (a b : Bool) → (a ≡ true → b ≡ true) → (b ≡ true → a ≡ true) → a ≡ b
same_tests true b f g = sym (f refl)
same_tests false true f g = g refl
same_tests false false f g = refl

-- keep lists with the same kept glyphs give the same answer: order and repeats do not matter, nor whether glyph 0 is named
pub trace_keeps : (font keep keep' : List ℕ) (room : ℕ) → Octets font → ((g : ℕ) → keeps keep g ≡ keeps keep' g) → trace_of font keep room ≡ trace_of font keep' room
unfolding trace_of
trace_keeps font keep keep' room octets same = go (read_font font) refl
  where
    go : (x : Result Program Refusal) → read_font font ≡ x → trace_read x keep room ≡ trace_read x keep' room
    go (Err n) e = refl
    go (Ok p) e =
        let n = length p.charstrings in
        let any = (font-good font p octets e).some in
        let b : all_below n keep ≡ all_below n keep'
        = same_tests (all_below n keep) (all_below n keep') (λ h. below_as keep' keep (λ g. sym (same g)) n any h) (λ h. below_as keep keep' same n any h) in
        ap (λ (t : Bool). pick t (pick (all_found_lem p (kept_of n keep)) (answered room (met_all p (kept_of n keep))) (refused NotFound)) (refused NoSuchNumber)) b
        ∙ ap (λ (l : List ℕ). pick (all_below n keep') (pick (all_found_lem p l) (answered room (met_all p l)) (refused NotFound)) (refused NoSuchNumber)) (kept_same keep keep' same n)
