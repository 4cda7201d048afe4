-- Which glyphs can be the culprit (document 02, Wish 12): the rows of a list without a glyph are among those of the list, and those of a body that the
-- glyph does not run are the same. So a body that fails, and that the glyph does not run, fails without it.
use Rattle.std.specs.Prelude.{ℕ, ◌<◌, ◌≡◌, Bool, ltb, eqb, length, get_or, None, Option, Some}
use Rattle.std.proofs.Math.Path.{refl}
use Rattle.std.proofs.Common.{sym, ap, ◌∙◌, subst, ⊎_elim, arith, ne_eqb}
use Rattle.std.proofs.Math.Bool.{true, false}
use mathlib.Core.List.{List, [], ◌∷◌}
use Rattle.octets.specs.Pick.{pick, pick_ind}
use Rattle.octets.specs.PickLaws.{both_hold, not_true}
use Rattle.octets.specs.Lists.{all_below}
use Rattle.unfold.specs.Unfold.{Row, Site, glyph, local, global, entered, masked, plain}
use Rattle.prune.specs.Bodies.{All}
use Rattle.prune.specs.Renumber.{Calls}
use Rattle.prune.specs.StepLaws.{zero_one}
use Rattle.prune.specs.BelongsLaws.{Belongs, rows_belong}
use Rattle.record.specs.Record.{rows_of, record_fine, lists}
use Rattle.dict.specs.Lookup.{ros_in, cid_keyed}
use Rattle.cff.specs.Font.{Program}
use Rattle.cff.specs.Find.{work_size}
use Rattle.bits.specs.Bits.{count_below}
use Rattle.subset.specs.Kept.{is_in, those, keeps, kept_of, written_order, fds_of, used_fds, locals_of}
use Rattle.subset.specs.KeptListLaws.{in_head, in_more, in_cases, in_none, in_place, those-has, those_in}
use Rattle.subset.specs.Pruned.{Bodies, each, reached, local_set, global_set, renumbered_body, renumbered_subrs, local_operand, global_operand, calls_in, calls_across, renumbered, Pruned, or_stubbed, stubbed, pruned}
use Rattle.subset.specs.EachLaws.{and_yes, each_at}
use Rattle.subset.specs.Cut.{Outcome, refused, subset, all_found_lem, has_ros_lem, same_bool_lem, unsupported_in, own_of, written}
use Rattle.subset.specs.Codes.{Coded, coded_if, pair_count}
use Rattle.subset.specs.Subset.{subset_bytes}
use Rattle.faithful.specs.KeptLaws.{kept-below, order_same}
use Rattle.traced.specs.Traced.{refused as refusedTrace, traced, met_all, record_of, answered}
use Rattle.traced.specs.Has.{Has}
use Rattle.traced.specs.HasLaws.{has_listed, all-at, all_from}
use Rattle.traced.proofs.MetLaws.{Meets, met-within, met-from}
use Rattle.traced.specs.RowLaws.{RowFits}
use Rattle.traced.proofs.RowLaws.{record-has, record-from}
use Rattle.traced.specs.Theorem.{kept_rows}
use Rattle.culprit.specs.Culprit.{cut_traced, traced_cut, without, has_way, is_culprit}
use Rattle.culprit.proofs.CulpritLaws.{in_without}
use Rattle.culprit.specs.FewerLaws.{Fails, calls_fewer, Fewer, body_fewer}
use Rattle.culprit.specs.NarrowLaws.{fd_at, code_at, body_at}
use Rattle.refusal.specs.declared.Refusal.{Refusal}
use Rattle.refusal.specs.declared.Refusal.TheVariants.{Malformed, Unsupported, TooLong, NoSuchNumber, NotFound, BadRecord, Work, Subset, Output, StringId, Pairs}
use Rattle.subset.specs.Way.{is_renumbered}
use Rattle.subset.specs.declared.Way.TheVariants.{Renumbered}

-- ---- way 0

module _ (p : Program) (name keep rec : List ℕ) (flag words : ℕ) where
  abbrev kept : List ℕ
  kept = kept_of (length p.charstrings) keep

  abbrev cut : Pruned
  cut = pruned p (rows_of rec) (used_fds p kept) (written_order p kept) flag

  -- an outcome that has way 0 was pruned so
  abbrev Way : Outcome → Type 0
  Way o = has_way Renumbered o ≡ true → is_renumbered cut.way ≡ true

  refuses : (n : Refusal) → Way (refused n)
  refuses n e = absurd (zero_one cc)

  written-way : (coded : Coded) → Way (written p coded name kept (written_order p kept) 67108864 cut)
  written-way coded =
      let bytes = subset_bytes p coded name kept (written_order p kept) cut.bodies in
      let last = pick (ltb 67108864 (length bytes)) (refused Output) (subset cut.way bytes) in
      let sized = pick (ltb 67108864 (length bytes)) (refused Subset) last in
      pick_ind Way (ltb 64609 (length (own_of p (written_order p kept)))) (refused StringId) (pick (ltb 255 (pair_count coded)) (refused Pairs) sized) (λ t. refuses StringId)
      (λ own. pick_ind Way (ltb 255 (pair_count coded)) (refused Pairs) sized (λ t. refuses Pairs)
      (λ codes. pick_ind Way (ltb 67108864 (length bytes)) (refused Subset) last (λ t. refuses Subset)
      (λ size. pick_ind Way (ltb 67108864 (length bytes)) (refused Output) (subset cut.way bytes) (λ t. refuses Output) (λ fits e. e))))

  cut-way : Way (cut_traced p name keep words (traced flag rec))
  cut-way =
      pick_ind Way (same_bool_lem (cid_keyed p.top) (cid_keyed p.top)) _ (refused Unsupported)
      (λ k. pick_ind Way (unsupported_in false p) (refused Unsupported) _ (λ t. refuses Unsupported)
      (λ q. pick_ind Way (pick (cid_keyed p.top) (has_ros_lem (ros_in p.top)) true) _ (refused Malformed)
      (λ ros. pick_ind Way (ltb 65535 (length name)) (refused TooLong) _ (λ t. refuses TooLong)
      (λ n. pick_ind Way (all_below (length p.charstrings) keep) _ (refused NoSuchNumber)
      (λ b. pick_ind Way (all_found_lem p kept) _ (refused NotFound)
      (λ found. pick_ind Way (record_fine (cid_keyed p.top) rec flag) _ (refused BadRecord)
      (λ r. pick_ind Way (ltb words (work_size p)) (refused Work) _ (λ t. refuses Work) (λ w. written-way (coded_if false p kept (own_of p (written_order p kept)))))
      (λ t. refuses BadRecord))
      (λ t. refuses NotFound))
      (λ t. refuses NoSuchNumber)))
      (λ t. refuses Malformed)))
      (λ t. refuses Unsupported)

-- a list that has way 0 has plain glyphs alone, and their renumbering does not fail
pub record Renumbers (p : Program) (keep : List ℕ) : Type 0 where
  pub rows : List Row
  pub met : kept_rows p keep ≡ Some rows
  pub bodies : Bodies
  pub is : renumbered p (rows_of (record_of rows)) (used_fds p (kept_of (length p.charstrings) keep)) (written_order p (kept_of (length p.charstrings) keep)) ≡ Some bodies

module _ (p : Program) (name keep : List ℕ) (words lent : ℕ) where
  by-bodies : (rows : List Row) → kept_rows p keep ≡ Some rows → is_renumbered (cut p name keep (record_of rows) 1 words).way ≡ true → Renumbers p keep
  unfolding pruned
  by-bodies rows m e =
      by (renumbered p (rows_of (record_of rows)) (used_fds p (kept_of (length p.charstrings) keep)) (written_order p (kept_of (length p.charstrings) keep))) refl e
    where
      by : (b : Option Bodies) → renumbered p (rows_of (record_of rows)) (used_fds p (kept_of (length p.charstrings) keep)) (written_order p (kept_of (length p.charstrings) keep)) ≡ b
          → is_renumbered (or_stubbed b (stubbed p (rows_of (record_of rows)) (used_fds p (kept_of (length p.charstrings) keep)) (written_order p (kept_of (length p.charstrings) keep)))).way ≡ true → Renumbers p keep
      by None q h = absurd (zero_one cc)
      by (Some b) q h = record { rows = rows; met = m; bodies = b; is = q }

  by_rows : (m : Option (List Row)) → kept_rows p keep ≡ m → has_way Renumbered (cut_traced p name keep words (answered lent m)) ≡ true → Renumbers p keep
  unfolding pruned
  by_rows None q e = absurd (zero_one (let two : false ≡ true = cut-way p name keep [] 0 words e in cc))
  by_rows (Some rows) q e = by (ltb lent (length (record_of rows))) e
    where
      by : (t : Bool) → has_way Renumbered (cut_traced p name keep words (pick t (refusedTrace Output) (traced 1 (record_of rows)))) ≡ true → Renumbers p keep
      by true h = absurd (zero_one cc)
      by false h = by-bodies rows q (cut-way p name keep (record_of rows) 1 words h)

  by_trace : (b f : Bool) → has_way Renumbered (cut_traced p name keep words (pick b (pick f (answered lent (kept_rows p keep)) (refusedTrace NotFound)) (refusedTrace NoSuchNumber))) ≡ true → Renumbers p keep
  by_trace true true e = by_rows (kept_rows p keep) refl e
  by_trace true false e = absurd (zero_one cc)
  by_trace false f e = absurd (zero_one cc)

  abbrev Zero : Outcome → Type 0
  Zero o = has_way Renumbered o ≡ true → Renumbers p keep

  pub way_0 : has_way Renumbered (traced_cut p name keep words lent) ≡ true → Renumbers p keep
  unfolding traced_cut
  way_0 =
      pick_ind Zero (unsupported_in false p) (refused Unsupported) _ (λ t e. absurd (zero_one cc))
      (λ q. pick_ind Zero (pick (cid_keyed p.top) (has_ros_lem (ros_in p.top)) true) _ (refused Malformed)
      (λ ros. pick_ind Zero (ltb 65535 (length name)) (refused TooLong) _ (λ t e. absurd (zero_one cc))
      (λ n. by_trace (all_below (length p.charstrings) keep) (all_found_lem p (kept_of (length p.charstrings) keep))))
      (λ t e. absurd (zero_one cc)))

-- ---- the kept glyphs

module _ (p : Program) (keep : List ℕ) (g : ℕ) where
  abbrev all : List ℕ
  all = kept_of (length p.charstrings) keep

  abbrev left : List ℕ
  left = kept_of (length p.charstrings) (without g keep)

  keeps_fewer : (x : ℕ) → keeps (without g keep) x ≡ true → keeps keep x ≡ true
  keeps_fewer x e = by (eqb x 0) (eqb x g) (ap (λ (t : Bool). pick (eqb x 0) true t) (sym (in_without g keep x)) ∙ e)
    where
      by : (s t : Bool) → pick s true (pick t false (is_in x keep)) ≡ true → pick s true (is_in x keep) ≡ true
      by true t h = refl
      by false true h = absurd (zero_one cc)
      by false false h = h

  keeps_other : (x : ℕ) → (x ≡ g → ⊥) → keeps keep x ≡ true → keeps (without g keep) x ≡ true
  keeps_other x d e =
      ap (λ (t : Bool). pick (eqb x 0) true t) (in_without g keep x ∙ ap (λ (t : Bool). pick t false (is_in x keep)) (ne_eqb x g d)) ∙ e

  -- without g no other is kept, and each other one is
  kept_fewer : (x : ℕ) → is_in x left ≡ true → is_in x all ≡ true
  kept_fewer x h =
      let t = those_in (keeps (without g keep)) (length p.charstrings) 0 x h in
      those-has (keeps keep) (length p.charstrings) 0 x t.0 t.1 (keeps_fewer x t.2)

  kept_other : (x : ℕ) → (x ≡ g → ⊥) → is_in x all ≡ true → is_in x left ≡ true
  kept_other x d h =
      let t = those_in (keeps keep) (length p.charstrings) 0 x h in
      those-has (keeps (without g keep)) (length p.charstrings) 0 x t.0 t.1 (keeps_other x d t.2)

  -- glyph 0 stays
  pub zero_left : 0 < length p.charstrings → is_in 0 left ≡ true
  zero_left any = those-has (keeps (without g keep)) (length p.charstrings) 0 0 (omega arith) (omega arith) refl

  -- ---- their rows

  module _ (rows : List Row) (met : kept_rows p keep ≡ Some rows) (fits : All RowFits rows) (rows' : List Row) (met' : kept_rows p (without g keep) ≡ Some rows') where
    -- a row that a kept glyph meets is there
    has-met : (gs : List ℕ) (l : List Row) → met_all p gs ≡ Some l → (x : ℕ) → is_in x gs ≡ true → (r : Row) → Meets p x r → Has Row r l
    has-met gs l e x h r m =
        let w = met-within p gs l e x h in
        let s : plain m.tokens m.met ≡ plain w.tokens w.met = sym m.plainly ∙ w.plainly in
        let i : m.met ≡ w.met = cc in
        w.inside r (subst (Has Row r) i m.has)

    row_fewer : (r : Row) → Has Row r rows' → Has Row r rows
    row_fewer r h = let m = met-from p left rows' met' r h in has-met all rows met m.0 (kept_fewer m.0 m.1) r m.2

    row_other : (x : ℕ) → is_in x all ≡ true → (x ≡ g → ⊥) → (r : Row) → Meets p x r → Has Row r rows'
    row_other x h d r m = has-met left rows' met' x (kept_other x d h) r m

    fits_fewer : All RowFits rows'
    fits_fewer = all_from RowFits rows' (λ r h. all-at RowFits r rows fits (row_fewer r h))

    -- a row that another kept glyph meets stays
    pub stays_listed : (x : ℕ) → is_in x all ≡ true → (x ≡ g → ⊥) → (r : Row) → Meets p x r → Has Row r (rows_of (record_of rows'))
    stays_listed x h d r m = record-has rows' fits_fewer r (row_other x h d r m)

    -- the masks of a body are the same where another kept glyph meets them all
    pub rows_fewer : (x : ℕ) → is_in x all ≡ true → (x ≡ g → ⊥) → (site : Site) → ((o l : ℕ) → Has Row (masked site o l) (rows_of (record_of rows)) → Meets p x (masked site o l))
        → Fewer (rows_of (record_of rows)) (rows_of (record_of rows')) site
    rows_fewer x h d site m =
        record {
          fewer = λ q i. record-has rows fits q (row_fewer q (record-from rows' fits_fewer q i));
          same = λ o l i. stays_listed x h d (masked site o l) (m o l i);
        }

-- the masks in a glyph's charstring are its own
own-mask : (p : Program) (x h o l : ℕ) → Meets p x (masked (glyph h) o l) → h ≡ x
own-mask p x h o l m =
    let fd = get_or p.fds x 0 in
    (all-at (Belongs (λ q. Unit) fd x) (masked (glyph h) o l) m.met
    (rows_belong p.globals (locals_of p fd) fd x (λ q. Unit) (get_or p.charstrings x []) m.tokens m.met m.plainly (all_from (λ q. Unit) m.met (λ q j. tt))) m.has).in_glyph refl

-- ---- bodies

-- the body is that of a glyph x, or a subroutine of the font that x enters
abbrev pub Entered : Program → ℕ → Site → Type 0
Entered p x (glyph h) = x ≡ h
Entered p x (local f k) = (get_or p.fds x 0 ≡ f) × (k < length (locals_of p f)) × Meets p x (entered (local f k))
Entered p x (global k) = (k < length p.globals) × Meets p x (entered (global k))

-- glyph x runs a body, and meets each mask of it that the rows have
pub record Runs (p : Program) (rows : List Row) (x : ℕ) (site : Site) : Type 0 where
  pub enters : Entered p x site
  pub masks : (o l : ℕ) → Has Row (masked site o l) rows → Meets p x (masked site o l)

-- the FDs of a font are there
pub record FdsThere (p : Program) : Type 0 where
  pub any : 0 < length p.charstrings
  pub fds : (x : ℕ) → x < length p.charstrings → get_or p.fds x 0 < length p.privates

-- ---- bodies that are made

-- one of those that are renumbered
each-made : {A : Type 0} (f : ℕ → Option A) (d : A) (ks : List ℕ) (l : List A) → each f ks ≡ Some l → (k : ℕ) → is_in k ks ≡ true → f k ≡ None → ⊥
each-made f d ks l e k h z =
    let i = in_place ks k h in
    let m = each_at f ks l e i.0 d i.1 in
    zero_one (let n : None ≡ Some (get_or l i.0 d) = sym z ∙ ap f (sym i.2) ∙ m in cc)

-- a subroutine that is reached
subrs-made : (rows : List Row) (set : ℕ → Bool) (calls : Calls) (site : ℕ → Site) (subrs l : List (List ℕ)) → renumbered_subrs rows set calls site subrs ≡ Some l
    → (k : ℕ) → k < length subrs → set k ≡ true → renumbered_body rows calls (site k) (get_or subrs k []) ≡ None → ⊥
unfolding renumbered_subrs
subrs-made rows set calls site subrs l e k h t z = by (eqb (reached set) (count_below set (length subrs))) e
  where
    by : (b : Bool) → pick b (each (λ k. renumbered_body rows calls (site k) (get_or subrs k [])) (those set (length subrs) 0)) None ≡ Some l → ⊥
    by true q = each-made (λ k. renumbered_body rows calls (site k) (get_or subrs k [])) [] (those set (length subrs) 0) l q k (those-has set (length subrs) 0 k (omega arith) (omega arith) t) z
    by false q = zero_one cc

-- the FD of a kept glyph is in use
fd_in : (p : Program) (gs : List ℕ) (x : ℕ) → is_in x gs ≡ true → is_in (get_or p.fds x 0) (fds_of p gs) ≡ true
unfolding fds_of
fd_in p [] x h = absurd (in_none x h)
fd_in p (y ∷ gs) x h =
    ⊎_elim (λ e. in_head (get_or p.fds y 0) (get_or p.fds x 0) (fds_of p gs) (ap (λ (k : ℕ). get_or p.fds k 0) e))
    (λ i. in_more (get_or p.fds y 0) (get_or p.fds x 0) (fds_of p gs) (fd_in p gs x i)) (in_cases y x gs h)

fd-used : (p : Program) (gs : List ℕ) (x : ℕ) → is_in x gs ≡ true → get_or p.fds x 0 < length p.privates → is_in (get_or p.fds x 0) (used_fds p gs) ≡ true
fd-used p gs x h l = those-has (λ f. is_in f (fds_of p gs)) (length p.privates) 0 (get_or p.fds x 0) (omega arith) (omega arith) (fd_in p gs x h)

-- what a global subroutine calls fails where it does by the FD of glyph 0, whichever FDs are in use
across-fails : (p : Program) (rows : List Row) (fd : ℕ) (used : List ℕ) → is_in fd used ≡ true → Fails (calls_in p rows fd) (calls_across p rows used)
across-fails p rows fd [] h b z e = absurd (in_none fd h)
across-fails p rows fd (f ∷ []) h b z e =
    ⊎_elim (λ i. ap (λ (k : ℕ). calls_in p rows k b z) i ∙ e) (λ i. absurd (in_none fd i)) (in_cases f fd [] h)
across-fails p rows fd (f ∷ f' ∷ fs) h b z e = by (eqb b 10) e
  where
    by : (t : Bool) → pick t (local_operand p rows fd z) (global_operand p rows z) ≡ None → pick t None (global_operand p rows z) ≡ None
    by true i = refl
    by false i = i

-- some rows and themselves
fewer_self : (rows : List Row) (site : Site) → Fewer rows rows site
fewer_self rows site = record { fewer = λ q h. h; same = λ o l h. h }

-- where all are renumbered, a body that a kept glyph runs does not fail
body-made : (p : Program) → FdsThere p → (gs : List ℕ) → is_in 0 gs ≡ true → (x : ℕ) → is_in x gs ≡ true → x < length p.charstrings
    → (rows : List Row) (order : List ℕ) → is_in x order ≡ true → (b : Bodies) → renumbered p rows (used_fds p gs) order ≡ Some b
    → (site : Site) → Entered p x site → ((r : Row) → Meets p x r → lists rows r ≡ true) → body_at p rows site ≡ None → ⊥
unfolding renumbered
body-made p there gs zero_in x kept below rows order placed b e site enters listed bad =
    let one = and_yes (renumbered_subrs rows (global_set rows) (calls_across p rows used) global p.globals) _ b e in
    let two = and_yes (each (λ f. renumbered_subrs rows (local_set rows f) (calls_in p rows f) (local f) (locals_of p f)) used) _ b one.2 in
    let three = and_yes (each (λ g. renumbered_body rows (calls_in p rows (get_or p.fds g 0)) (glyph g) (get_or p.charstrings g [])) order) _ b two.2 in
    by site enters bad one.0 one.1 two.0 two.1 three.0 three.1
  where
    used : List ℕ
    used = used_fds p gs

    by : (site : Site) → Entered p x site → body_at p rows site ≡ None
        → (gl : List (List ℕ)) → renumbered_subrs rows (global_set rows) (calls_across p rows used) global p.globals ≡ Some gl
        → (ls : List (List (List ℕ))) → each (λ f. renumbered_subrs rows (local_set rows f) (calls_in p rows f) (local f) (locals_of p f)) used ≡ Some ls
        → (cs : List (List ℕ)) → each (λ g. renumbered_body rows (calls_in p rows (get_or p.fds g 0)) (glyph g) (get_or p.charstrings g [])) order ≡ Some cs → ⊥
    by (glyph h) i z gl u ls v cs w =
        each-made (λ g. renumbered_body rows (calls_in p rows (get_or p.fds g 0)) (glyph g) (get_or p.charstrings g [])) [] order cs w h (ap (λ (k : ℕ). is_in k order) (sym i) ∙ placed) z
    by (local f k) i z gl u ls v cs w =
        let at = in_place used f (ap (λ (j : ℕ). is_in j used) (sym i.0) ∙ fd-used p gs x kept (there.fds x below)) in
        let m = each_at (λ f. renumbered_subrs rows (local_set rows f) (calls_in p rows f) (local f) (locals_of p f)) used ls v at.0 [] at.1 in
        subrs-made rows (local_set rows f) (calls_in p rows f) (local f) (locals_of p f) (get_or ls at.0 [])
        (ap (λ (j : ℕ). renumbered_subrs rows (local_set rows j) (calls_in p rows j) (local j) (locals_of p j)) (sym at.2) ∙ m) k i.1 (listed (entered (local f k)) i.2) z
    by (global k) i z gl u ls v cs w =
        subrs-made rows (global_set rows) (calls_across p rows used) global p.globals gl u k i.0 (listed (entered (global k)) i.1)
        (body_fewer rows rows (global k) (fewer_self rows (global k)) (calls_in p rows (get_or p.fds 0 0)) (calls_across p rows used)
        (across-fails p rows (get_or p.fds 0 0) used (fd-used p gs 0 zero_in (there.fds 0 there.any))) (get_or p.globals k []) z)

-- ---- the law

module _ (p : Program) (there : FdsThere p) (name keep : List ℕ) (words lent : ℕ) (rows : List Row) (met : kept_rows p keep ≡ Some rows) (fits : All RowFits rows) where
  -- THE LAW: where a body fails that a kept glyph runs, meeting each of its masks, no other glyph is a culprit
  pub one_culprit : (site : Site) → body_at p (rows_of (record_of rows)) site ≡ None → (x : ℕ) → is_in x (kept_of (length p.charstrings) keep) ≡ true
      → Runs p (rows_of (record_of rows)) x site → (g : ℕ) → (x ≡ g → ⊥) → is_culprit p name keep words lent g ≡ false
  unfolding is_culprit
  one_culprit site bad x kept runs g other =
      not_true (pick (is_in g keep) (has_way Renumbered (traced_cut p name (without g keep) words lent)) false)
      (λ e. let w = way_0 p name (without g keep) words lent (both_hold (is_in g keep) (has_way Renumbered (traced_cut p name (without g keep) words lent)) e).1 in
      let was = rows_of (record_of rows) in
      let now = rows_of (record_of w.rows) in
      let gs = left p keep g in
      let few = rows_fewer p keep g rows met fits w.rows w.met x kept other site runs.masks in
      let fewer = body_fewer was now site few (calls_in p was (fd_at p site)) (calls_in p now (fd_at p site)) (calls_fewer was now few.fewer p (fd_at p site)) (code_at p site) bad in
      let in_left = kept_other p keep g x other kept in
      body-made p there gs (zero_left p keep g there.any) x in_left (kept-below (length p.charstrings) keep x kept) now (written_order p gs) (order_same p gs x ∙ in_left) w.bodies w.is
      site runs.enters (λ r m. has_listed r now (stays_listed p keep g rows met fits w.rows w.met x kept other r m)) fewer)

  -- a glyph runs its own charstring
  own_runs : (h : ℕ) → Runs p (rows_of (record_of rows)) h (glyph h)
  own_runs h =
      record {
        enters = refl;
        masks = λ o l i. let m = met-from p (kept_of (length p.charstrings) keep) rows met (masked (glyph h) o l) (record-from rows fits (masked (glyph h) o l) i) in
            subst (λ (y : ℕ). Meets p y (masked (glyph h) o l)) (sym (own-mask p m.0 h o l m.2)) m.2;
      }

  -- so of a charstring that fails only its own glyph can be the culprit
  pub charstring_fails : (h : ℕ) → is_in h (kept_of (length p.charstrings) keep) ≡ true → body_at p (rows_of (record_of rows)) (glyph h) ≡ None
      → (g : ℕ) → (h ≡ g → ⊥) → is_culprit p name keep words lent g ≡ false
  charstring_fails h kept bad g other = one_culprit (glyph h) bad h kept (own_runs h) g other
