-- Two lengths for one mask (document 01, 'Corners in write.rs'): where a record has them for a body that is rewritten, a subset call that is not refused
-- answers way 1.
use Rattle.std.specs.Prelude.{ℕ, ◌<◌, ◌≡◌, refl, Bool, true, false, List, [], ◌∷◌, ltb, length, get_or, None, Option, Some}
use Rattle.std.proofs.Common.{sym, ◌∙◌, ⊎_elim, arith}
use Rattle.std.proofs.Math.Path.{ap}
use Rattle.std.proofs.Math.Dec.{eqb}
use Rattle.octets.specs.Pick.{pick, pick_ind}
use Rattle.octets.specs.PickLaws.{pick_same}
use Rattle.octets.specs.Lists.{all_below}
use Rattle.octets.specs.Steps.{and}
use Rattle.charstring.specs.declared.MaskLen.TheVariants.{Given}
use Rattle.unfold.specs.Unfold.{Row, Site, glyph, local, global, masked}
use Rattle.prune.specs.Renumber.{Calls}
use Rattle.prune.specs.StepLaws.{zero_one}
use Rattle.record.specs.Record.{rows_of, lists, two_lengths_lem, record_fine}
use Rattle.dict.specs.Lookup.{cid_keyed, ros_in}
use Rattle.cff.specs.Font.{Program}
use Rattle.cff.specs.Find.{work_size}
use Rattle.subset.specs.Kept.{is_in, those, kept_of, written_order, used_fds, locals_of}
use Rattle.subset.specs.KeptListLaws.{in_none, in_cases, those-has}
use Rattle.bits.specs.Bits.{count_below}
use Rattle.subset.specs.Pruned.{each, reached, local_set, global_set, renumbered_body, renumbered_subrs, calls_in, calls_across, renumbered, Bodies, or_stubbed, stubbed, Pruned, pruned}
use Rattle.subset.specs.Codes.{Coded, coded_if, pair_count}
use Rattle.subset.specs.Subset.{subset_bytes}
use Rattle.subset.specs.Cut.{Outcome, refused, subset, all_found_lem, has_ros_lem, same_bool_lem, own_of, written, unsupported_in, cut_program}
use Rattle.faithful.specs.RecordLaws.{given-listed}
use Rattle.refusal.specs.declared.Refusal.{Refusal}
use Rattle.refusal.specs.declared.Refusal.TheVariants.{Malformed, Unsupported, TooLong, NoSuchNumber, NotFound, BadRecord, Work, Subset, Output, StringId, Pairs}
use Rattle.subset.specs.declared.Way.{Way}
use Rattle.subset.specs.declared.Way.TheVariants.{Stubbed}

-- two lengths that are listed for one mask
pub two-listed : (rows : List Row) (site : Site) (offset a b : ℕ) → lists rows (masked site offset a) ≡ true → lists rows (masked site offset b) ≡ true
    → (a ≡ b → ⊥) → two_lengths_lem rows site ≡ true
two-listed rows site offset a b h k differ = by (two_lengths_lem rows site) refl
  where
    by : (t : Bool) → two_lengths_lem rows site ≡ t → t ≡ true
    by true e = refl
    by false e =
        let s : Given a ≡ Given b = sym (given-listed rows site offset a e h) ∙ given-listed rows site offset b e k in
        let i : a ≡ b = cc in
        absurd (differ i)

-- ---- what fails

and-fails : {A B : Type 0} (m : Option A) → and {A = A} {B = B} m (λ a. None) ≡ None
and-fails None = refl
and-fails (Some a) = refl

each-fails : {A : Type 0} (f : ℕ → Option A) (ks : List ℕ) (k : ℕ) → is_in k ks ≡ true → f k ≡ None → each f ks ≡ None
unfolding each
each-fails {A} f [] k h e = absurd (in_none k h)
each-fails {A} f (x ∷ ks) k h e =
    ⊎_elim
    (λ i. ap (λ (m : Option A). and m (λ b. and (each f ks) (λ bs. Some (b ∷ bs)))) (ap f i ∙ e))
    (λ i. ap (λ (m : Option (List A)). and (f x) (λ b. and m (λ bs. Some (b ∷ bs)))) (each-fails f ks k i e) ∙ and-fails (f x))
    (in_cases x k ks h)

module _ (rows : List Row) where
  body-fails : (calls : Calls) (site : Site) (s : List ℕ) → two_lengths_lem rows site ≡ true → renumbered_body rows calls site s ≡ None
  unfolding renumbered_body
  body-fails calls site s e = rw e

  subrs-fail : (set : ℕ → Bool) (calls : Calls) (site : ℕ → Site) (subrs : List (List ℕ)) (k : ℕ) → set k ≡ true → k < length subrs → two_lengths_lem rows (site k) ≡ true
      → renumbered_subrs rows set calls site subrs ≡ None
  unfolding renumbered_subrs
  subrs-fail set calls site subrs k is h e =
      let f = each-fails (λ j. renumbered_body rows calls (site j) (get_or subrs j [])) (those set (length subrs) 0) k
      (those-has set (length subrs) 0 k (omega arith) (omega (arith, h)) is) (body-fails calls (site k) (get_or subrs k []) e) in
      let there = eqb (reached set) (count_below set (length subrs)) in
      ap (λ (m : Option (List (List ℕ))). pick there m None) f ∙ pick_same there None

  module _ (p : Program) (used order : List ℕ) where
    -- a body that is rewritten: a glyph that is written, or a subroutine that is listed and exists
    abbrev pub Rewritten : Site → Type 0
    Rewritten (glyph g) = is_in g order ≡ true
    Rewritten (local f k) = (is_in f used ≡ true) × (local_set rows f k ≡ true) × (k < length (locals_of p f))
    Rewritten (global k) = (global_set rows k ≡ true) × (k < length p.globals)

    abbrev globals_part : Option (List (List ℕ))
    globals_part = renumbered_subrs rows (global_set rows) (calls_across p rows used) global p.globals

    abbrev locals_part : Option (List (List (List ℕ)))
    locals_part = each (λ f. renumbered_subrs rows (local_set rows f) (calls_in p rows f) (local f) (locals_of p f)) used

    abbrev glyphs_part : Option (List (List ℕ))
    glyphs_part = each (λ g. renumbered_body rows (calls_in p rows (get_or p.fds g 0)) (glyph g) (get_or p.charstrings g [])) order

    abbrev three : Option (List (List ℕ)) → Option (List (List (List ℕ))) → Option (List (List ℕ)) → Option Bodies
    three a b c = and a (λ gs. and b (λ ls. and c (λ cs. Some (record { globals = gs; locals = ls; charstrings = cs }))))

    third-fails : (a : Option (List (List ℕ))) (b : Option (List (List (List ℕ)))) → three a b None ≡ None
    third-fails None b = refl
    third-fails (Some gs) b = and-fails b

    second-fails : (a : Option (List (List ℕ))) (c : Option (List (List ℕ))) → three a None c ≡ None
    second-fails a c = and-fails a

    renumbered-fails : (site : Site) → Rewritten site → two_lengths_lem rows site ≡ true → renumbered p rows used order ≡ None
    unfolding renumbered
    renumbered-fails (glyph g) h e =
        ap (three globals_part locals_part) (each-fails _ order g h (body-fails (calls_in p rows (get_or p.fds g 0)) (glyph g) (get_or p.charstrings g []) e))
        ∙ third-fails globals_part locals_part
    renumbered-fails (local f k) h e =
        ap (λ (m : Option (List (List (List ℕ)))). three globals_part m glyphs_part)
        (each-fails _ used f h.0 (subrs-fail (local_set rows f) (calls_in p rows f) (local f) (locals_of p f) k h.1 h.2 e))
        ∙ second-fails globals_part glyphs_part
    renumbered-fails (global k) h e =
        ap (λ (m : Option (List (List ℕ))). three m locals_part glyphs_part) (subrs-fail (global_set rows) (calls_across p rows used) global p.globals k h.0 h.1 e)

    pub two-stubbed : (site : Site) → Rewritten site → two_lengths_lem rows site ≡ true → (pruned p rows used order 1).way ≡ Stubbed
    unfolding pruned
    two-stubbed site h e = ap (λ (m : Option Bodies). (or_stubbed m (stubbed p rows used order)).way) (renumbered-fails site h e)

-- ---- the way of an outcome

-- a subset has this way
abbrev HasWay : Way → Outcome → Type 0
HasWay w o = (way : Way) (bs : List ℕ) → o ≡ subset way bs → way ≡ w

no_way : (w : Way) (e : Refusal) → HasWay w (refused e)
no_way w e way bs h = absurd (zero_one cc)

its-way : (w : Way) (bs : List ℕ) → HasWay w (subset w bs)
its-way w bs way bytes e = cc

module _ (ask : Bool) (p : Program) (name keep rec : List ℕ) (flag lent : ℕ) where
  abbrev kept : List ℕ
  kept = kept_of (length p.charstrings) keep

  abbrev order : List ℕ
  order = written_order p kept

  abbrev cut : Pruned
  cut = pruned p (rows_of rec) (used_fds p kept) order flag

  abbrev coded : Coded
  coded = coded_if ask p kept (own_of p order)

  abbrev bytes : List ℕ
  bytes = subset_bytes p coded name kept order cut.bodies

  written-way : HasWay cut.way (written p coded name kept order lent cut)
  written-way =
      let last = pick (ltb lent (length bytes)) (refused Output) (subset cut.way bytes) in
      let sized = pick (ltb 67108864 (length bytes)) (refused Subset) last in
      pick_ind (HasWay cut.way) (ltb 64609 (length (own_of p order))) (refused StringId) (pick (ltb 255 (pair_count coded)) (refused Pairs) sized) (λ t. no_way cut.way StringId)
      (λ t. pick_ind (HasWay cut.way) (ltb 255 (pair_count coded)) (refused Pairs) sized (λ s. no_way cut.way Pairs)
      (λ s. pick_ind (HasWay cut.way) (ltb 67108864 (length bytes)) (refused Subset) last (λ u. no_way cut.way Subset)
      (λ u. pick_ind (HasWay cut.way) (ltb lent (length bytes)) (refused Output) (subset cut.way bytes) (λ v. no_way cut.way Output)
      (λ v. its-way cut.way bytes))))

  -- a call that is not refused answers the way of its bodies
  pub cut-way : (cid : Bool) (words : ℕ) → HasWay cut.way (cut_program work_size cid ask p name keep rec flag words lent)
  cut-way cid words =
      pick_ind (HasWay cut.way) (same_bool_lem cid (cid_keyed p.top)) _ (refused Unsupported)
      (λ k. pick_ind (HasWay cut.way) (unsupported_in ask p) (refused Unsupported) _ (λ t. no_way cut.way Unsupported)
      (λ q. pick_ind (HasWay cut.way) (pick cid (has_ros_lem (ros_in p.top)) true) _ (refused Malformed)
      (λ ros. pick_ind (HasWay cut.way) (ltb 65535 (length name)) (refused TooLong) _ (λ t. no_way cut.way TooLong)
      (λ n. pick_ind (HasWay cut.way) (all_below (length p.charstrings) keep) _ (refused NoSuchNumber)
      (λ b. pick_ind (HasWay cut.way) (all_found_lem p kept) _ (refused NotFound)
      (λ found. pick_ind (HasWay cut.way) (record_fine cid rec flag) _ (refused BadRecord)
      (λ r. pick_ind (HasWay cut.way) (ltb words (work_size p)) (refused Work) _ (λ t. no_way cut.way Work)
      (λ w. written-way))
      (λ t. no_way cut.way BadRecord))
      (λ t. no_way cut.way NotFound))
      (λ t. no_way cut.way NoSuchNumber)))
      (λ t. no_way cut.way Malformed)))
      (λ t. no_way cut.way Unsupported)
