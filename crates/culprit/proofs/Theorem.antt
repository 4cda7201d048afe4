-- What the answer is (document 02, Wish 12), in its words: a glyph is the smallest kept one but 0 without which the traced subset has way 0; none stands
-- where the way was not 1, and where it was 1 exactly where no single kept glyph but 0 does this. A traced cut is the subset call with what was traced.
use Rattle.std.specs.Prelude.{ℕ, ◌-◌, ◌<◌, ◌≡◌, Bool, List, ◌⊎◌, ltb, length, get_or, Result, Ok, Err, Option, Some, None}
use Rattle.std.proofs.Math.Path.{refl, ap}
use Rattle.std.proofs.Common.{sym, ◌∙◌, ⊎_elim, arith}
use Rattle.std.proofs.Math.Bool.{true, false}
use Rattle.octets.specs.Pick.{pick}
use Rattle.octets.specs.PickLaws.{both_hold}
use Rattle.octets.specs.Lists.{all_below}
use Rattle.octets.specs.ListLaws.{below_at}
use Rattle.prune.specs.StepLaws.{zero_one}
use Rattle.dict.specs.Lookup.{ros_in, cid_keyed}
use Rattle.cff.specs.Font.{Program, read_font}
use Rattle.cff.specs.Find.{work_size}
use Rattle.subset.specs.Kept.{is_in, those, kept_of}
use Rattle.subset.specs.KeptListLaws.{in_place}
use Rattle.subset.specs.Cut.{Outcome, refused, subset, all_found_lem, has_ros_lem, same_bool_lem, unsupported_in, cut_read, cut_with, cut_of}
use Rattle.traced.specs.Traced.{Traced, refused as refusedTrace, traced, met_all, answered, trace_program, trace_read, trace_of}
use Rattle.culprit.specs.Culprit.{cut_traced, traced_cut, without, has_way, is_culprit, first_of, least_culprit, answer_by, culprit_in, passes_nine, uses_read, uses_lent}
use Rattle.culprit.proofs.CulpritLaws.{first_is, first-none, none_first}
use Rattle.refusal.specs.declared.Refusal.{Refusal}
use Rattle.refusal.specs.declared.Refusal.TheVariants.{Malformed, Unsupported, TooLong, NoSuchNumber, NotFound, Subset, StringId}
use Rattle.subset.specs.Way.{is_stubbed}
use Rattle.subset.specs.declared.Way.{Way}
use Rattle.subset.specs.declared.Way.TheVariants.{Renumbered, Stubbed, Copied}

-- ---- the subset call

-- where the trace is not refused, the outcome is that of the subset call by the font's keying with what was traced
pub traced_call : (font name keep : List ℕ) (words lent : ℕ) (p : Program) → read_font font ≡ Ok p → (flag : ℕ) (rec : List ℕ) → trace_of font keep lent ≡ traced flag rec
    → traced_cut p name keep words lent ≡ cut_of (cid_keyed p.top) false font name keep rec flag words 67108864
unfolding traced_cut cut_with trace_of
traced_call font name keep words lent p is flag rec e =
    let t : trace_program p keep lent ≡ traced flag rec = ap (λ (g : Result Program Refusal). trace_read g keep lent) (sym is) ∙ e in
    ap (λ (x : Traced). pick (unsupported_in false p) (refused Unsupported) (pick (pick (cid_keyed p.top) (has_ros_lem (ros_in p.top)) true) (pick (ltb 65535 (length name)) (refused TooLong) (cut_traced p name keep words x)) (refused Malformed))) t
    ∙ same-again (cid_keyed p.top) (unsupported_in false p) (pick (cid_keyed p.top) (has_ros_lem (ros_in p.top)) true) (ltb 65535 (length name)) _
    ∙ sym (ap (λ (g : Result Program Refusal). cut_read work_size (cid_keyed p.top) false g name keep rec flag words 67108864) is)
  where
    same-again : (a s b c : Bool) (o : Outcome)
        → pick s (refused Unsupported) (pick b (pick c (refused TooLong) (pick (same_bool_lem a a) (pick s (refused Unsupported) (pick b (pick c (refused TooLong) o) (refused Malformed))) (refused Unsupported))) (refused Malformed))
        ≡ pick (same_bool_lem a a) (pick s (refused Unsupported) (pick b (pick c (refused TooLong) o) (refused Malformed))) (refused Unsupported)
    same-again true true b c o = refl
    same-again true false true true o = refl
    same-again true false true false o = refl
    same-again true false false c o = refl
    same-again false true b c o = refl
    same-again false false true true o = refl
    same-again false false true false o = refl
    same-again false false false c o = refl

-- an outcome that has a way is a subset
pub has-way : (w : Way) (o : Outcome) → has_way w o ≡ true → (bs : List ℕ) × (o ≡ subset w bs)
has-way w (refused n) e = absurd (zero_one cc)
has-way w (subset way bs) e = (bs, ap (λ (k : Way). subset k bs) (same-way w way bs e))
  where
    same-way : (w way : Way) (bs : List ℕ) → has_way w (subset way bs) ≡ true → way ≡ w
    same-way Renumbered Renumbered bs e = refl
    same-way Renumbered Stubbed bs e = absurd (zero_one cc)
    same-way Renumbered Copied bs e = absurd (zero_one cc)
    same-way Stubbed Renumbered bs e = absurd (zero_one cc)
    same-way Stubbed Stubbed bs e = refl
    same-way Stubbed Copied bs e = absurd (zero_one cc)
    same-way Copied Renumbered bs e = absurd (zero_one cc)
    same-way Copied Stubbed bs e = absurd (zero_one cc)
    same-way Copied Copied bs e = refl

-- what is lent is used with refusal 12 and with 10, as it is with an answer
pub twelve_uses : (font name keep : List ℕ) (words lent : ℕ) (p : Program) → read_font font ≡ Ok p
    → (n : Refusal) → (n ≡ StringId) ⊎ (n ≡ Subset) → traced_cut p name keep words lent ≡ refused n → uses_lent font name keep words lent ≡ true
unfolding uses_lent
twelve_uses font name keep words lent p is n e o =
    ap (λ (g : Result Program Refusal). uses_read g name keep words lent) is ∙ ap passes_nine o
    ∙ ⊎_elim (λ z. ap (λ (k : Refusal). passes_nine (refused k)) z) (λ z. ap (λ (k : Refusal). passes_nine (refused k)) z) e

-- ---- the answer

module _ (p : Program) (name keep : List ℕ) (words lent : ℕ) where
  -- the traced cut of a list
  abbrev cut : List ℕ → Outcome
  cut l = traced_cut p name l words lent

  -- the smallest kept glyph but 0 without which the way is 0
  pub record Least (g : ℕ) : Type 0 where
    pub stubbed : has_way Stubbed (cut keep) ≡ true
    pub above : 0 < g
    pub kept : is_in g keep ≡ true
    pub frees : has_way Renumbered (cut (without g keep)) ≡ true
    pub least : (h : ℕ) → 0 < h → h < g → is_in h keep ≡ true → has_way Renumbered (cut (without h keep)) ≡ false

  by_way : (o : Outcome) (c : Option ℕ) (g : ℕ) → answer_by o c ≡ Ok (Some g) → (has_way Stubbed o ≡ true) × (c ≡ Some g)
  by_way (refused n) c g e = absurd (zero_one cc)
  by_way (subset way bs) c g e = go (is_stubbed way) refl e
    where
      go : (t : Bool) → is_stubbed way ≡ t → ◌≡◌ {A = Result (Option ℕ) Refusal} (Ok (pick t c None)) (Ok (Some g)) → (is_stubbed way ≡ true) × (c ≡ Some g)
      go true q k = (q, cc)
      go false q k = absurd (zero_one cc)

  not_culprit : (h : ℕ) → is_culprit p name keep words lent h ≡ false → is_in h keep ≡ true → has_way Renumbered (cut (without h keep)) ≡ false
  unfolding is_culprit
  not_culprit h e i = ap (λ (t : Bool). pick t (has_way Renumbered (cut (without h keep))) false) (sym i) ∙ e

  -- a glyph that is answered
  pub blocking_least : (g : ℕ) → culprit_in p name keep words lent ≡ Ok (Some g) → Least g
  unfolding culprit_in least_culprit is_culprit
  blocking_least g e =
      let w = by_way (cut keep) (least_culprit p name keep words lent) g e in
      let f = first_is (is_culprit p name keep words lent) (length p.charstrings - 1) 1 g w.1 in
      let b = both_hold (is_in g keep) (has_way Renumbered (cut (without g keep))) f.2 in
      record {
        stubbed = w.0;
        above = f.0;
        kept = b.0;
        frees = b.1;
        least = λ h l m i. not_culprit h (f.3 h l m) i;
      }

  -- the call behind the test of the numbers
  abbrev rest : Bool → Outcome
  rest d =
      cut_traced p name keep words
      (pick d (pick (all_found_lem p (kept_of (length p.charstrings) keep)) (answered lent (met_all p (kept_of (length p.charstrings) keep))) (refusedTrace NotFound)) (refusedTrace NoSuchNumber))

  -- a list that is not refused has numbers of glyphs alone
  pub not_six : (way : Way) → has_way way (cut keep) ≡ true → all_below (length p.charstrings) keep ≡ true
  unfolding traced_cut
  not_six way e = by (unsupported_in false p) (pick (cid_keyed p.top) (has_ros_lem (ros_in p.top)) true) (ltb 65535 (length name)) (all_below (length p.charstrings) keep) refl e
    where
      by : (s b c d : Bool) → all_below (length p.charstrings) keep ≡ d
          → has_way way (pick s (refused Unsupported) (pick b (pick c (refused TooLong) (rest d)) (refused Malformed))) ≡ true → all_below (length p.charstrings) keep ≡ true
      by s b c true q k = q
      by true b c false q k = absurd (zero_one cc)
      by false true true false q k = absurd (zero_one cc)
      by false true false false q k = absurd (zero_one cc)
      by false false c false q k = absurd (zero_one cc)

  -- the way was not 1
  pub other_way : (way : Way) (bs : List ℕ) → cut keep ≡ subset way bs → is_stubbed way ≡ false → culprit_in p name keep words lent ≡ Ok None
  unfolding culprit_in
  other_way way bs e n = ap (λ (o : Outcome). answer_by o (least_culprit p name keep words lent)) e ∙ ap (λ (t : Bool). Ok (pick t (least_culprit p name keep words lent) None)) n

  -- a refusal is answered as it is
  pub refusal-answered : (n : Refusal) → cut keep ≡ refused n → culprit_in p name keep words lent ≡ Err n
  unfolding culprit_in
  refusal-answered n e = ap (λ (o : Outcome). answer_by o (least_culprit p name keep words lent)) e

  module _ (one : has_way Stubbed (cut keep) ≡ true) where
    answered-by : (o : Outcome) → has_way Stubbed o ≡ true → (c : Option ℕ) → answer_by o c ≡ Ok c
    answered-by (refused n) h c = absurd (zero_one cc)
    answered-by (subset way bs) h c = ap (λ (t : Bool). Ok (pick t c None)) h

    pub is_least : culprit_in p name keep words lent ≡ Ok (first_of (those (is_culprit p name keep words lent) (length p.charstrings - 1) 1))
    unfolding culprit_in least_culprit
    is_least = answered-by (cut keep) one (least_culprit p name keep words lent)

    -- none: no kept glyph but 0 does this
    pub blocking_none : culprit_in p name keep words lent ≡ Ok None → (h : ℕ) → 0 < h → is_in h keep ≡ true → has_way Renumbered (cut (without h keep)) ≡ false
    blocking_none e h l i =
        let at = in_place keep h i in
        let below : get_or keep at.0 0 < length p.charstrings = below_at (length p.charstrings) keep (not_six Stubbed one) at.0 at.1 in
        let none : first_of (those (is_culprit p name keep words lent) (length p.charstrings - 1) 1) ≡ None = inside (sym is_least ∙ e) in
        not_culprit h (first-none (is_culprit p name keep words lent) (length p.charstrings - 1) 1 none h l (omega (arith, below, at.2))) i
      where
        inside : {a b : Option ℕ} → ◌≡◌ {A = Result (Option ℕ) Refusal} (Ok a) (Ok b) → a ≡ b
        inside q = cc

    -- and conversely
    pub none_blocking : ((h : ℕ) → 0 < h → is_in h keep ≡ true → has_way Renumbered (cut (without h keep)) ≡ false) → culprit_in p name keep words lent ≡ Ok None
    unfolding is_culprit
    none_blocking f =
        is_least ∙ ap Ok (none_first (is_culprit p name keep words lent) (length p.charstrings - 1) 1 (λ h l m. fails h (is_in h keep) refl (f h l)))
      where
        fails : (h : ℕ) (t : Bool) → is_in h keep ≡ t → (is_in h keep ≡ true → has_way Renumbered (cut (without h keep)) ≡ false) → pick (is_in h keep) (has_way Renumbered (cut (without h keep))) false ≡ false
        fails h true q k = ap (λ (b : Bool). pick b (has_way Renumbered (cut (without h keep))) false) q ∙ k q
        fails h false q k = ap (λ (b : Bool). pick b (has_way Renumbered (cut (without h keep))) false) q
