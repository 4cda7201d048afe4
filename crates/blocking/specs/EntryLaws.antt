-- Laws of the entry: a refusal before the work words are used leaves all as it was; behind it the first W words and the record slice end as zeros. How many
-- words are lent beyond W does not matter.
use Rattle.std.specs.Prelude.{ℕ, ◌+◌, ◌-◌, ◌*◌, ◌≤◌, ◌≡◌, Bool, true, ltb, length, take, replicate, None, Option, Some, Result, Ok, Err}
use Rattle.std.proofs.Math.Path.{refl, sym, ap}
use Rattle.std.proofs.Common.{◌∙◌, subst, arith, length-take-le}
use Rattle.std.proofs.Math.Bool.{false}
use mathlib.Core.List.{List, ◌++◌}
use borrow.Author.Tests.{le-ltb, ltb-false}
use Rattle.std.proofs.Math.ListN.{drop}
use Rattle.octets.specs.Pick.{pick, pick_ind}
use Rattle.bits.specs.Bits.{words_for}
use Rattle.octets.specs.Octets.{Octets}
use Rattle.octets.specs.Lists.{all_below}
use Rattle.unfold.specs.Unfold.{Row}
use Rattle.prune.specs.StepLaws.{zero_one}
use Rattle.record.specs.Record.{rows_of, record_fine}
use Rattle.dict.specs.Lookup.{ros_in, cid_keyed}
use Rattle.cff.specs.Font.{Program, read_font}
use Rattle.cff.specs.Find.{work_size}
use Rattle.cff.specs.Reads.{program_of}
use Rattle.cff.specs.File.{InFile}
use Rattle.cff.specs.declared.font.Font.{Font}
use Rattle.subset.specs.Kept.{is_in, kept_of, written_order, used_fds}
use Rattle.subset.specs.KeptListLaws.{those-same}
use Rattle.subset.specs.Pruned.{pruned}
use Rattle.subset.specs.Codes.{coded_if}
use Rattle.subset.specs.Subset.{subset_bytes}
use Rattle.subset.specs.Cut.{Outcome, refused, subset, all_found_lem, has_ros_lem, unsupported_in, own_of, zeros}
use Rattle.outcome.specs.Entry.{answer_of, cut_behind}
use Rattle.early_refusals.specs.RefusalLaws.{work_is}
use Rattle.write.specs.EntryLaws.{unless_refused, program-cut, zeros_are}
use Rattle.traced.specs.Traced.{Traced, refused as refusedTrace, traced, record_of, met_all, answered, trace_program, trace_read, trace_of}
use Rattle.traced.proofs.Theorem.{trace_fine}
use Rattle.culprit.specs.Culprit.{cut_traced, traced_cut, without, has_way, is_culprit, first_of, least_culprit, answer_by, culprit_in, culprit_read, culprit_of, passes_nine, uses_read, uses_lent, words_in, Blocks}
use Rattle.culprit.proofs.Theorem.{not_six, is_least, other_way, has-way}
use Rattle.early_traced.specs.Early.{refused_or, early_of}
use Rattle.blocking.specs.Search.{CanCut}
use Rattle.blocking.specs.CutLaws.{trace_passes, nine-left, cut-behind}
use Rattle.outcome.specs.declared.Subsetted.{Subsetted}
use Rattle.refusal.specs.declared.Refusal.{Refusal}
use Rattle.refusal.specs.declared.Refusal.TheVariants.{Malformed, Unsupported, TooLong, NoSuchNumber, NotFound, Work, Subset, Output, StringId, Pairs}
use Rattle.subset.specs.Way.{is_stubbed}
use Rattle.subset.specs.declared.Way.{Way}
use Rattle.subset.specs.declared.Way.TheVariants.{Renumbered, Stubbed, Copied}

-- ---- words beyond W

module _ (p : Program) (name : List ℕ) (w₁ w₂ lent : ℕ) (h₁ : work_size p ≤ w₁) (h₂ : work_size p ≤ w₂) where
  pub cut-words : (keep : List ℕ) → traced_cut p name keep w₁ lent ≡ traced_cut p name keep w₂ lent
  unfolding traced_cut
  cut-words keep =
      ap (λ (o : Outcome). pick (unsupported_in false p) (refused Unsupported) (pick (pick (cid_keyed p.top) (has_ros_lem (ros_in p.top)) true) (pick (ltb 65535 (length name)) (refused TooLong) o) (refused Malformed)))
      (by (trace_program p keep lent))
    where
      by : (t : Traced) → cut_traced p name keep w₁ t ≡ cut_traced p name keep w₂ t
      by (refusedTrace n) = refl
      by (traced flag rec) =
          let a = le-ltb w₁ (work_size p) h₁ in
          let b = le-ltb w₂ (work_size p) h₂ in
          rw (a, b)

  pub culprit_words : (keep : List ℕ) → culprit_in p name keep w₁ lent ≡ culprit_in p name keep w₂ lent
  unfolding culprit_in least_culprit is_culprit
  culprit_words keep =
      ap (λ (o : Outcome). answer_by o (least_culprit p name keep w₁ lent)) (cut-words keep)
      ∙ ap (λ (l : List ℕ). answer_by (traced_cut p name keep w₂ lent) (first_of l))
      (those-same (is_culprit p name keep w₁ lent) (is_culprit p name keep w₂ lent) (length p.charstrings - 1) 1
      (λ g h. ap (λ (o : Outcome). pick (is_in g keep) (has_way Renumbered o) false) (cut-words (without g keep))))

-- ---- the early refusals

-- a refusal that is another one
other : (m n : Refusal) → passes_nine (refused m) ≡ false → ◌≡◌ {A = Result Unit Refusal} (Err m) (Err n) → (refused m ≡ refused n) × (passes_nine (refused n) ≡ false)
other m n h e = let z : m ≡ n = cc in (ap refused z, ap (λ (k : Refusal). passes_nine (refused k)) (sym z) ∙ h)

-- those of a trace
trace_low : (p : Program) (keep : List ℕ) (lent : ℕ) (n : Refusal) → trace_program p keep lent ≡ refusedTrace n → passes_nine (refused n) ≡ false
trace_low p keep lent n e =
    by (all_below (length p.charstrings) keep) (all_found_lem p (kept_of (length p.charstrings) keep)) (met_all p (kept_of (length p.charstrings) keep)) e
  where
    low : (m : Refusal) → passes_nine (refused m) ≡ false → refusedTrace m ≡ refusedTrace n → passes_nine (refused n) ≡ false
    low m h q = let z : m ≡ n = cc in ap (λ (k : Refusal). passes_nine (refused k)) (sym z) ∙ h

    by : (d f : Bool) (m : Option (List Row)) → pick d (pick f (answered lent m) (refusedTrace NotFound)) (refusedTrace NoSuchNumber) ≡ refusedTrace n → passes_nine (refused n) ≡ false
    by false f m h = low NoSuchNumber refl h
    by true false m h = low NotFound refl h
    by true true None h = absurd (zero_one cc)
    by true true (Some rows) h =
        pick_ind (λ t. t ≡ refusedTrace n → passes_nine (refused n) ≡ false) (ltb lent (length (record_of rows))) (refusedTrace Output) (traced 1 (record_of rows))
        (λ q k. low Output refl k)
        (λ q k. absurd (zero_one cc))
        h

module _ (p : Program) (name keep : List ℕ) (words lent : ℕ)
    (fine : (flag : ℕ) (rec : List ℕ) → trace_program p keep lent ≡ traced flag rec → record_fine (cid_keyed p.top) rec flag ≡ true) where
  abbrev early : Result Unit Refusal
  early = early_of p (length name) keep words lent

  abbrev ros : Bool
  ros = pick (cid_keyed p.top) (has_ros_lem (ros_in p.top)) true

  -- 9, or none
  abbrev last : Result Unit Refusal
  last = pick (ltb words (work_size p)) (Err Work) (Ok tt)

  -- by what the trace says
  by_tests : (s b c : Bool) (r : Result Unit Refusal) (o : Outcome) (n : Refusal)
      → (s ≡ false → b ≡ true → c ≡ false → r ≡ Err n → (o ≡ refused n) × (passes_nine (refused n) ≡ false))
      → pick s (Err Unsupported) (pick b (pick c (Err TooLong) r) (Err Malformed)) ≡ Err n
      → (pick s (refused Unsupported) (pick b (pick c (refused TooLong) o) (refused Malformed)) ≡ refused n) × (passes_nine (refused n) ≡ false)
  by_tests true b c r o n f h = other Unsupported n refl h
  by_tests false false c r o n f h = other Malformed n refl h
  by_tests false true true r o n f h = other TooLong n refl h
  by_tests false true false r o n f h = f refl refl refl h

  nine_low : (w : Bool) (n : Refusal) → ◌≡◌ {A = Result Unit Refusal} (pick w (Err Work) (Ok tt)) (Err n) → passes_nine (refused n) ≡ false
  nine_low true n h = (other Work n refl h).1
  nine_low false n h = absurd (zero_one cc)

  by_trace : (t : Traced) → trace_program p keep lent ≡ t → unsupported_in false p ≡ false → ros ≡ true → ltb 65535 (length name) ≡ false
      → (n : Refusal) → refused_or t last ≡ Err n → (cut_traced p name keep words t ≡ refused n) × (passes_nine (refused n) ≡ false)
  by_trace (refusedTrace m) e x y z n h = other m n (trace_low p keep lent m e) h
  by_trace (traced flag rec) e x y z n h = (
    program-cut work_size (cid_keyed p.top) false p name keep rec flag words 67108864
        ∙ ap (λ (r : Result Unit Refusal). unless_refused r (cut_behind false p name keep rec flag 67108864))
        (nine-left p (length name) keep rec flag words lent x y z (trace_passes p keep lent flag rec e) (fine flag rec e) ∙ h),
    nine_low (ltb words (work_size p)) n h,
  )

  -- refused, with nothing used
  pub early-refuses : (n : Refusal) → early ≡ Err n → (traced_cut p name keep words lent ≡ refused n) × (passes_nine (refused n) ≡ false)
  unfolding early_of traced_cut
  early-refuses n h =
      by_tests (unsupported_in false p) ros (ltb 65535 (length name)) (refused_or (trace_program p keep lent) last) (cut_traced p name keep words (trace_program p keep lent)) n
      (λ x y z e. by_trace (trace_program p keep lent) refl x y z n e) h

  -- not refused: the tests are passed, and the trace is not refused
  module _ (passed : early ≡ Ok tt) where
    passed_tests : (s b c : Bool) (r : Result Unit Refusal) → pick s (Err Unsupported) (pick b (pick c (Err TooLong) r) (Err Malformed)) ≡ Ok tt
        → (s ≡ false) × (b ≡ true) × (c ≡ false) × (r ≡ Ok tt)
    passed_tests true b c r e = absurd (zero_one cc)
    passed_tests false false c r e = absurd (zero_one cc)
    passed_tests false true true r e = absurd (zero_one cc)
    passed_tests false true false r e = (refl, refl, refl, e)

    tests : (unsupported_in false p ≡ false) × (ros ≡ true) × (ltb 65535 (length name) ≡ false) × (refused_or (trace_program p keep lent) last ≡ Ok tt)
    unfolding early_of
    tests = passed_tests (unsupported_in false p) ros (ltb 65535 (length name)) (refused_or (trace_program p keep lent) last) passed

    -- what the trace hands on
    record Told : Type 0 where
      flag : ℕ
      rec : List ℕ
      is : trace_program p keep lent ≡ traced flag rec
      enough : work_size p ≤ words

    told : Told
    told = by (trace_program p keep lent) refl tests.3
      where
        few : (w : Bool) → ltb words (work_size p) ≡ w → ◌≡◌ {A = Result Unit Refusal} (pick w (Err Work) (Ok tt)) (Ok tt) → work_size p ≤ words
        few true q e = absurd (zero_one cc)
        few false q e = ltb-false words (work_size p) q

        by : (t : Traced) → trace_program p keep lent ≡ t → refused_or t last ≡ Ok tt → Told
        by (refusedTrace n) q e = absurd (zero_one cc)
        by (traced flag rec) q e = record { flag = flag; rec = rec; is = q; enough = few (ltb words (work_size p)) refl e }

    pub early_can : CanCut p (length name) words
    early_can = record { supported = tests.0; ros = tests.1; named = ltb-false 65535 (length name) tests.2; room = told.enough }

    -- behind 9 the outcome is 12, 10 or a subset: no encoding is asked for, and 10 comes before 11
    pub early-passes : passes_nine (traced_cut p name keep words lent) ≡ true
    early-passes =
        let t = told in
        let kept = kept_of (length p.charstrings) keep in
        let order = written_order p kept in
        let q = pruned p (rows_of t.rec) (used_fds p kept) order t.flag in
        let bytes = subset_bytes p (coded_if false p kept (own_of p order)) name kept order q.bodies in
        ap passes_nine (cut-behind p name keep words lent early_can t.flag t.rec t.is (fine t.flag t.rec t.is))
        ∙ past (ltb 64609 (length (own_of p order))) (ltb 67108864 (length bytes)) q.way bytes
      where
        past : (a b : Bool) (way : Way) (bs : List ℕ)
            → passes_nine (pick a (refused StringId) (pick (ltb 255 0) (refused Pairs) (pick b (refused Subset) (pick b (refused Output) (subset way bs))))) ≡ true
        past true b way bs = refl
        past false true way bs = refl
        past false false way bs = refl

-- ---- the answer by the outcome of the whole list

-- a subset has its own way
own-way : (w : Way) (bs : List ℕ) → has_way w (subset w bs) ≡ true
own-way Renumbered bs = refl
own-way Stubbed bs = refl
own-way Copied bs = refl

is-stubbed : (w : Way) → is_stubbed w ≡ true → w ≡ Stubbed
is-stubbed Renumbered e = absurd (zero_one cc)
is-stubbed Stubbed e = refl
is-stubbed Copied e = absurd (zero_one cc)

module _ (p : Program) (name keep : List ℕ) (words lent : ℕ) where
  -- refused
  pub answers_refused : (n : Refusal) (a : Result Subsetted Refusal) → a ≡ answer_of (traced_cut p name keep words lent) → a ≡ Err n → Err n ≡ culprit_in p name keep words lent
  unfolding culprit_in
  answers_refused n a h e = by (traced_cut p name keep words lent) (sym e ∙ h)
    where
      by : (o : Outcome) → Err n ≡ answer_of o → Err n ≡ answer_by o (least_culprit p name keep words lent)
      by (refused m) q = let z : n ≡ m = cc in ap Err z
      by (subset way bs) q = absurd (zero_one cc)

  module _ (c : Subsetted) (a : Result Subsetted Refusal) (h : a ≡ answer_of (traced_cut p name keep words lent)) (e : a ≡ Ok c) where
    has : has_way c.way (traced_cut p name keep words lent) ≡ true
    has = by (traced_cut p name keep words lent) (sym e ∙ h)
      where
        by : (o : Outcome) → Ok c ≡ answer_of o → has_way c.way o ≡ true
        by (refused m) q = absurd (zero_one cc)
        by (subset w bs) q =
            let z : c ≡ record { way = w; len = length bs } = cc in
            subst (λ (v : Way). has_way c.way (subset v bs) ≡ true) (ap (λ (x : Subsetted). x.way) z) (own-way c.way bs)

    -- stubbed
    pub stubbed-below : all_below (length p.charstrings) keep ≡ true
    stubbed-below = not_six p name keep words lent c.way has

    pub answers_least : is_stubbed c.way ≡ true → (r : Option ℕ) → r ≡ least_culprit p name keep words lent → Ok r ≡ culprit_in p name keep words lent
    unfolding least_culprit
    answers_least one r q = ap Ok q ∙ sym (is_least p name keep words lent (subst (λ (w : Way). has_way w (traced_cut p name keep words lent) ≡ true) (is-stubbed c.way one) has))

    -- another way
    pub answers_none : is_stubbed c.way ≡ false → Ok None ≡ culprit_in p name keep words lent
    answers_none n =
        let w = has-way c.way (traced_cut p name keep words lent) has in
        sym (other_way p name keep words lent c.way w.0 w.1 n)

-- ---- the entry

module _ (font name keep work slice : List ℕ) where
  abbrev lent : ℕ
  lent = length slice

  -- a font that is not read
  pub unread_blocks : (n : Refusal) → read_font font ≡ Err n → Blocks font name keep work slice work slice (Err n)
  unfolding culprit_of uses_lent
  unread_blocks n e =
      let u : uses_lent font name keep (length work) lent ≡ false = ap (λ (g : Result Program Refusal). uses_read g name keep (length work) lent) e in
      record {
        answers = sym (ap (λ (g : Result Program Refusal). culprit_read g name keep (length work) lent) e);
        words = sym (ap (λ (t : Bool). pick t (zeros (words_in (read_font font)) ++ drop (words_in (read_font font)) work) work) u);
        bytes = sym (ap (λ (t : Bool). pick t (zeros lent) slice) u);
      }

  module _ (octets : Octets font) (f : Font) (b : List ℕ) (held : InFile font f b) where
    abbrev p : Program
    p = program_of b f

    fine : (flag : ℕ) (rec : List ℕ) → trace_program p keep lent ≡ traced flag rec → record_fine (cid_keyed p.top) rec flag ≡ true
    unfolding trace_of
    fine flag rec e = trace_fine font keep lent octets p held.is flag rec (ap (λ (g : Result Program Refusal). trace_read g keep lent) held.is ∙ e)

    answer_is : culprit_of font name keep (length work) lent ≡ culprit_in p name keep (length work) lent
    unfolding culprit_of
    answer_is = ap (λ (g : Result Program Refusal). culprit_read g name keep (length work) lent) held.is

    use_is : uses_lent font name keep (length work) lent ≡ passes_nine (traced_cut p name keep (length work) lent)
    unfolding uses_lent
    use_is = ap (λ (g : Result Program Refusal). uses_read g name keep (length work) lent) held.is

    module _ (r : Result Unit Refusal) (asked : r ≡ early_of p (length name) keep (length work) lent) where
      -- refused before the words are used
      pub early_blocks : (n : Refusal) → r ≡ Err n → Blocks font name keep work slice work slice (Err n)
      unfolding culprit_in
      early_blocks n h =
          let x = early-refuses p name keep (length work) lent fine n (sym asked ∙ h) in
          let u : uses_lent font name keep (length work) lent ≡ false = use_is ∙ ap passes_nine x.0 ∙ x.1 in
          record {
            answers = sym (answer_is ∙ ap (λ (o : Outcome). answer_by o (least_culprit p name keep (length work) lent)) x.0);
            words = sym (ap (λ (t : Bool). pick t (zeros (words_in (read_font font)) ++ drop (words_in (read_font font)) work) work) u);
            bytes = sym (ap (λ (t : Bool). pick t (zeros lent) slice) u);
          }

      module _ (passed : r ≡ Ok tt) where
        not_early : early_of p (length name) keep (length work) lent ≡ Ok tt
        not_early = sym asked ∙ passed

        all_can : CanCut p (length name) (length work)
        all_can = early_can p name keep (length work) lent fine not_early

        module _ (w : ℕ) (size : w ≡ 2 * f.charstrings.count + words_for f.globals.count + f.words) where
          wide : w ≡ work_size p
          wide = size ∙ work_is b f held.good

          -- the first W words are there
          pub words_there : w ≤ length work
          words_there = omega (arith, wide, all_can.room)

          pub words-taken : w ≡ length (take w work)
          words-taken = sym (length-take-le w work words_there)

          -- what the search by them asks
          pub words_can : CanCut p (length name) (length (take w work))
          words_can = record { supported = all_can.supported; ros = all_can.ros; named = all_can.named; room = omega (arith, wide, words-taken) }

          -- answered by them, which are then cleared, as the slice is
          pub late_blocks : (x : Result (Option ℕ) Refusal) (used cleared left bytes : List ℕ) → x ≡ culprit_in p name keep (length (take w work)) lent → length used ≡ length (take w work)
              → cleared ≡ replicate (length used) 0 → length left ≡ lent → bytes ≡ replicate (length left) 0
              → Blocks font name keep work slice (cleared ++ drop w work) bytes x
          late_blocks x used cleared left bytes a m c k d =
              let u : uses_lent font name keep (length work) lent ≡ true = use_is ∙ early-passes p name keep (length work) lent fine not_early in
              record {
                answers = a ∙ culprit_words p name (length (take w work)) (length work) lent (omega (arith, wide, words-taken)) all_can.room keep ∙ sym answer_is;
                words =
                    ap (λ (l : List ℕ). l ++ drop w work) (c ∙ ap (λ (j : ℕ). replicate j 0) (m ∙ sym words-taken) ∙ zeros_are w)
                    ∙ ap (λ (j : ℕ). zeros j ++ drop j work) (wide ∙ sym (ap words_in held.is))
                    ∙ sym (ap (λ (t : Bool). pick t (zeros (words_in (read_font font)) ++ drop (words_in (read_font font)) work) work) u);
                bytes =
                    d ∙ ap (λ (j : ℕ). replicate j 0) k ∙ zeros_are lent ∙ sym (ap (λ (t : Bool). pick t (zeros lent) slice) u);
              }
