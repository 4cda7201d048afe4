-- Laws of the answer: the record by its keys, refusals 11, 6 and 7, and what the entry promises.
use Rattle.std.specs.Prelude.{ℕ, ◌-◌, ◌*◌, ◌/◌, ◌≤◌, ◌<◌, ◌≡◌, refl, Bool, true, false, not, List, [], length, take, None, Option, Some, Result, Err}
use Rattle.std.proofs.Common.{sym, ◌∙◌, subst, arith, lt-ltb, le-ltb}
use Rattle.std.proofs.Math.Path.{ap}
use Rattle.octets.specs.Pick.{pick}
use Rattle.octets.specs.Octets.{Wrote}
use Rattle.octets.specs.PutLaws.{put_nil, wrote_as}
use Rattle.octets.specs.Lists.{all_below}
use Rattle.index.specs.IndexLaws.{items-length}
use Rattle.unfold.specs.Unfold.{Row}
use Rattle.prune.specs.StepLaws.{zero_one}
use Rattle.cff.specs.Font.{Program, read_font}
use Rattle.cff.specs.Reads.{program_of, GoodFont}
use Rattle.cff.specs.File.{InFile}
use Rattle.cff.specs.declared.font.Font.{Font}
use Rattle.subset.specs.Kept.{keeps, kept_of}
use Rattle.subset.specs.Cut.{all_found_lem}
use Rattle.kept.specs.Packed.{Marks}
use Rattle.kept.specs.OrderLaws.{kept-marked}
use Rattle.row_window.specs.Window.{gathered, within, Gathers}
use Rattle.row_window.specs.Key.{keys_bytes}
use Rattle.row_window.specs.KeyLaws.{keys_length}
use Rattle.row_window.specs.NextLaws.{within_all, window-whole}
use Rattle.traced.specs.Traced.{met_all, record_of, Traced, refused, traced, answered, trace_read, trace_of, traced_as, leaves_record, Traces, a_record}
use Rattle.traced.proofs.RowLaws.{record-keys}
use Rattle.tracer.specs.Met.{met_in, or_none, Plainly}
use Rattle.tracer.specs.Tracing.{top, met, keys_of, sorted, Filling, Fills, Shown, Counted, Answers, kept_answer}
use Rattle.tracer.specs.WindowsLaws.{rows_fit, keys-below, refill-plain, shows_first, shows-last}
use Rattle.tracer.specs.declared.marked.Marked.{Marked}
use Rattle.tracer.specs.declared.marked.Plain.{Plain}
use Rattle.traced.specs.declared.Recorded.{Recorded}
use Rattle.refusal.specs.declared.Refusal.{Refusal}
use Rattle.refusal.specs.declared.Refusal.TheVariants.{NoSuchNumber, NotFound, Output}

-- ---- the record by its keys

module _ (p : Plain) where
  abbrev rows : List Row
  rows = or_none (met p.marked)

  record_is : record_of rows ≡ keys_bytes (sorted p)
  record_is = record-keys rows (rows_fit p.marked)

  record_long : length (record_of rows) ≡ 10 * length (sorted p)
  record_long = ap length record_is ∙ keys_length (sorted p)

  module _ (out : List ℕ) (room : ℕ) (is : room ≡ length out / 10) where
    -- too long
    pub answer_long : (n : ℕ) → n ≤ length (sorted p) → room < n → Answers (answered (length out) (met p.marked)) out out (Err Output)
    answer_long n l h =
        let e : answered (length out) (met p.marked) ≡ refused Output =
        ap (answered (length out)) p.plain.plain ∙ ap (λ (t : Bool). pick t (refused Output) (traced 1 (record_of rows)))
        (lt-ltb (length out) (length (record_of rows)) (omega (arith, record_long, is, l, h))) in
        subst (λ (t : Traced). Answers t out out (Err Output)) (sym e) (record { answers = refl; output = refl })

    -- written
    pub answer-written : length (sorted p) ≤ room → (out' : List ℕ) (len : ℕ) → Wrote out 0 (keys_bytes (sorted p)) out' len
        → Answers (answered (length out) (met p.marked)) out out' (a_record 1 len)
    answer-written h out' len w =
        let e : answered (length out) (met p.marked) ≡ traced 1 (keys_bytes (sorted p)) =
        ap (answered (length out)) p.plain.plain
        ∙ ap (λ (t : Bool). pick t (refused Output) (traced 1 (record_of rows))) (le-ltb (length out) (length (record_of rows)) (omega (arith, record_long, is, h)))
        ∙ ap (traced 1) record_is in
        let l : len ≡ length (keys_bytes (sorted p)) = omega (arith, w.behind) in
        subst (λ (t : Traced). Answers t out out' (a_record 1 len)) (sym e)
        (record { answers = ap (a_record 1) l; output = w.is })

    -- by windows
    pub more_room : (n : ℕ) → Counted (sorted p) room n → n ≤ room → 10 * length (sorted p) ≤ length out
    more_room n c h = omega (arith, c.whole h, is, h)

    -- by all keys
    module _ (keys : List ℕ) (all : keys ≡ sorted p) where
      pub one-past : room < length keys → Answers (answered (length out) (met p.marked)) out out (Err Output)
      one-past h = answer_long (length keys) (omega (arith, ap length all)) h

      pub one_written : length keys ≤ room → (out' : List ℕ) (len : ℕ) → Wrote out 0 (keys_bytes keys) out' len
          → Answers (answered (length out) (met p.marked)) out out' (a_record 1 len)
      one_written h out' len w = answer-written (omega (arith, ap length all)) out' len (wrote_as w (ap keys_bytes all))

-- a first window that is not full has all
pub windows_all : (ks keys : List ℕ) (n : ℕ) → Shown ks keys n → (n ≡ 64512 → ⊥) → take n keys ≡ gathered [] ks
windows_all ks keys n s h = sym (shows-last ks [] keys n s h)

pub windows-size : (ks keys : List ℕ) (n : ℕ) → Shown ks keys n → (n ≡ 64512 → ⊥) → n ≤ length keys
windows-size ks keys n s h = omega (arith, s.size, s.fits)

-- ---- the marked glyphs

module _ (m : Marked) (keys keys' : List ℕ) (a : Option ℕ) (w : Fills (met m) (record { low = 0; high = top }) keys keys' a) where
  -- one is not plain
  pub marked_broken : a ≡ None → (out : List ℕ) → Answers (answered (length out) (met m)) out out (a_record 0 0)
  marked_broken e out = by (met m) w.says
    where
      by : (x : Option (List Row)) → Filling x (record { low = 0; high = top }) keys keys' a → Answers (answered (length out) x) out out (a_record 0 0)
      by None x = record { answers = refl; output = sym (put_nil out 0) }
      by (Some q) x = let k : None ≡ Some x.0 = sym e ∙ x.1 in absurd (zero_one cc)

  -- all are
  module _ (n : ℕ) (e : a ≡ Some n) where
    pub all_plain : Plainly (met m)
    all_plain = record { plain = by (met m) w.says }
      where
        by : (x : Option (List Row)) → Filling x (record { low = 0; high = top }) keys keys' a → x ≡ Some (or_none x)
        by None x = let k : Some n ≡ None = sym e ∙ x in absurd (zero_one cc)
        by (Some q) x = refl

    abbrev all : Plain
    all = record { marked = m; plain = all_plain }

    pub marked-shown : length keys ≡ 65536 → Shown (keys_of all) keys' n
    marked-shown l = shows_first (keys_of all) keys keys' n (keys-below all) l (refill-plain all 0 keys keys' a w n e)

    -- a window that is not full has all
    pub marked-few : n < length keys - 1024 → take n keys' ≡ sorted all
    marked-few h =
        let g = refill-plain all 0 keys keys' a w n e in
        let ks = keys_of all in
        window-whole (length keys - 1024) n keys' (gathered [] (within 0 top ks)) g.window.fits h g.holds ∙ ap (gathered []) (within_all top ks (keys-below all))

    pub marked-size : n < length keys - 1024 → n ≤ length keys'
    marked-size h = (refill-plain all 0 keys keys' a w n e).window.fits

pub shown_as : (ks keys : List ℕ) (n m : ℕ) → n ≡ m → Shown ks keys n → Shown ks keys m
shown_as ks keys n m e s = subst (λ (k : ℕ). Shown ks keys k) e s

-- the window filled again from the start
pub shown-again : (p : Plain) (keys keys' : List ℕ) (n : ℕ) → length keys ≡ 65536 → Gathers (within 0 top (keys_of p)) keys keys' n → Shown (keys_of p) keys' n
shown-again p keys keys' n l g = shows_first (keys_of p) keys keys' n (keys-below p) l g

-- ---- the entry

was_false : (r : Bool) → not r ≡ true → r ≡ false
was_false true e = absurd (zero_one cc)
was_false false e = refl

was_true : (r : Bool) → not r ≡ false → r ≡ true
was_true true e = refl
was_true false e = absurd (zero_one cc)

traces_as : (b keep out out' : List ℕ) (r : Result Recorded Refusal) (t : Traced) → trace_of b keep (length out) ≡ t → Answers t out out' r → Traces b keep out out' r
traces_as b keep out out' r t e a = record { answers = a.answers ∙ ap traced_as (sym e); output = a.output ∙ ap (λ (x : Traced). leaves_record x out) (sym e) }

stays : (n : Refusal) (out : List ℕ) → Answers (refused n) out out (Err n)
stays n out = record { answers = refl; output = refl }

-- a font that is refused
pub trace_unread : (b keep out : List ℕ) (n : Refusal) → read_font b ≡ Err n → Traces b keep out out (Err n)
unfolding trace_of
trace_unread b keep out n e = traces_as b keep out out (Err n) (refused n) (ap (λ (g : Result Program Refusal). trace_read g keep (length out)) e) (stays n out)

module _ (file : List ℕ) (f : Font) (b : List ℕ) (held : InFile file f b) (keep out : List ℕ) where
  abbrev p : Program
  p = program_of b f

  abbrev glyphs : ℕ
  glyphs = length p.charstrings

  many : glyphs ≡ f.charstrings.count
  many = items-length b f.charstrings

  tested : trace_of file keep (length out) ≡ pick (all_below glyphs keep) (kept_answer p keep (length out)) (refused NoSuchNumber)
  unfolding trace_of
  tested = ap (λ (g : Result Program Refusal). trace_read g keep (length out)) held.is

  module _ (r₁ : Bool) (e₁ : r₁ ≡ all_below f.charstrings.count keep) where
    below : (t : Bool) → r₁ ≡ t → all_below glyphs keep ≡ t
    below t h = ap (λ (n : ℕ). all_below n keep) many ∙ sym e₁ ∙ h

    -- 6
    pub trace_number : not r₁ ≡ true → Traces file keep out out (Err NoSuchNumber)
    trace_number t =
        traces_as file keep out out (Err NoSuchNumber) (refused NoSuchNumber)
        (tested ∙ ap (λ (x : Bool). pick x (kept_answer p keep (length out)) (refused NoSuchNumber)) (below false (was_false r₁ t))) (stays NoSuchNumber out)

    pub trace_below : not r₁ ≡ false → all_below f.charstrings.count keep ≡ true
    trace_below t = sym e₁ ∙ was_true r₁ t

    -- the outcome behind it
    pub trace_done : not r₁ ≡ false → (out' : List ℕ) (r : Result Recorded Refusal) → Answers (kept_answer p keep (length out)) out out' r → Traces file keep out out' r
    trace_done t out' r a =
        traces_as file keep out out' r (kept_answer p keep (length out))
        (tested ∙ ap (λ (x : Bool). pick x (kept_answer p keep (length out)) (refused NoSuchNumber)) (below true (was_true r₁ t))) a

-- ---- the kept glyphs

module _ (b : List ℕ) (f : Font) (good : GoodFont b f) (keep out : List ℕ) (r : Bool) (e : r ≡ all_found_lem (program_of b f) (kept_of f.charstrings.count keep)) where
  abbrev q : Program
  q = program_of b f

  -- of so many glyphs
  abbrev kept_with : ℕ → Traced
  kept_with n = pick (all_found_lem q (kept_of n keep)) (answered (length out) (met_all q (kept_of n keep))) (refused NotFound)

  abbrev kept_when : Bool → Traced
  kept_when x = pick x (answered (length out) (met_all q (kept_of f.charstrings.count keep))) (refused NotFound)

  by_test : (x : Bool) → r ≡ x → kept_answer q keep (length out) ≡ kept_when x
  by_test x h = ap kept_with (items-length b f.charstrings) ∙ ap kept_when (sym e ∙ h)

  -- 7
  pub kept_missing : not r ≡ true → Answers (kept_answer q keep (length out)) out out (Err NotFound)
  kept_missing z = subst (λ (x : Traced). Answers x out out (Err NotFound)) (sym (by_test false (was_false r z))) (stays NotFound out)

  -- the kept glyphs are those that are marked
  pub kept-answered : not r ≡ false → (old marks : List ℕ) → Marks f.charstrings.count (keeps keep) old marks
      → (out' : List ℕ) (x : Result Recorded Refusal) → Answers (answered (length out) (met_in b f marks)) out out' x → Answers (kept_answer q keep (length out)) out out' x
  kept-answered z old marks m out' x a =
      subst (λ (y : Traced). Answers y out out' x)
      (ap (λ (gs : List ℕ). answered (length out) (met_all q gs)) (kept-marked b f good keep old marks m) ∙ sym (by_test true (was_true r z))) a
