-- Laws of the answer: what the marked glyphs meet, the conditions, and the refusals in their order.
use Rattle.std.specs.Prelude.{ℕ, ◌≡◌, refl, Bool, true, false, not, length, None, Option, Some, Result, Ok, Err}
use Rattle.std.proofs.Math.Path.{sym, ap}
use Rattle.std.proofs.Common.{◌∙◌}
use mathlib.Core.List.{List}
use Rattle.octets.specs.Pick.{pick}
use Rattle.octets.specs.Octets.{Octets}
use Rattle.octets.specs.Lists.{all_below}
use Rattle.index.specs.IndexLaws.{items-length}
use Rattle.unfold.specs.Unfold.{Row}
use Rattle.prune.specs.StepLaws.{zero_one}
use Rattle.record.specs.Record.{rows_of, record_fine}
use Rattle.dict.specs.Lookup.{cid_keyed}
use Rattle.cff.specs.Font.{Program, read_font}
use Rattle.cff.specs.Reads.{program_of, GoodFont}
use Rattle.cff.specs.File.{InFile}
use Rattle.cff.specs.declared.font.Font.{Font}
use Rattle.subset.specs.Kept.{those, keeps, kept_of, used_fds}
use Rattle.subset.specs.Cut.{all_found_lem}
use Rattle.kept.specs.Packed.{Marks, marked}
use Rattle.kept.specs.OrderLaws.{kept-marked}
use Rattle.traced.specs.Traced.{met_all}
use Rattle.tracer.specs.Met.{met_in, or_none}
use Rattle.tracer.specs.Tracing.{top, met, keys_of, sorted, Filling, Fills}
use Rattle.tracer.specs.WindowsLaws.{rows_fit, refill-plain}
use Rattle.tracer.specs.AnswerLaws.{all_plain}
use Rattle.tracer.specs.declared.marked.Marked.{Marked}
use Rattle.tracer.specs.declared.marked.Plain.{Plain}
use Rattle.listed.specs.Listed.{row_keys, all_in}
use Rattle.accepted.specs.Accepted.{each_row, lists_met, number_is, accepted_by, check_read, check_of}
use Rattle.checker.specs.Checking.{Asks}
use Rattle.checker.specs.AskLaws.{asks_filled}
use Rattle.checker.specs.KeyLaws.{keys-listed}
use Rattle.refusal.specs.declared.Refusal.{Refusal}
use Rattle.refusal.specs.declared.Refusal.TheVariants.{NoSuchNumber, NotFound, BadRecord, NotAccepted}

-- ---- the marked glyphs

module _ (m : Marked) (keys keys' : List ℕ) (a : Option ℕ) (w : Fills (met m) (record { low = 0; high = top }) keys keys' a) where
  -- one is not plain
  pub met_broken : a ≡ None → (rec : List ℕ) → false ≡ lists_met (rows_of rec) (met m)
  met_broken e rec = by (met m) w.says
    where
      by : (x : Option (List Row)) → Filling x (record { low = 0; high = top }) keys keys' a → false ≡ lists_met (rows_of rec) x
      by None x = refl
      by (Some rows) x = let k : None ≡ Some x.0 = sym e ∙ x.1 in absurd (zero_one cc)

  -- all are
  module _ (n : ℕ) (e : a ≡ Some n) where
    abbrev all : Plain
    all = record { marked = m; plain = all_plain m keys keys' a w n e }

    pub met_asks : length keys ≡ 65536 → Asks (keys_of all) keys' n 0
    met_asks l = asks_filled (keys_of all) keys keys' n 0 l (refill-plain all 0 keys keys' a w n e)

    pub met-listed : (rec : List ℕ) → Octets rec → (r : Bool) → r ≡ all_in (row_keys rec) (sorted all) → r ≡ lists_met (rows_of rec) (met m)
    met-listed rec octets r h = h ∙ keys-listed rec octets (or_none (met m)) (rows_fit m) ∙ ap (lists_met (rows_of rec)) (sym all.plain.plain)

-- ---- the conditions

module _ (b : List ℕ) (f : Font) (good : GoodFont b f) (keep : List ℕ) (old marks : List ℕ) (m : Marks f.charstrings.count (keeps keep) old marks) where
  module _ (rec : List ℕ) (r : Bool) (e : r ≡ each_row (number_is (program_of b f) (used_fds (program_of b f) (those (marked marks) f.charstrings.count 0))) (rows_of rec)) where
    accepted_as : (t : Bool) → r ≡ t → accepted_by (program_of b f) keep rec ≡ pick t (lists_met (rows_of rec) (met_in b f marks)) false
    unfolding accepted_by
    accepted_as t h =
        let p = program_of b f in
        let n = items-length b f.charstrings in
        let many : kept_of (length p.charstrings) keep ≡ kept_of f.charstrings.count keep = ap (λ (k : ℕ). kept_of k keep) n in
        ap (λ (l : List ℕ). pick (each_row (number_is p (used_fds p l)) (rows_of rec)) (lists_met (rows_of rec) (met_all p l)) false)
        (many ∙ sym (kept-marked b f good keep old marks m))
        ∙ ap (λ (u : Bool). pick u (lists_met (rows_of rec) (met_in b f marks)) false) (sym e ∙ h)

    pub accepts_not : r ≡ false → false ≡ accepted_by (program_of b f) keep rec
    accepts_not h = sym (accepted_as false h)

    pub accepts_as : r ≡ true → (s : Bool) → s ≡ lists_met (rows_of rec) (met_in b f marks) → s ≡ accepted_by (program_of b f) keep rec
    accepts_as h s k = k ∙ sym (accepted_as true h)

-- ---- the entry

pub was_false : (r : Bool) → not r ≡ true → r ≡ false
was_false true e = absurd (zero_one cc)
was_false false e = refl

pub was_true : (r : Bool) → not r ≡ false → r ≡ true
was_true true e = refl
was_true false e = absurd (zero_one cc)

-- a font that is refused
pub check-unread : (font keep rec : List ℕ) (n : Refusal) → read_font font ≡ Err n → Err n ≡ check_of font keep rec
unfolding check_of
check-unread font keep rec n e = sym (ap (λ (g : Result Program Refusal). check_read g keep rec) e)

module _ (file : List ℕ) (f : Font) (b : List ℕ) (held : InFile file f b) (keep rec : List ℕ) where
  abbrev p : Program
  p = program_of b f

  abbrev count : ℕ
  count = f.charstrings.count

  many : length p.charstrings ≡ count
  many = items-length b f.charstrings

  -- the answer to a call in form
  abbrev decided : Result Unit Refusal
  decided = pick (accepted_by p keep rec) (Ok tt) (Err NotAccepted)

  tested : check_of file keep rec
      ≡ pick (all_below count keep) (pick (all_found_lem p (kept_of count keep)) (pick (record_fine f.cid rec 1) decided (Err BadRecord)) (Err NotFound)) (Err NoSuchNumber)
  unfolding check_of
  tested =
      ap (λ (g : Result Program Refusal). check_read g keep rec) held.is
      ∙ ap (λ (n : ℕ). pick (all_below n keep) (pick (all_found_lem p (kept_of n keep)) (pick (record_fine (cid_keyed p.top) rec 1) decided (Err BadRecord)) (Err NotFound)) (Err NoSuchNumber)) many
      ∙ ap (λ (c : Bool). pick (all_below count keep) (pick (all_found_lem p (kept_of count keep)) (pick (record_fine c rec 1) decided (Err BadRecord)) (Err NotFound)) (Err NoSuchNumber)) (sym held.good.cid)

  module _ (r₁ : Bool) (e₁ : r₁ ≡ all_below count keep) where
    one : (t : Bool) → r₁ ≡ t → check_of file keep rec ≡ pick t (pick (all_found_lem p (kept_of count keep)) (pick (record_fine f.cid rec 1) decided (Err BadRecord)) (Err NotFound)) (Err NoSuchNumber)
    one t h = tested ∙ ap (λ (u : Bool). pick u (pick (all_found_lem p (kept_of count keep)) (pick (record_fine f.cid rec 1) decided (Err BadRecord)) (Err NotFound)) (Err NoSuchNumber)) (sym e₁ ∙ h)

    -- 6
    pub check-number : not r₁ ≡ true → Err NoSuchNumber ≡ check_of file keep rec
    check-number t = sym (one false (was_false r₁ t))

    pub check-below : not r₁ ≡ false → all_below count keep ≡ true
    check-below t = sym e₁ ∙ was_true r₁ t

    module _ (t₁ : not r₁ ≡ false) (r₂ : Bool) (e₂ : r₂ ≡ all_found_lem p (kept_of count keep)) where
      two : (t : Bool) → r₂ ≡ t → check_of file keep rec ≡ pick t (pick (record_fine f.cid rec 1) decided (Err BadRecord)) (Err NotFound)
      two t h = one true (was_true r₁ t₁) ∙ ap (λ (u : Bool). pick u (pick (record_fine f.cid rec 1) decided (Err BadRecord)) (Err NotFound)) (sym e₂ ∙ h)

      -- 7
      pub check-found : not r₂ ≡ true → Err NotFound ≡ check_of file keep rec
      check-found t = sym (two false (was_false r₂ t))

      module _ (t₂ : not r₂ ≡ false) (r₃ : Bool) (e₃ : r₃ ≡ record_fine f.cid rec 1) where
        three : (t : Bool) → r₃ ≡ t → check_of file keep rec ≡ pick t decided (Err BadRecord)
        three t h = two true (was_true r₂ t₂) ∙ ap (λ (u : Bool). pick u decided (Err BadRecord)) (sym e₃ ∙ h)

        -- 8
        pub check_form : not r₃ ≡ true → Err BadRecord ≡ check_of file keep rec
        check_form t = sym (three false (was_false r₃ t))

        module _ (t₃ : not r₃ ≡ false) (r₄ : Bool) (e₄ : r₄ ≡ accepted_by p keep rec) where
          -- 14, and accepted
          pub check_refused : not r₄ ≡ true → Err NotAccepted ≡ check_of file keep rec
          check_refused t = sym (three true (was_true r₃ t₃) ∙ ap (λ (u : Bool). pick u (Ok tt) (Err NotAccepted)) (sym e₄ ∙ was_false r₄ t))

          pub check-accepted : not r₄ ≡ false → Ok tt ≡ check_of file keep rec
          check-accepted t = sym (three true (was_true r₃ t₃) ∙ ap (λ (u : Bool). pick u (Ok tt) (Err NotAccepted)) (sym e₄ ∙ was_true r₄ t))
