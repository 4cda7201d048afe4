-- The outcome of a call from its steps: a refusal before the work words are used leaves all as it was, and the cut behind it uses them.
use Rattle.std.specs.Prelude.{ℕ, zero, suc, ◌≤◌, ◌≡◌, refl, Bool, true, false, List, ◌∷◌, ◌++◌, ltb, length, take, drop, replicate, Result, Ok, Err}
use Rattle.std.proofs.Common.{sym, ◌∙◌, arith, ltb-false, length-take-le, subst}
use Rattle.std.proofs.Math.Path.{ap}
use Rattle.octets.specs.Pick.{pick}
use Rattle.octets.specs.PickLaws.{pick_same}
use Rattle.octets.specs.Octets.{Octets}
use Rattle.octets.specs.Lists.{all_below}
use Rattle.record.specs.Record.{rows_of, record_fine}
use Rattle.dict.specs.Lookup.{ros_in, cid_keyed}
use Rattle.cff.specs.Font.{Program, read_font}
use Rattle.cff.specs.Reads.{program_of}
use Rattle.cff.specs.File.{InFile}
use Rattle.cff.specs.declared.font.Font.{Font}
use Rattle.subset.specs.Kept.{kept_of, written_order, used_fds}
use Rattle.subset.specs.Pruned.{Pruned, pruned}
use Rattle.subset.specs.Subset.{subset_bytes}
use Rattle.subset.specs.Codes.{Coded, coded_if, pair_count}
use Rattle.subset.specs.Cut.{Outcome, refused, subset, all_found_lem, has_ros_lem, same_bool_lem, own_of, written, unsupported_in, cut_program, cut_read, cut_with, leaves_out, zeros, uses_work, leaves_work}
use Rattle.faithful.proofs.Theorem.{faithful, codes-back, same_bool}
use Rattle.small.specs.Small.{small_size}
use Rattle.small.specs.Theorem.{small-less}
use Rattle.outcome.specs.Call.{is_cid, asks}
use Rattle.outcome.specs.Entry.{answer_of, size_of, work_in, CutsWith, refusal_of, cut_behind, Cut, Passed}
use Rattle.outcome.specs.declared.Subsetted.{Subsetted}
use Rattle.outcome.specs.declared.call.Keying.{Keying}
use Rattle.refusal.specs.declared.Refusal.{Refusal}
use Rattle.refusal.specs.declared.Refusal.TheVariants.{Malformed, Unsupported, TooLong, NoSuchNumber, NotFound, BadRecord, Work, Subset, Output, StringId, Pairs}

-- ---- refusals

-- the outcome of a call that may be refused before it
abbrev pub unless_refused : Result Unit Refusal → Outcome → Outcome
unless_refused (Err n) o = refused n
unless_refused (Ok u) o = o

-- the tests of a call in their order
abbrev first_of : Bool → Bool → Bool → Bool → Bool → Bool → Bool → Bool → Result Unit Refusal
first_of a s b c d e f g =
    pick a (pick s (Err Unsupported)
    (pick b (pick c (Err TooLong) (pick d (pick e (pick f (pick g (Err Work) (Ok tt)) (Err BadRecord)) (Err NotFound)) (Err NoSuchNumber))) (Err Malformed))) (Err Unsupported)

chain : (a s b c d e f g : Bool) (o : Outcome)
    → pick a (pick s (refused Unsupported)
    (pick b (pick c (refused TooLong) (pick d (pick e (pick f (pick g (refused Work) o) (refused BadRecord)) (refused NotFound)) (refused NoSuchNumber))) (refused Malformed))) (refused Unsupported)
    ≡ unless_refused (first_of a s b c d e f g) o
chain false s b c d e f g o = refl
chain true true b c d e f g o = refl
chain true false false c d e f g o = refl
chain true false true true d e f g o = refl
chain true false true false false e f g o = refl
chain true false true false true false f g o = refl
chain true false true false true true false g o = refl
chain true false true false true true true true o = refl
chain true false true false true true true false o = refl

-- none of these uses the words
spared : (a s b c d e f g : Bool) (o : Outcome) → uses_work o ≡ false → uses_work (unless_refused (first_of a s b c d e f g) o) ≡ false
spared false s b c d e f g o h = refl
spared true true b c d e f g o h = refl
spared true false false c d e f g o h = refl
spared true false true true d e f g o h = refl
spared true false true false false e f g o h = refl
spared true false true false true false f g o h = refl
spared true false true false true true false g o h = refl
spared true false true false true true true true o h = refl
spared true false true false true true true false o h = h

module _ (size : Program → ℕ) (cid ask : Bool) (p : Program) (name keep rec : List ℕ) (flag words room : ℕ) where
  abbrev early : Result Unit Refusal
  early = refusal_of size cid ask p (length name) keep rec flag words

  -- a font that was read: refused, or cut
  pub program-cut : cut_program size cid ask p name keep rec flag words room ≡ unless_refused early (cut_behind ask p name keep rec flag room)
  unfolding refusal_of
  program-cut =
      chain (same_bool_lem cid (cid_keyed p.top)) (unsupported_in ask p) (pick cid (has_ros_lem (ros_in p.top)) true) (ltb 65535 (length name)) (all_below (length p.charstrings) keep)
      (all_found_lem p (kept_of (length p.charstrings) keep)) (record_fine cid rec flag) (ltb words (size p)) (cut_behind ask p name keep rec flag room)

  words_spared : (n : Refusal) → early ≡ Err n → uses_work (refused n) ≡ false
  unfolding refusal_of
  words_spared n e =
      ap (λ (r : Result Unit Refusal). uses_work (unless_refused r (refused Work))) (sym e)
      ∙ spared (same_bool_lem cid (cid_keyed p.top)) (unsupported_in ask p) (pick cid (has_ros_lem (ros_in p.top)) true) (ltb 65535 (length name)) (all_below (length p.charstrings) keep)
      (all_found_lem p (kept_of (length p.charstrings) keep)) (record_fine cid rec flag) (ltb words (size p)) (refused Work) refl

-- what a cut leaves: the words are used, whatever its outcome is
pub written-uses : (p : Program) (coded : Coded) (name kept order : List ℕ) (room : ℕ) (q : Pruned) → uses_work (written p coded name kept order room q) ≡ true
written-uses p coded name kept order room q =
    let bs = subset_bytes p coded name kept order q.bodies in
    let last = pick (ltb room (length bs)) (refused Output) (subset q.way bs) in
    pick-used (ltb 64609 (length (own_of p order))) StringId (pick (ltb 255 (pair_count coded)) (refused Pairs) (pick (ltb 67108864 (length bs)) (refused Subset) last)) refl
    (pick-used (ltb 255 (pair_count coded)) Pairs (pick (ltb 67108864 (length bs)) (refused Subset) last) refl
    (pick-used (ltb 67108864 (length bs)) Subset last refl (pick-used (ltb room (length bs)) Output (subset q.way bs) refl refl)))
  where
    pick-used : (t : Bool) (n : Refusal) (o : Outcome) → uses_work (refused n) ≡ true → uses_work o ≡ true → uses_work (pick t (refused n) o) ≡ true
    pick-used true n o h k = h
    pick-used false n o h k = k

-- ---- calls

module _ (size : Program → ℕ) (cid ask : Bool) (font name keep rec : List ℕ) (flag : ℕ) (work out : List ℕ) (bytes : Octets font) (octets : Octets rec) where
  abbrev outcome : Outcome
  outcome = cut_with size cid ask font name keep rec flag (length work) (length out)

  -- a refusal that leaves the words leaves all as it was
  refused_cuts : (n : Refusal) → outcome ≡ refused n → leaves_work (refused n) (work_in size (read_font font)) work ≡ work → CutsWith size cid ask font name keep rec flag work out work out (Err n)
  refused_cuts n e l =
      record {
        answers = ap answer_of (sym e);
        output = ap (λ (o : Outcome). leaves_out o out) (sym e);
        words = sym (ap (λ (o : Outcome). leaves_work o (work_in size (read_font font)) work) e ∙ l);
        faithful = faithful size cid ask font name keep rec flag (length work) (length out) bytes octets;
        codes = codes-back size cid ask font name keep rec flag (length work) (length out) bytes octets;
      }

  -- a font that is not read has no W
  pub unread-cuts : (n : Refusal) → read_font font ≡ Err n → CutsWith size cid ask font name keep rec flag work out work out (Err n)
  unfolding cut_with zeros
  unread-cuts n e =
      refused_cuts n (ap (λ (x : Result Program Refusal). cut_read size cid ask x name keep rec flag (length work) (length out)) e)
      (ap (λ (x : Result Program Refusal). leaves_work (refused n) (work_in size x) work) e ∙ pick_same (uses_work (refused n)) work)

  module _ (p : Program) (is : read_font font ≡ Ok p) where
    abbrev refusal : Result Unit Refusal
    refusal = refusal_of size cid ask p (length name) keep rec flag (length work)

    outcome_is : outcome ≡ unless_refused refusal (cut_behind ask p name keep rec flag (length out))
    unfolding cut_with
    outcome_is =
        ap (λ (x : Result Program Refusal). cut_read size cid ask x name keep rec flag (length work) (length out)) is
        ∙ program-cut size cid ask p name keep rec flag (length work) (length out)

    -- refused before the words are used
    pub early-cuts : (n : Refusal) → refusal ≡ Err n → CutsWith size cid ask font name keep rec flag work out work out (Err n)
    early-cuts n e =
        refused_cuts n (outcome_is ∙ ap (λ (r : Result Unit Refusal). unless_refused r (cut_behind ask p name keep rec flag (length out))) e)
        (ap (λ (t : Bool). pick t (zeros (work_in size (read_font font)) ++ drop (work_in size (read_font font)) work) work)
        (words_spared size cid ask p name keep rec flag (length work) (length out) n e))

    -- cut, the first W words then cleared
    pub late_cuts : (work' out' : List ℕ) (r : Result Subsetted Refusal) → refusal ≡ Ok tt → Cut (cut_behind ask p name keep rec flag (length out)) out out' r
        → work' ≡ zeros (size p) ++ drop (size p) work → CutsWith size cid ask font name keep rec flag work out work' out' r
    late_cuts work' out' r z k c =
        let o = cut_behind ask p name keep rec flag (length out) in
        let e : outcome ≡ o = outcome_is ∙ ap (λ (x : Result Unit Refusal). unless_refused x o) z in
        let kept = kept_of (length p.charstrings) keep in
        let u : uses_work outcome ≡ true
        = ap uses_work e ∙ written-uses p (coded_if ask p kept (own_of p (written_order p kept))) name kept (written_order p kept) (length out)
        (pruned p (rows_of rec) (used_fds p kept) (written_order p kept) flag) in
        record {
          answers = k.answers ∙ ap answer_of (sym e);
          output = k.output ∙ ap (λ (x : Outcome). leaves_out x out) (sym e);
          words =
              c ∙ ap (λ (w : ℕ). zeros w ++ drop w work) (sym (ap (work_in size) is))
              ∙ sym (ap (λ (t : Bool). pick t (zeros (work_in size (read_font font)) ++ drop (work_in size (read_font font)) work) work) u);
          faithful = faithful size cid ask font name keep rec flag (length work) (length out) bytes octets;
          codes = codes-back size cid ask font name keep rec flag (length work) (length out) bytes octets;
        }

-- ---- what a call that is not refused says

passes : (a s b c d e f g : Bool) → first_of a s b c d e f g ≡ Ok tt
    → (a ≡ true) × (s ≡ false) × (b ≡ true) × (c ≡ false) × (d ≡ true) × (e ≡ true) × (f ≡ true) × (g ≡ false)
passes false s b c d e f g h = absurd cc
passes true true b c d e f g h = absurd cc
passes true false false c d e f g h = absurd cc
passes true false true true d e f g h = absurd cc
passes true false true false false e f g h = absurd cc
passes true false true false true false f g h = absurd cc
passes true false true false true true false g h = absurd cc
passes true false true false true true true true h = absurd cc
passes true false true false true true true false h = (refl, refl, refl, refl, refl, refl, refl, refl)

pub not_refused : (size : Program → ℕ) → ((q : Program) → small_size q ≤ size q) → (cid ask : Bool) (p : Program) (name : ℕ) (keep rec : List ℕ) (flag words : ℕ) → refusal_of size cid ask p name keep rec flag words ≡ Ok tt
    → Passed cid ask p name keep rec flag words
unfolding refusal_of
not_refused size least cid ask p name keep rec flag words z =
    let h =
    passes (same_bool_lem cid (cid_keyed p.top)) (unsupported_in ask p) (pick cid (has_ros_lem (ros_in p.top)) true) (ltb 65535 name) (all_below (length p.charstrings) keep)
    (all_found_lem p (kept_of (length p.charstrings) keep)) (record_fine cid rec flag) (ltb words (size p)) z in
    record {
      keying = same_bool cid (cid_keyed p.top) h.0;
      supported = h.1;
      ros = h.2;
      named = ltb-false 65535 name h.3;
      below = h.4;
      found = h.5;
      recorded = h.6;
      room = omega (arith, least p, ltb-false words (size p) h.7);
    }

-- and that the words are enough
pub words_enough : (size : Program → ℕ) (cid ask : Bool) (p : Program) (name : ℕ) (keep rec : List ℕ) (flag words : ℕ) → refusal_of size cid ask p name keep rec flag words ≡ Ok tt → size p ≤ words
unfolding refusal_of
words_enough size cid ask p name keep rec flag words z =
    ltb-false words (size p) (passes (same_bool_lem cid (cid_keyed p.top)) (unsupported_in ask p) (pick cid (has_ros_lem (ros_in p.top)) true) (ltb 65535 name) (all_below (length p.charstrings) keep)
    (all_found_lem p (kept_of (length p.charstrings) keep)) (record_fine cid rec flag) (ltb words (size p)) z).7

-- ---- the entries' code

pub zeros_are : (n : ℕ) → replicate n 0 ≡ zeros n
unfolding zeros
zeros_are zero = refl
zeros_are (suc n) = ap (λ (l : List ℕ). 0 ∷ l) (zeros_are n)

-- each call asks for no less than the small one
least : (small : Bool) (p : Program) → small_size p ≤ size_of small p
least true p = omega arith
least false p = small-less p

module _ (small cid ask : Bool) (font : List ℕ) (f : Font) (b : List ℕ) (name keep rec : List ℕ) (flag : ℕ) (work out : List ℕ) (bytes : Octets font) (octets : Octets rec)
    (held : InFile font f b) (r : Result Unit Refusal) (early : r ≡ refusal_of (size_of small) cid ask (program_of b f) (length name) keep rec flag (length work)) where
  -- refused before the cut
  pub early-read : (n : Refusal) → r ≡ Err n → CutsWith (size_of small) cid ask font name keep rec flag work out work out (Err n)
  early-read n e = early-cuts (size_of small) cid ask font name keep rec flag work out bytes octets (program_of b f) held.is n (sym early ∙ e)

  module _ (passed : r ≡ Ok tt) where
    none : refusal_of (size_of small) cid ask (program_of b f) (length name) keep rec flag (length work) ≡ Ok tt
    none = sym early ∙ passed

    -- what the cut asks
    pub passed-read : Passed cid ask (program_of b f) (length name) keep rec flag (length work)
    passed-read = not_refused (size_of small) (least small) cid ask (program_of b f) (length name) keep rec flag (length work) none

    module _ (w : ℕ) (wide : w ≡ size_of small (program_of b f)) where
      -- the first W words are there
      pub words-room : w ≤ length work
      words-room = omega (arith, wide, words_enough (size_of small) cid ask (program_of b f) (length name) keep rec flag (length work) none)

      pub words-taken : w ≡ length (take w work)
      words-taken = sym (length-take-le w work words-room)

      -- what the cut of the first W words asks
      pub passed_words : Passed cid ask (program_of b f) (length name) keep rec flag (length (take w work))
      passed_words =
          let h = passed-read in
          record {
            keying = h.keying;
            supported = h.supported;
            ros = h.ros;
            named = h.named;
            below = h.below;
            found = h.found;
            recorded = h.recorded;
            room = omega (arith, wide, words-taken, least small (program_of b f));
          }

      -- cut with them, which are then cleared
      pub late_read : (used cleared out' : List ℕ) (a : Result Subsetted Refusal) → Cut (cut_behind ask (program_of b f) name keep rec flag (length out)) out out' a
          → length used ≡ length (take w work) → cleared ≡ replicate (length used) 0 → CutsWith (size_of small) cid ask font name keep rec flag work out (cleared ++ drop w work) out' a
      late_read used cleared out' a k l e =
          late_cuts (size_of small) cid ask font name keep rec flag work out bytes octets (program_of b f) held.is (cleared ++ drop w work) out' a none k
          (ap (λ (x : List ℕ). x ++ drop w work) (e ∙ ap (λ (m : ℕ). replicate m 0) (l ∙ sym words-taken) ∙ zeros_are w)
          ∙ ap (λ (m : ℕ). zeros m ++ drop m work) wide)

-- the keying that is asked for, when it was found
module _ (k j : Keying) (e : k ≡ j) (p : Program) where
  pub passed_as : (name : ℕ) (keep rec : List ℕ) (flag words : ℕ) → Passed (is_cid k) (asks k) p name keep rec flag words → Passed (is_cid j) (asks j) p name keep rec flag words
  passed_as name keep rec flag words h = subst (λ (x : Keying). Passed (is_cid x) (asks x) p name keep rec flag words) e h

  pub cut_as : (name keep rec : List ℕ) (flag : ℕ) (out out' : List ℕ) (r : Result Subsetted Refusal) → Cut (cut_behind (asks j) p name keep rec flag (length out)) out out' r
      → Cut (cut_behind (asks k) p name keep rec flag (length out)) out out' r
  cut_as name keep rec flag out out' r c = subst (λ (x : Keying). Cut (cut_behind (asks x) p name keep rec flag (length out)) out out' r) (sym e) c
