-- Laws of the entries of subsetting for C: every outcome is a refusal or a subset that has room, so a call without room for its
-- two words cuts nothing; and what the number that a call returns says.
use Rattle.std.specs.Prelude.{ℕ, ◌≤◌, ◌<◌, ◌≡◌, refl, Bool, true, false, List, [], ◌∷◌, ◌++◌, ltb, length, take, drop, set, Result, Ok, Err}
use Rattle.std.proofs.Common.{sym, ap, ◌∙◌, subst, append-nil, arith, ltb-false, take-append-drop, length-take-le}
use Rattle.std.proofs.Math.Seq.{take-length, drop-length}
use Rattle.octets.specs.Pick.{pick, pick_ind}
use Rattle.octets.specs.Octets.{put}
use Rattle.octets.specs.PutLaws.{put_two}
use Rattle.octets.specs.Lists.{all_below}
use Rattle.refusal.specs.Refusal.{number_of}
use Rattle.refusal.specs.declared.Refusal.{Refusal}
use Rattle.refusal.specs.declared.Refusal.TheVariants.{Malformed, Unsupported, TooLong, NoSuchNumber, NotFound, BadRecord, Work, Subset, Output, StringId, Pairs}
use Rattle.dict.specs.Lookup.{ros_in, cid_keyed}
use Rattle.record.specs.Record.{rows_of, record_fine}
use Rattle.cff.specs.Font.{Program, read_font}
use Rattle.subset.specs.Kept.{kept_of, written_order, used_fds}
use Rattle.subset.specs.Pruned.{Pruned, Bodies, pruned}
use Rattle.subset.specs.Subset.{subset_by_name, subset_by_cid, subset_bytes}
use Rattle.subset.specs.Codes.{Coded, coded_if, pair_count}
use Rattle.subset.specs.Cut.{Outcome, refused as refusedCut, subset, all_found_lem, has_ros_lem, same_bool_lem, own_of, written, cut_program, cut_read, cut_with, leaves_out, leaves_work, unsupported_in}
use Rattle.faithful.specs.Faithful.{Faithful}
use Rattle.faithful.specs.Codes.{KeepsCodes}
use Rattle.outcome.specs.Entry.{answer_of, work_in, CutsWith}
use Rattle.outcome.specs.declared.Subsetted.{Subsetted}
use Rattle.capi.specs.Capi.{given, Answers}
use Rattle.capi.specs.CapiLaws.{number_least, number_most, answers_given}
use Rattle.capi.specs.Subset.{room_for, cut_answer, outcome_for, AnswersCut}
use Rattle.subset.specs.declared.Way.{Way}
use Rattle.subset.specs.Way.{way_number}

-- ---- outcomes

-- a refusal, or a subset for which there is room: at least its header
pub data Sound (room : ℕ) : Outcome → Type 0 where
  sound_refused : {n : Refusal} → 1 ≤ number_of n → number_of n ≤ 15 → Sound room (refusedCut n)
  sound_subset : {way : Way} {bs : List ℕ} → 0 < length bs → length bs ≤ room → Sound room (subset way bs)

module _ (room : ℕ) where
  refused_sound : (n : Refusal) → Sound room (refusedCut n)
  refused_sound n = sound_refused (number_least n) (number_most n)

  -- a test that refuses by n where it holds, or where it does not
  unless : (t : Bool) (n : Refusal) (o : Outcome) → Sound room o → Sound room (pick t (refusedCut n) o)
  unless true n o s = refused_sound n
  unless false n o s = s

  provided : (t : Bool) (n : Refusal) (o : Outcome) → Sound room o → Sound room (pick t o (refusedCut n))
  provided true n o s = s
  provided false n o s = refused_sound n

  -- the test of room
  roomy : (way : Way) (bs : List ℕ) → 0 < length bs → Sound room (pick (ltb room (length bs)) (refusedCut Output) (subset way bs))
  roomy way bs some =
      pick_ind (Sound room) (ltb room (length bs)) (refusedCut Output) (subset way bs) (λ e. refused_sound Output)
      (λ e. sound_subset some (ltb-false room (length bs) e))

-- a subset has a header
bytes-some : (p : Program) (coded : Coded) (name kept order : List ℕ) (b : Bodies) → 0 < length (subset_bytes p coded name kept order b)
unfolding subset_bytes subset_by_cid subset_by_name
bytes-some p coded name kept order b =
    pick_ind (λ (l : List ℕ). 0 < length l) (cid_keyed p.top) (subset_by_cid p name (used_fds p kept) order b) (subset_by_name p coded name order b)
    (λ e. omega arith) (λ e. omega arith)

written_sound : (p : Program) (coded : Coded) (name kept order : List ℕ) (room : ℕ) (q : Pruned) → Sound room (written p coded name kept order room q)
written_sound p coded name kept order room q =
    let bs = subset_bytes p coded name kept order q.bodies in
    unless room (ltb 64609 (length (own_of p order))) StringId _
    (unless room (ltb 255 (pair_count coded)) Pairs _
    (unless room (ltb 67108864 (length bs)) Subset _ (roomy room q.way bs (bytes-some p coded name kept order q.bodies))))

module _ (size : Program → ℕ) (cid ask : Bool) (name keep rec : List ℕ) (flag words room : ℕ) where
  program_sound : (p : Program) → Sound room (cut_program size cid ask p name keep rec flag words room)
  program_sound p =
      let kept = kept_of (length p.charstrings) keep in
      let order = written_order p kept in
      provided room (same_bool_lem cid (cid_keyed p.top)) Unsupported _
      (unless room (unsupported_in ask p) Unsupported _
      (provided room (pick cid (has_ros_lem (ros_in p.top)) true) Malformed _
      (unless room (ltb 65535 (length name)) TooLong _
      (provided room (all_below (length p.charstrings) keep) NoSuchNumber _
      (provided room (all_found_lem p kept) NotFound _
      (provided room (record_fine cid rec flag) BadRecord _
      (unless room (ltb words (size p)) Work _
      (written_sound p (coded_if ask p kept (own_of p order)) name kept order room (pruned p (rows_of rec) (used_fds p kept) order flag)))))))))

  read_sound : (g : Result Program Refusal) → Sound room (cut_read size cid ask g name keep rec flag words room)
  read_sound (Err n) = refused_sound room n
  read_sound (Ok p) = program_sound p

  pub cut_sound : (font : List ℕ) → Sound room (cut_with size cid ask font name keep rec flag words room)
  unfolding cut_with
  cut_sound font = read_sound (read_font font)

-- what has no room is refused
no_subset : (room : ℕ) (way : Way) (bs : List ℕ) → Sound room (subset way bs) → room ≡ 0 → ⊥
no_subset room way bs (sound_subset some few) e = let z : 0 < 0 = omega (arith, some, few, e) in omega arith

-- ---- the code

pub answers_two : (a b : ℕ) (old : List ℕ) → 2 ≤ length old → Answers (given (a ∷ b ∷ [])) old (set (set old 0 a) 1 b) 0
answers_two a b old h = answers_given (a ∷ b ∷ []) old _ h (put_two old a b h)

-- the front that is lent for a subset, put back
front-back : (o : Outcome) (r : ℕ) (out : List ℕ) → ((way : Way) (bs : List ℕ) → o ≡ subset way bs → r ≡ length out)
    → leaves_out o (take r out) ++ drop r out ≡ leaves_out o out
front-back (refusedCut n) r out h = take-append-drop r out
front-back (subset way bs) r out h =
    ap (λ (m : ℕ). put (take m out) 0 bs ++ drop m out) (h way bs refl)
    ∙ ap (λ (l : List ℕ). put l 0 bs ++ drop (length out) out) (take-length out)
    ∙ ap (λ (l : List ℕ). put out 0 bs ++ l) (drop-length out)
    ∙ append-nil (put out 0 bs)

room_most : (t : Bool) (n : ℕ) → pick t 0 n ≤ n
room_most true n = omega arith
room_most false n = omega arith

module _ (words : ℕ) (out : List ℕ) (r : ℕ) (is : r ≡ room_for words (length out)) where
  pub room_there : r ≤ length out
  room_there = let m = room_most (ltb words 2) (length out) in omega (arith, is, m)

  pub room-taken : r ≡ length (take r out)
  room-taken = sym (length-take-le r out room_there)

-- a subset is cut in all of the output
room_whole : (t : Bool) (n : ℕ) (way : Way) (bs : List ℕ) → Sound (pick t 0 n) (subset way bs) → pick t 0 n ≡ n
room_whole true n way bs s = absurd (no_subset 0 way bs s refl)
room_whole false n way bs s = refl

module _ (size : Program → ℕ) (cid ask : Bool) (font name keep rec : List ℕ) (flag : ℕ) (work out answer : List ℕ) where
  abbrev outcome : ℕ → Outcome
  outcome room = cut_with size cid ask font name keep rec flag (length work) room

  pub cut_answers : (r : ℕ) → r ≡ room_for (length answer) (length out) → (work' part answer' : List ℕ) (a : Result Subsetted Refusal) (n : ℕ)
      → CutsWith size cid ask font name keep rec flag work (take r out) work' part a → Answers (cut_answer a) answer answer' n
      → AnswersCut size cid ask font name keep rec flag work out answer work' (part ++ drop r out) answer' n
  cut_answers r is work' part answer' a n h k =
      let room = room_for (length answer) (length out) in
      let e : outcome (length (take r out)) ≡ outcome room = ap outcome (sym (room-taken (length answer) out r is) ∙ is) in
      let all : (way : Way) (bs : List ℕ) → outcome room ≡ subset way bs → r ≡ length out =
      λ way bs q. is ∙ room_whole (ltb (length answer) 2) (length out) way bs (subst (Sound room) q (cut_sound size cid ask name keep rec flag (length work) room font)) in
      record {
        answers = subst (λ (x : Result Subsetted Refusal). Answers (cut_answer x) answer answer' n) (h.answers ∙ ap answer_of e) k;
        output =
            ap (λ (l : List ℕ). l ++ drop r out) (h.output ∙ ap (λ (o : Outcome). leaves_out o (take r out)) e)
            ∙ front-back (outcome room) r out all;
        words = h.words ∙ ap (λ (o : Outcome). leaves_work o (work_in size (read_font font)) work) e;
        faithful = subst (Faithful font keep rec flag) e h.faithful;
        codes = subst (KeepsCodes ask font keep) e h.codes;
      }

-- ---- what the number that a call returns says

-- 0 exactly where there is a subset; any other is a refusal, and nothing was written but work words
pub data SaysCut (o : Outcome) (out out' answer answer' : List ℕ) : ℕ → Type 0 where
  answered-cut : (way : Way) (bs : List ℕ) → o ≡ subset way bs → out' ≡ put out 0 bs → answer' ≡ put answer 0 (way_number way ∷ length bs ∷ [])
      → SaysCut o out out' answer answer' 0
  no_cut : {n : Refusal} {r : ℕ} → r ≡ number_of n → 1 ≤ r → r ≤ 15 → o ≡ refusedCut n → out' ≡ out → answer' ≡ answer → SaysCut o out out' answer answer' r

module _ (out out' answer answer' : List ℕ) where
  says_refused : (n : Refusal) (r : ℕ) → 1 ≤ number_of n → number_of n ≤ 15 → r ≡ number_of n → out' ≡ out → answer' ≡ answer → SaysCut (refusedCut n) out out' answer answer' r
  says_refused n r l m e f g = no_cut e (omega (arith, e, l)) (omega (arith, e, m)) refl f g

  says_subset : (t : Bool) (way : Way) (bs : List ℕ) (r : ℕ) → Sound (pick t 0 (length out)) (subset way bs) → out' ≡ put out 0 bs
      → r ≡ pick t 11 0 → answer' ≡ pick t answer (put answer 0 (way_number way ∷ length bs ∷ [])) → SaysCut (subset way bs) out out' answer answer' r
  says_subset true way bs r s f e g = absurd (no_subset 0 way bs s refl)
  says_subset false way bs r s f e g = subst (SaysCut (subset way bs) out out' answer answer') (sym e) (answered-cut way bs refl f g)

  says_cut : (o : Outcome) (r : ℕ) → Sound (room_for (length answer) (length out)) o → out' ≡ leaves_out o out
      → Answers (cut_answer (answer_of o)) answer answer' r → SaysCut o out out' answer answer' r
  says_cut (refusedCut n) r (sound_refused l m) f h = says_refused n r l m h.number f h.written
  says_cut (subset way bs) r s f h = says_subset (ltb (length answer) 2) way bs r s f h.number h.written

pub cut_says : (size : Program → ℕ) (cid ask : Bool) (font name keep rec : List ℕ) (flag : ℕ) (work out answer work' out' answer' : List ℕ) (r : ℕ)
    → AnswersCut size cid ask font name keep rec flag work out answer work' out' answer' r
    → SaysCut (outcome_for size cid ask font name keep rec flag work out answer) out out' answer answer' r
cut_says size cid ask font name keep rec flag work out answer work' out' answer' r h =
    says_cut out out' answer answer' (outcome_for size cid ask font name keep rec flag work out answer) r
    (cut_sound size cid ask name keep rec flag (length work) (room_for (length answer) (length out)) font) h.output h.answers
