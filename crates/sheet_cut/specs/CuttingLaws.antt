-- Laws of cutting one sheet: the two calls together are one by the keying of the font, and what is printed of their answer is what the sheet asks for.
use Rattle.std.specs.Prelude.{ℕ, ◌+◌, ◌*◌, ◌≤◌, Bool, true, false, List, take, drop, None, Option, Some, Result, Ok, Err}
use Rattle.std.proofs.Math.Path.{◌≡◌, refl, sym}
use Rattle.std.proofs.Common.{ap, ◌∙◌, subst, arith, length-append, take-append-drop, length-take-le}
use Rattle.std.proofs.Math.ListN.{length}
use Rattle.std.proofs.Math.Seq.{take-append_seam}
use denote.Enum.Bare.{sameb}
use Rattle.octets.specs.Pick.{pick}
use Rattle.octets.specs.Octets.{put}
use Rattle.refusal.specs.Refusal.{number_of}
use Rattle.refusal.specs.contracts.Refusal.{the_type}
use Rattle.refusal.specs.declared.Refusal.{Refusal}
use Rattle.refusal.specs.declared.Refusal.TheVariants.{Unsupported}
use Rattle.cff.specs.Font.{read_font}
use Rattle.cff.specs.Find.{work_size}
use Rattle.subset.specs.Cut.{Outcome, refused, subset, cut_of, leaves_out, leaves_work}
use Rattle.subset.specs.Way.{way_number}
use Rattle.faithful.specs.Faithful.{Faithful}
use Rattle.faithful.specs.Codes.{KeepsCodes}
use Rattle.outcome.specs.Entry.{answer_of, work_in, Cuts}
use Rattle.outcome.specs.declared.Subsetted.{Subsetted}
use Rattle.sheet.specs.Sheet.{Sheet, keying, refusal_line, subset_lines, printed, cut_of_sheet, answer_to, sheet_of, cut_sheet}
use Rattle.sheet.specs.Printing.{way-room, way-told}
use Rattle.sheet.specs.Reading.{Reads, parts}
use Rattle.sheet.specs.Taking.{Took}
use Rattle.sheet.specs.declared.reading.Parts.{Parts}
use Rattle.sheet.specs.KeyingLaws.{is_three, three, unsupported, cut-by-keying}
use Rattle.sheet_cut.specs.Cutting.{length_in, outcome_in, Given, given}

-- ---- what an answer tells of the outcome

-- the test of the code
pub three-tested : (n : Refusal) (t : Bool) → t ≡ sameb the_type n Unsupported → is_three n ≡ t
three-tested Unsupported t e = sym e
three-tested n t e = sym e

refused_other : (o : Outcome) (n : Refusal) (t : Bool) → Err n ≡ answer_of o → is_three n ≡ t → unsupported o ≡ t
refused_other (refused k) n t e h = let i : k ≡ n = cc in ap is_three i ∙ h
refused_other (subset way bs) n t e h = cc

subset_other : (o : Outcome) (s : Subsetted) → Ok s ≡ answer_of o → unsupported o ≡ false
subset_other (refused k) s e = cc
subset_other (subset way bs) s e = refl

-- ---- the two calls

module _ (font name keep rec : List ℕ) (flag : ℕ) where
  -- the same outcome under another keying
  cuts_as : (cid cid' : Bool) (work out work' out' : List ℕ) (r : Result Subsetted Refusal)
      → cut_of cid false font name keep rec flag (length work) (length out) ≡ cut_of cid' false font name keep rec flag (length work) (length out)
      → Cuts cid false font name keep rec flag work out work' out' r → Cuts cid' false font name keep rec flag work out work' out' r
  cuts_as cid cid' work out work' out' r e c = record {
    answers = subst (λ (o : Outcome). r ≡ answer_of o) e c.answers;
    output = subst (λ (o : Outcome). out' ≡ leaves_out o out) e c.output;
    words = subst (λ (o : Outcome). work' ≡ leaves_work o (work_in work_size (read_font font)) work) e c.words;
    faithful = subst (λ (o : Outcome). Faithful font keep rec flag o) e c.faithful;
    codes = subst (λ (o : Outcome). KeepsCodes false font keep o) e c.codes;
  }

  abbrev by_keying : List ℕ → List ℕ → List ℕ → List ℕ → Result Subsetted Refusal → Type 0
  by_keying work out work' out' r = Cuts (keying (read_font font)) false font name keep rec flag work out work' out' r

  -- the first call is not refused with 3
  first_is : (work out work' out' : List ℕ) (r : Result Subsetted Refusal)
      → unsupported (cut_of false false font name keep rec flag (length work) (length out)) ≡ false
      → Cuts false false font name keep rec flag work out work' out' r → by_keying work out work' out' r
  first_is work out work' out' r e c =
      let n = length work in
      let m = length out in
      cuts_as false (keying (read_font font)) work out work' out' r
      (sym (ap (λ (t : Bool). pick t (cut_of true false font name keep rec flag n m) (cut_of false false font name keep rec flag n m)) e)
      ∙ cut-by-keying name keep rec flag n m font) c

  pub first_refused : (work out work' out' : List ℕ) (a : Result Subsetted Refusal) (n : Refusal) → Cuts false false font name keep rec flag work out work' out' a → a ≡ Err n → is_three n ≡ false
      → by_keying work out work' out' (Err n)
  first_refused work out work' out' a n c e h =
      let d = subst (λ (x : Result Subsetted Refusal). Cuts false false font name keep rec flag work out work' out' x) e c in
      first_is work out work' out' (Err n) (refused_other (cut_of false false font name keep rec flag (length work) (length out)) n false d.answers h) d

  pub first-subset : (work out work' out' : List ℕ) (a : Result Subsetted Refusal) (s : Subsetted) → Cuts false false font name keep rec flag work out work' out' a → a ≡ Ok s
      → by_keying work out work' out' (Ok s)
  first-subset work out work' out' a s c e =
      let d = subst (λ (x : Result Subsetted Refusal). Cuts false false font name keep rec flag work out work' out' x) e c in
      first_is work out work' out' (Ok s) (subset_other (cut_of false false font name keep rec flag (length work) (length out)) s d.answers) d

  -- the first call is refused with 3, and has left all as it was
  pub second-cuts : (work out work₁ out₁ work' out' : List ℕ) (a r : Result Subsetted Refusal) (n : Refusal) → Cuts false false font name keep rec flag work out work₁ out₁ a → a ≡ Err n
      → is_three n ≡ true → Cuts true false font name keep rec flag work₁ out₁ work' out' r → by_keying work out work' out' r
  second-cuts work out work₁ out₁ work' out' a r n c e h s =
      let k = length work in
      let m = length out in
      let o : cut_of false false font name keep rec flag k m ≡ refused Unsupported = sym (three _ (refused_other (cut_of false false font name keep rec flag k m) n true (sym e ∙ c.answers) h)) in
      let w : work₁ ≡ work = c.words ∙ ap (λ (x : Outcome). leaves_work x (work_in work_size (read_font font)) work) o in
      let u : out₁ ≡ out = c.output ∙ ap (λ (x : Outcome). leaves_out x out) o in
      let t : Cuts true false font name keep rec flag work out₁ work' out' r = subst (λ (l : List ℕ). Cuts true false font name keep rec flag l out₁ work' out' r) w s in
      let t' : Cuts true false font name keep rec flag work out work' out' r = subst (λ (l : List ℕ). Cuts true false font name keep rec flag work l work' out' r) u t in
      cuts_as true (keying (read_font font)) work out work' out' r
      (sym (ap (λ (x : Outcome). pick (unsupported x) (cut_of true false font name keep rec flag k m) (cut_of false false font name keep rec flag k m)) o)
      ∙ cut-by-keying name keep rec flag k m font) t'

-- ---- what is printed of an answer

pub refused_told : (a : Result Subsetted Refusal) (n : Refusal) (k : ℕ) (out : List ℕ) → a ≡ Err n → k ≡ number_of n → refusal_line k ≡ printed (outcome_in a out)
unfolding printed
refused_told a n k out e f = ap refusal_line f ∙ sym (ap (λ (x : Result Subsetted Refusal). printed (outcome_in x out)) e)

pub subset-told : (a : Result Subsetted Refusal) (s : Subsetted) (k : ℕ) (out : List ℕ) → a ≡ Ok s → k ≡ way_number s.way
    → subset_lines k (take s.len out) ≡ printed (outcome_in a out)
subset-told a s k out e f =
    ap (λ (i : ℕ). subset_lines i (take s.len out)) f ∙ way-told s.way (take s.len out) ∙ sym (ap (λ (x : Result Subsetted Refusal). printed (outcome_in x out)) e)

pub subset-within : (a : Result Subsetted Refusal) (s : Subsetted) (out : List ℕ) → a ≡ Ok s → length_in a ≤ length out → s.len ≤ length out
subset-within a s out e h = subst (λ (x : Result Subsetted Refusal). length_in x ≤ length out) e h

-- room for three bytes for each of the output and 12 more is enough
pub number-room : (a : Result Subsetted Refusal) (s : Subsetted) (way : ℕ) (out : List ℕ) (room : ℕ) → a ≡ Ok s → length_in a ≤ length out → 3 * length out + 12 ≤ room
    → length (subset_lines way (take s.len out)) ≤ room
number-room a s way out room e h k =
    let w = subset-within a s out e h in
    omega (arith, k, w, way-room way (take s.len out), length-take-le s.len out w)

pub subset-room : (a : Result Subsetted Refusal) (s : Subsetted) (out : List ℕ) (room : ℕ) → a ≡ Ok s → length_in a ≤ length out → 3 * length out + 12 ≤ room
    → length (printed (subset s.way (take s.len out))) ≤ room
unfolding printed
subset-room a s out room e h k = number-room a s (way_number s.way) out room e h k

-- ---- the answer and the output of a call

answer-within : (o : Outcome) (out : List ℕ) → length_in (answer_of o) ≤ length (leaves_out o out)
unfolding put
answer-within (refused n) out = omega arith
answer-within (subset way bs) out = omega (arith, length-append bs (drop (0 + length bs) out))

answer-told : (o : Outcome) (out : List ℕ) → outcome_in (answer_of o) (leaves_out o out) ≡ o
unfolding put
answer-told (refused n) out = refl
answer-told (subset way bs) out = ap (subset way) (take-append_seam bs (drop (0 + length bs) out))

module _ (cid : Bool) (font name keep rec : List ℕ) (flag : ℕ) (work out work' out' : List ℕ) (r : Result Subsetted Refusal) (c : Cuts cid false font name keep rec flag work out work' out' r) where
  abbrev outcome : Outcome
  outcome = cut_of cid false font name keep rec flag (length work) (length out)

  -- the subset is within the output
  pub cuts-within : length_in r ≤ length out'
  cuts-within =
      subst (λ (a : Result Subsetted Refusal). length_in a ≤ length out') (sym c.answers)
      (subst (λ (l : List ℕ). length_in (answer_of outcome) ≤ length l) (sym c.output) (answer-within outcome out))

  -- answer and output tell the outcome
  pub cuts-told : (n m : ℕ) → n ≡ length work → m ≡ length out → printed (outcome_in r out') ≡ printed (cut_of cid false font name keep rec flag n m)
  cuts-told n m e f =
      ap (λ (a : Result Subsetted Refusal). printed (outcome_in a out')) c.answers
      ∙ ap (λ (l : List ℕ). printed (outcome_in (answer_of outcome) l)) c.output
      ∙ ap printed (answer-told outcome out)
      ∙ ap (λ (i : ℕ). printed (cut_of cid false font name keep rec flag i (length out))) (sym e)
      ∙ ap (λ (i : ℕ). printed (cut_of cid false font name keep rec flag n i)) (sym f)

-- ---- a sheet that was read into the buffers

front-within : (n : ℕ) (l xs : List ℕ) → n ≡ length xs → take (length xs) l ≡ xs → n ≤ length l
front-within n l xs e t =
    let k = length xs in
    omega (arith, e, ap length t, length-append (take k l) (drop k l), ap length (take-append-drop k l))

front_is : (n : ℕ) (l xs : List ℕ) → n ≡ length xs → take (length xs) l ≡ xs → take n l ≡ xs
front_is n l xs e t = ap (λ (i : ℕ). take i l) e ∙ t

cut-same : (f f' n n' k k' r r' : List ℕ) (flag flag' : ℕ) → f ≡ f' → n ≡ n' → k ≡ k' → r ≡ r' → flag ≡ flag'
    → printed (cut_of (keying (read_font f)) false f n k r flag 8192 32768) ≡ printed (cut_of (keying (read_font f')) false f' n' k' r' flag' 8192 32768)
cut-same f f' n n' k k' r r' flag flag' a b c d e =
    ap (λ (x : List ℕ). printed (cut_of (keying (read_font x)) false x n k r flag 8192 32768)) a
    ∙ ap (λ (x : List ℕ). printed (cut_of (keying (read_font f')) false f' x k r flag 8192 32768)) b
    ∙ ap (λ (x : List ℕ). printed (cut_of (keying (read_font f')) false f' n' x r flag 8192 32768)) c
    ∙ ap (λ (x : List ℕ). printed (cut_of (keying (read_font f')) false f' n' k' x flag 8192 32768)) d
    ∙ ap (λ (x : ℕ). printed (cut_of (keying (read_font f')) false f' n' k' r' x 8192 32768)) e

-- so many bytes and numbers are in front of the buffers
pub record Fronts (font name keep rec : List ℕ) (m n k l : ℕ) : Type 0 where
  pub font_fits : m ≤ length font
  pub name_fits : n ≤ length name
  pub keep_fits : k ≤ length keep
  pub rec_fits : l ≤ length rec

module _ (font name keep rec : List ℕ) (r : Option Parts) where
  read_fronts : (o : Option Sheet) (m n k l flag : ℕ) → Reads o font name keep rec r → r ≡ Some (parts m n k l flag) → Fronts font name keep rec m n k l
  unfolding Reads
  read_fronts None m n k l flag h e = let x : ◌≡◌ {A = Option Parts} None (Some (parts m n k l flag)) = sym h ∙ e in let z : ◌≡◌ {A = ℕ} 0 1 = cc in absurd (omega (arith, z))
  read_fronts (Some s) m n k l flag h e =
      let x : Some (parts m n k l flag) ≡ Some (parts (length s.font) (length s.name) (length s.keep) (length s.rec) s.flag) = sym e ∙ h.answer in
      let p : parts m n k l flag ≡ parts (length s.font) (length s.name) (length s.keep) (length s.rec) s.flag = cc in
      let a : m ≡ length s.font = ap (λ (q : Parts). q.font) p in
      let b : n ≡ length s.name = ap (λ (q : Parts). q.name) p in
      let c : k ≡ length s.keep = ap (λ (q : Parts). q.keep) p in
      let d : l ≡ length s.rec = ap (λ (q : Parts). q.rec) p in
      record {
        font_fits = front-within m font s.font a h.font_is;
        name_fits = front-within n name s.name b h.name_is;
        keep_fits = front-within k keep s.keep c h.keep_is;
        rec_fits = front-within l rec s.rec d h.rec_is;
      }

  read-cut : (o : Option Sheet) (m n k l flag : ℕ) → Reads o font name keep rec r → r ≡ Some (parts m n k l flag)
      → printed (cut_of (keying (read_font (take m font))) false (take m font) (take n name) (take k keep) (take l rec) flag 8192 32768) ≡ answer_to o
  unfolding Reads answer_to cut_of_sheet
  read-cut None m n k l flag h e = let x : ◌≡◌ {A = Option Parts} None (Some (parts m n k l flag)) = sym h ∙ e in cc
  read-cut (Some s) m n k l flag h e =
      let x : Some (parts m n k l flag) ≡ Some (parts (length s.font) (length s.name) (length s.keep) (length s.rec) s.flag) = sym e ∙ h.answer in
      let p : parts m n k l flag ≡ parts (length s.font) (length s.name) (length s.keep) (length s.rec) s.flag = cc in
      let a : m ≡ length s.font = ap (λ (q : Parts). q.font) p in
      let b : n ≡ length s.name = ap (λ (q : Parts). q.name) p in
      let c : k ≡ length s.keep = ap (λ (q : Parts). q.keep) p in
      let d : l ≡ length s.rec = ap (λ (q : Parts). q.rec) p in
      let f : flag ≡ s.flag = ap (λ (q : Parts). q.flag) p in
      cut-same (take m font) s.font (take n name) s.name (take k keep) s.keep (take l rec) s.rec flag s.flag
      (front_is m font s.font a h.font_is) (front_is n name s.name b h.name_is) (front_is k keep s.keep c h.keep_is)
      (front_is l rec s.rec d h.rec_is) f

  read_other : (o : Option Sheet) → Reads o font name keep rec r → r ≡ None → refusal_line 0 ≡ answer_to o
  unfolding Reads answer_to
  read_other None h e = refl
  read_other (Some s) h e =
      let x : ◌≡◌ {A = Option Parts} None (Some (parts (length s.font) (length s.name) (length s.keep) (length s.rec) s.flag)) = sym e ∙ h.answer in cc

  -- the parts of a text that was taken are within the buffers
  pub taken_fronts : (len : ℕ) (buffer : List ℕ) (m n k l flag : ℕ) → Given len buffer
      → ((text : List ℕ) (mode : ℕ) → Took text len mode buffer → Reads (sheet_of text) font name keep rec r) → r ≡ Some (parts m n k l flag)
      → Fronts font name keep rec m n k l
  taken_fronts len buffer m n k l flag (given text mode t) f e = read_fronts (sheet_of text) m n k l flag (f text mode t) e

  -- what is printed of them is what the text asks for
  pub taken-cut : (text : List ℕ) (m n k l flag : ℕ) → Reads (sheet_of text) font name keep rec r → r ≡ Some (parts m n k l flag)
      → printed (cut_of (keying (read_font (take m font))) false (take m font) (take n name) (take k keep) (take l rec) flag 8192 32768) ≡ cut_sheet text
  unfolding cut_sheet
  taken-cut text m n k l flag h e = read-cut (sheet_of text) m n k l flag h e

  pub other_cut : (text : List ℕ) → Reads (sheet_of text) font name keep rec r → r ≡ None → refusal_line 0 ≡ cut_sheet text
  unfolding cut_sheet
  other_cut text h e = read_other (sheet_of text) h e
