-- Laws of what a call leaves: by the turns of the tests, by the code's ways out, and that a call which keeps its contract is judged by its outcome.
use Rattle.std.specs.Prelude.{ℕ, zero, suc, ◌+◌, ◌≤◌, ◌<◌, ◌≡◌, refl, Bool, true, false, List, [], ◌∷◌, ◌++◌, ◌&&◌, ltb, eqb, length, take, drop, get_or, replicate, None, Some, Result, Ok, Err}
use Rattle.std.proofs.Math.Path.{sym, ap}
use Rattle.std.proofs.Common.{◌∙◌, not-suc-le-zero, le_of_suc-le-suc, arith, length-append, drop_of_length-le, lt-ltb, le-ltb}
use Rattle.std.proofs.lemmas.List.{length-replicate}
use Rattle.std.proofs.Math.Seq.{take-append_seam, drop-append_seam}
use Rattle.octets.specs.Pick.{pick}
use Rattle.octets.specs.Octets.{put}
use Rattle.octets.specs.PutLaws.{put_is}
use Rattle.refusal.specs.Refusal.{number_of}
use Rattle.refusal.specs.declared.Refusal.{Refusal}
use Rattle.kept.specs.MarkLaws.{ahead}
use Rattle.cff.specs.Font.{Program, read_font}
use Rattle.cff.specs.Find.{read_as, work_size}
use Rattle.cff.specs.declared.Counts.{Counts}
use Rattle.subset.specs.Cut.{Outcome, refused, subset, cut_of, zeros, leaves_out, leaves_work}
use Rattle.outcome.specs.Entry.{a_cut, answer_of, work_in, Cuts}
use Rattle.outcome.specs.declared.Subsetted.{Subsetted}
use Rattle.subset_cases.specs.Left.{lent_word, lent_byte, zeroed, words_left_lem, bytes_left_lem, refused_bytes, subset_bytes, answer_bytes, judged}
use Rattle.subset_cases.specs.SubsetCases.{outcome_bytes}
use Rattle.subset.specs.Way.{way_number}

-- ---- the tests, turn by turn

pub both : (t a b : Bool) → a ≡ b → (t && a) ≡ pick t b false
both true a b e = e
both false a b e = refl

module _ (k : ℕ) (work : List ℕ) (i : ℕ) where
  pub words_end : length work ≤ i → words_left_lem i k (drop i work) ≡ true
  unfolding words_left_lem
  words_end h = ap (words_left_lem i k) (drop_of_length-le work h)

  pub words_at : i < length work → words_left_lem i k (drop i work) ≡ pick (eqb (get_or work i 0) (pick (ltb i k) 0 lent_word)) (words_left_lem (i + 1) k (drop (i + 1) work)) false
  unfolding words_left_lem
  words_at h = ap (words_left_lem i k) (ahead work i h)

-- ---- the code's ways out

module _ (x : Refusal) (n : ℕ) (e : n ≡ number_of x) (w : ℕ) where
  -- by the number
  zeroed_by : zeroed (Err x) w ≡ pick (pick (ltb 9 n) (ltb n 14) false) w 0
  zeroed_by = ap (λ (k : ℕ). pick (pick (ltb 9 k) (ltb k 14) false) w 0) (sym e)

  pub zeroed-early : n < 10 → zeroed (Err x) w ≡ 0
  zeroed-early h = let k : n ≤ 9 = omega arith in zeroed_by ∙ rw (le-ltb 9 n k)

  module _ (h : 10 ≤ n) where
    past_nine : ltb 9 n ≡ true
    past_nine = lt-ltb 9 n (omega arith)

    pub zeroed_late : n < 14 → zeroed (Err x) w ≡ w
    zeroed_late k = zeroed_by ∙ rw (past_nine, lt-ltb n 14 k)

    pub zeroed-before : 14 ≤ n → zeroed (Err x) w ≡ 0
    zeroed-before k = zeroed_by ∙ rw (past_nine, le-ltb n 14 k)

pub refused_kept : (n : ℕ) (out : List ℕ) → bytes_left_lem out ≡ true → refused_bytes n out ≡ Some (n ∷ [])
unfolding refused_bytes
refused_kept n out e = rw e

pub refused_changed : (n : ℕ) (out : List ℕ) → bytes_left_lem out ≡ false → refused_bytes n out ≡ None
unfolding refused_bytes
refused_changed n out e = rw e

module _ (way len : ℕ) (out : List ℕ) where
  pub subset-past : length out < len → subset_bytes way len out ≡ None
  unfolding subset_bytes
  subset-past h = rw (lt-ltb (length out) len h)

  module _ (h : len ≤ length out) where
    pub subset-kept : bytes_left_lem (drop len out) ≡ true → subset_bytes way len out ≡ Some (0 ∷ way ∷ take len out)
    unfolding subset_bytes
    subset-kept e = rw (le-ltb (length out) len h, e)

    pub subset-changed : bytes_left_lem (drop len out) ≡ false → subset_bytes way len out ≡ None
    unfolding subset_bytes
    subset-changed e = rw (le-ltb (length out) len h, e)

module _ (r : Result Subsetted Refusal) (w : ℕ) (work out : List ℕ) (k : ℕ) (z : k ≡ zeroed r w) where
  pub judged-kept : words_left_lem 0 k work ≡ true → judged r w work out ≡ answer_bytes r out
  unfolding judged
  judged-kept e = ap (λ (b : Bool). pick b (answer_bytes r out) None) (ap (λ (j : ℕ). words_left_lem 0 j work) (sym z) ∙ e)

  pub judged-changed : words_left_lem 0 k work ≡ false → judged r w work out ≡ None
  unfolding judged
  judged-changed e = ap (λ (b : Bool). pick b (answer_bytes r out) None) (ap (λ (j : ℕ). words_left_lem 0 j work) (sym z) ∙ e)

-- W by what reading answers
abbrev pub work_read : Result Counts Refusal → ℕ
work_read (Err n) = 0
work_read (Ok c) = c.work

pub work-read : (g : Result Program Refusal) (r : Result Counts Refusal) → r ≡ read_as g → work_read r ≡ work_in work_size g
work-read (Err n) r e = ap work_read e
work-read (Ok p) r e = ap work_read e

-- ---- what is lent

-- the first of many that are the same
pub filled : (n m x : ℕ) → n ≤ m → take n (replicate m x) ≡ replicate n x
filled zero zero x h = refl
filled zero (suc m) x h = refl
filled (suc n) zero x h = absurd (not-suc-le-zero h)
filled (suc n) (suc m) x h = ap (λ (l : List ℕ). x ∷ l) (filled n m x (le_of_suc-le-suc h))

pub filled-length : (n m x : ℕ) → n ≤ m → n ≡ length (take n (replicate m x))
filled-length n m x h = sym (ap length (filled n m x h) ∙ length-replicate n x)

pub filled_as : (n m x : ℕ) → n ≤ m → take n (replicate m x) ≡ replicate (length (take n (replicate m x))) x
filled_as n m x h = filled n m x h ∙ ap (λ (k : ℕ). replicate k x) (filled-length n m x h)

-- ---- a call that keeps its contract

-- words that were lent, from number i on, behind the zeros
words-lent : (i k n m : ℕ) → k ≤ i → words_left_lem i k (drop m (replicate n lent_word)) ≡ true
unfolding words_left_lem
words-lent i k zero zero h = refl
words-lent i k zero (suc m) h = refl
words-lent i k (suc n) zero h =
    rw (le-ltb i k h) (words-lent (i + 1) k n zero (omega arith))
words-lent i k (suc n) (suc m) h = words-lent i k n m h

words-zeroed : (i k w : ℕ) (xs : List ℕ) → i + w ≡ k → words_left_lem i k (zeros w ++ xs) ≡ words_left_lem k k xs
unfolding words_left_lem zeros
words-zeroed i k zero xs e = let f : i ≡ k = omega arith in ap (λ (j : ℕ). words_left_lem j k xs) f
words-zeroed i k (suc w) xs e =
    let h : i < k = omega arith in
    rw (lt-ltb i k h) (words-zeroed (i + 1) k w xs (omega arith))

bytes-lent : (n m : ℕ) → bytes_left_lem (drop m (replicate n lent_byte)) ≡ true
unfolding bytes_left_lem
bytes-lent zero zero = refl
bytes-lent zero (suc m) = refl
bytes-lent (suc n) zero = bytes-lent n zero
bytes-lent (suc n) (suc m) = bytes-lent n m

words-kept : (b : Bool) (w n : ℕ) → words_left_lem 0 (pick b w 0) (pick b (zeros w ++ drop w (replicate n lent_word)) (replicate n lent_word)) ≡ true
words-kept true w n = words-zeroed 0 w w (drop w (replicate n lent_word)) (omega arith) ∙ words-lent w w n w (omega arith)
words-kept false w n = words-lent 0 0 n 0 (omega arith)

-- a subset in front of what was lent
put-lent : (way : ℕ) (bs : List ℕ) (m : ℕ) → subset_bytes way (length bs) (put (replicate m lent_byte) 0 bs) ≡ Some (0 ∷ way ∷ bs)
put-lent way bs m =
    let out = replicate m lent_byte in
    let z : 0 + length bs ≡ length bs = omega arith in
    let p : put out 0 bs ≡ bs ++ drop (length bs) out = put_is out 0 bs [] (drop (length bs) out) refl (ap (λ (k : ℕ). drop k out) z) in
    let n : length (put out 0 bs) ≡ length bs + length (drop (length bs) out) = ap length p ∙ length-append bs (drop (length bs) out) in
    let d : drop (length bs) (put out 0 bs) ≡ drop (length bs) out = ap (drop (length bs)) p ∙ drop-append_seam bs (drop (length bs) out) in
    let t : take (length bs) (put out 0 bs) ≡ bs = ap (take (length bs)) p ∙ take-append_seam bs (drop (length bs) out) in
    subset-kept way (length bs) (put out 0 bs) (omega (arith, n)) (ap bytes_left_lem d ∙ bytes-lent m (length bs))
    ∙ ap (λ (l : List ℕ). Some (0 ∷ way ∷ l)) t

judged-outcome : (o : Outcome) (w n m : ℕ)
    → judged (answer_of o) w (leaves_work o w (replicate n lent_word)) (leaves_out o (replicate m lent_byte)) ≡ Some (outcome_bytes o)
judged-outcome (refused x) w n m =
    judged-kept (Err x) w (leaves_work (refused x) w (replicate n lent_word)) (replicate m lent_byte) (zeroed (Err x) w) refl (words-kept (pick (ltb 9 (number_of x)) (ltb (number_of x) 14) false) w n)
    ∙ refused_kept (number_of x) (replicate m lent_byte) (bytes-lent m 0)
judged-outcome (subset way bs) w n m =
    judged-kept (a_cut way (length bs)) w (leaves_work (subset way bs) w (replicate n lent_word)) (put (replicate m lent_byte) 0 bs) w refl (words-kept true w n)
    ∙ put-lent (way_number way) bs m

-- the work words and the output being filled before the call, its answer is judged to be the outcome's
pub judged-cuts : {cid : Bool} {font name keep rec : List ℕ} {flag : ℕ} {work out work' out' : List ℕ} {r : Result Subsetted Refusal}
    → Cuts cid false font name keep rec flag work out work' out' r
    → work ≡ replicate (length work) lent_word → out ≡ replicate (length out) lent_byte
    → (w : ℕ) → w ≡ work_in work_size (read_font font)
    → judged r w work' out' ≡ Some (outcome_bytes (cut_of cid false font name keep rec flag (length work) (length out)))
judged-cuts {cid} {font} {name} {keep} {rec} {flag} {work} {out} {work'} {out'} {r} c e f w g =
    let o = cut_of cid false font name keep rec flag (length work) (length out) in
    let v = work_in work_size (read_font font) in
    ap (λ (a : Result Subsetted Refusal). judged a w work' out') c.answers
    ∙ ap (λ (k : ℕ). judged (answer_of o) k work' out') g
    ∙ ap (λ (l : List ℕ). judged (answer_of o) v l out') (c.words ∙ ap (leaves_work o v) e)
    ∙ ap (judged (answer_of o) v (leaves_work o v (replicate (length work) lent_word))) (c.output ∙ ap (leaves_out o) f)
    ∙ judged-outcome o v (length work) (length out)
