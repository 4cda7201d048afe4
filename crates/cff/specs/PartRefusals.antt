-- The refusals of the parts of a font (document 01, 'Entries and their refusals'): the number of each is one of 1 to 5.
use Rattle.std.specs.Prelude.{ℕ, zero, suc, ◌+◌, ◌*◌, ◌-◌, ◌/◌, ◌%◌, ◌^◌, ◌≤◌, Bool, true, false, List, [], ◌∷◌, ltb, eqb, leb, length, take, drop, get_or, Result, Ok, Err}
use Rattle.std.proofs.Common.{arith}
use Rattle.octets.specs.Pick.{pick}
use Rattle.octets.specs.Octets.{be, num_at}
use Rattle.index.specs.Index.{first_of, ends_of, first_bad, run_of, judged, data_at, table_at, index_at, Read, refused as refusedRead, found, told, read_index}
use Rattle.index.specs.declared.Index.{Index}
use Rattle.decimal.specs.declared.Decimal.{Decimal}
use Rattle.decimal.specs.Decimal.{normal}
use Rattle.decimal.specs.Real.{nibbles, text_of, Text, cut, wrong, text, Form, bad as badForm, form, limited, form_of, value_of}
use Rattle.decimal.specs.Number.{Number, refused as refusedNumber, not_number, number, integer_at, twos_at, pair_at, placed, real_of, real_at, number_at}
use Rattle.dict.specs.Dict.{Entry, Token, bad, operand, operator, operator_at, token_of, token_at, Reading, stopped, got, after, onward, entry_from, entry_at, followed, readings_from, readings_at, before, gathered, dict_of}
use Rattle.charset.specs.Listed.{onward as onwardList}
use Rattle.charset.specs.Charset.{ids_from, ids_in, charset_at}
use Rattle.charset.specs.FdSelect.{range_end, ranges_refusal, judged as judgedList, range_fds, fds_in, fd_select_at}
use Rattle.charset.specs.Encoding.{entries as entriesIn, supplements, encoding_in, encoding_at}
use Rattle.refusal.specs.Refusal.{number_of}
use Rattle.refusal.specs.declared.Refusal.{Refusal}
use Rattle.refusal.specs.declared.Refusal.TheVariants.{Truncated, Malformed, Unsupported, TooLong, Real}

-- a refusal of reading, by its number
pub record ByReading (e : Refusal) : Type 0 where
  pub least : 1 ≤ number_of e
  pub most : number_of e ≤ 5

-- the five of them
pub truncated : ByReading Truncated
truncated = record { least = omega arith; most = omega arith }

pub malformed : ByReading Malformed
malformed = record { least = omega arith; most = omega arith }

pub unsupported : ByReading Unsupported
unsupported = record { least = omega arith; most = omega arith }

pub too_long : ByReading TooLong
too_long = record { least = omega arith; most = omega arith }

pub past-limits : ByReading Real
past-limits = record { least = omega arith; most = omega arith }

-- a step of reading: refused by one of them, or passed
pub data OfStep {A : Type 0} : Result A Refusal → Type 0 where
  step_refused : {e : Refusal} → ByReading e → OfStep (Err e)
  step-passed : {a : A} → OfStep (Ok a)

-- what holds of both holds of the choice
pub of-both : {A : Type 0} (P : A → Type 0) (t : Bool) {a b : A} → P a → P b → P (pick t a b)
of-both P true x y = x
of-both P false x y = y

-- ---- an INDEX

-- an INDEX as it is read: refused by one of them, or found
pub data OfRead : Read → Type 0 where
  read_refused : {e : Refusal} → ByReading e → OfRead (refusedRead e)
  read_found : {items : List (List ℕ)} {end : ℕ} → OfRead (found items end)

-- by the steps of reading an INDEX
run-refusal : (room start : ℕ) (ends : List ℕ) → OfStep (run_of room start ends)
unfolding run_of
run-refusal room start [] = step-passed
run-refusal room start (end ∷ ends) = of-both OfStep (ltb end start) (step_refused malformed) (of-both OfStep (ltb room end) (step_refused truncated) (run-refusal room end ends))

judged-refusal : (count size table base : ℕ) {r : Result ℕ Refusal} → OfStep r → OfStep (judged count size table base r)
unfolding judged
judged-refusal count size table base (step_refused r) = step_refused r
judged-refusal count size table base step-passed = step-passed

data-refusal : (b : List ℕ) (table count size past : ℕ) → OfStep (data_at b table count size past)
unfolding data_at
data-refusal b table count size past =
    of-both OfStep (ltb (length b) past) (step_refused truncated)
    (of-both OfStep (first_bad (first_of b table size)) (step_refused malformed)
    (judged-refusal count size table (past - 1) (run-refusal (length b - (past - 1)) (first_of b table size) (ends_of b table size count))))

table-refusal : (b : List ℕ) (table count size : ℕ) → OfStep (table_at b table count size)
unfolding table_at
table-refusal b table count size =
    of-both OfStep (ltb size 1) (step_refused malformed)
    (of-both OfStep (ltb 4 size) (step_refused malformed) (data-refusal b table count size (table + (count + 1) * size)))

index-at-refusal : (b : List ℕ) (at : ℕ) → OfStep (index_at b at)
unfolding index_at
index-at-refusal b at =
    of-both OfStep (ltb (length b) (at + 2)) (step_refused truncated)
    (of-both OfStep (eqb (num_at b at 2) 0) step-passed
    (of-both OfStep (ltb (length b) (at + 3)) (step_refused truncated) (table-refusal b (at + 3) (num_at b at 2) (get_or b (at + 2) 0))))

told-refusal : (b : List ℕ) {r : Result Index Refusal} → OfStep r → OfRead (told b r)
unfolding told
told-refusal b (step_refused r) = read_refused r
told-refusal b step-passed = read_found

pub index-refusal : (b : List ℕ) (at : ℕ) → OfRead (read_index b at)
unfolding read_index
index-refusal b at = told-refusal b (index-at-refusal b at)

-- ---- a number of a DICT

data OfNumber : Number → Type 0 where
  of_wrong : {e : Refusal} → ByReading e → OfNumber (refusedNumber e)
  of_none : OfNumber not_number
  of_number : {d : Decimal} {next : ℕ} → OfNumber (number d next)

-- by the steps of reading a number
limited-refusal : (d : Decimal) → OfStep (limited d)
limited-refusal d =
    of-both OfStep (leb (10 ^ 15) d.digits) (step_refused past-limits)
    (of-both OfStep (ltb 30 d.up) (step_refused past-limits) (of-both OfStep (ltb 30 d.down) (step_refused past-limits) step-passed))

value-refusal : (count : ℕ) (f : Form) → OfStep (value_of count f)
unfolding value_of
value-refusal count badForm = step_refused malformed
value-refusal count (form s n f es e) =
    of-both OfStep (ltb 64 count) (step_refused past-limits) (limited-refusal (normal s n (pick es 0 e) (pick es (f + e) f)))

placed-refusal : (next : ℕ) {v : Result Decimal Refusal} → OfStep v → OfNumber (placed next v)
placed-refusal next (step_refused r) = of_wrong r
placed-refusal next step-passed = of_number

real-refusal : (p : ℕ) (t : Text) → OfNumber (real_of p t)
real-refusal p cut = of_wrong truncated
real-refusal p wrong = of_wrong malformed
real-refusal p (text ns) = placed-refusal _ (value-refusal (length ns + 1) (form_of ns))

real-at-refusal : (b : List ℕ) (at : ℕ) → OfNumber (real_at b at)
unfolding real_at
real-at-refusal b at = real-refusal (at + 1) (text_of (nibbles (drop (at + 1) b)))

integer-refusal : (b : List ℕ) (at width : ℕ) (s : Bool) (n : ℕ) → OfNumber (integer_at b at width s n)
integer-refusal b at width s n = of-both OfNumber (ltb (length b) (at + width)) (of_wrong truncated) of_number

twos_refusal : (b : List ℕ) (at width half v : ℕ) → OfNumber (twos_at b at width half v)
twos_refusal b at width half v = of-both OfNumber (ltb v half) (integer-refusal b at width false v) (integer-refusal b at width true (half * 2 - v))

pair-refusal : (b : List ℕ) (at v : ℕ) → OfNumber (pair_at b at v)
pair-refusal b at v =
    let w = get_or b (at + 1) 0 in
    of-both OfNumber (ltb v 251) (integer-refusal b at 2 false ((v - 247) * 256 + w + 108)) (integer-refusal b at 2 true ((v - 251) * 256 + w + 108))

number-refusal : (b : List ℕ) (at : ℕ) → OfNumber (number_at b at)
unfolding number_at
number-refusal b at =
    let v = get_or b at 0 in
    of-both OfNumber (eqb v 28) (twos_refusal b at 3 32768 (num_at b (at + 1) 2))
    (of-both OfNumber (eqb v 29) (twos_refusal b at 5 2147483648 (num_at b (at + 1) 4))
    (of-both OfNumber (eqb v 30) (real-at-refusal b at)
    (of-both OfNumber (ltb v 32) of_none
    (of-both OfNumber (ltb v 139) (integer-refusal b at 1 true (139 - v))
    (of-both OfNumber (ltb v 247) (integer-refusal b at 1 false (v - 139)) (of-both OfNumber (ltb v 255) (pair-refusal b at v) of_none))))))

-- ---- a DICT

data OfToken : Token → Type 0 where
  of_no : {e : Refusal} → ByReading e → OfToken (bad e)
  of_operand : {d : Decimal} {next : ℕ} → OfToken (operand d next)
  of-operator : {op next : ℕ} → OfToken (operator op next)

data OfReading : Reading → Type 0 where
  of_stopped : {e : Refusal} → ByReading e → OfReading (stopped e)
  of-got : {op : ℕ} {ds : List Decimal} {end next : ℕ} → OfReading (got op ds end next)

data OfReadings : List Reading → Type 0 where
  of_end : OfReadings []
  of-more : {r : Reading} {rs : List Reading} → OfReading r → OfReadings rs → OfReadings (r ∷ rs)

-- by the steps of reading a DICT
operator-refusal : (b : List ℕ) (at : ℕ) → OfToken (operator_at b at)
unfolding operator_at
operator-refusal b at =
    of-both OfToken (eqb (get_or b at 0) 12) (of-both OfToken (ltb (length b) (at + 2)) (of_no truncated) of-operator)
    (of-both OfToken (ltb (get_or b at 0) 22) of-operator (of_no malformed))

token-of-refusal : (b : List ℕ) (at : ℕ) {n : Number} → OfNumber n → OfToken (token_of b at n)
token-of-refusal b at (of_wrong r) = of_no r
token-of-refusal b at of_none = operator-refusal b at
token-of-refusal b at of_number = of_operand

token-refusal : (b : List ℕ) (at : ℕ) → OfToken (token_at b at)
unfolding token_at
token-refusal b at = token-of-refusal b at (number-refusal b at)

after-refusal : (d : Decimal) {r : Reading} → OfReading r → OfReading (after d r)
after-refusal d (of_stopped r) = of_stopped r
after-refusal d of-got = of-got

onward-refusal : (at : ℕ) {t : Token} → OfToken t → (rest : ℕ → Reading) → ((k : ℕ) → OfReading (rest k)) → OfReading (onward at t rest)
onward-refusal at (of_no r) rest h = of_stopped r
onward-refusal at (of_operand {d} {next}) rest h = after-refusal d (h next)
onward-refusal at of-operator rest h = of-got

entry-from-refusal : (k : ℕ) (b : List ℕ) (at : ℕ) → OfReading (entry_from k b at)
unfolding entry_from
entry-from-refusal zero b at = of_stopped malformed
entry-from-refusal (suc k) b at =
    of-both OfReading (ltb at (length b)) (onward-refusal at (token-refusal b at) (entry_from k b) (λ p. entry-from-refusal k b p)) (of_stopped malformed)

entry-refusal : (b : List ℕ) (at : ℕ) → OfReading (entry_at b at)
unfolding entry_at
entry-refusal b at = entry-from-refusal (length b) b at

followed-refusal : {r : Reading} → OfReading r → (rest : ℕ → List Reading) → ((k : ℕ) → OfReadings (rest k)) → OfReadings (followed r rest)
followed-refusal (of_stopped r) rest h = of-more (of_stopped r) of_end
followed-refusal (of-got {op} {ds} {end} {next}) rest h = of-more of-got (h next)

readings_from-refusal : (k : ℕ) (b : List ℕ) (at : ℕ) → OfReadings (readings_from k b at)
unfolding readings_from
readings_from-refusal zero b at = of_end
readings_from-refusal (suc k) b at =
    of-both OfReadings (ltb at (length b)) (followed-refusal (entry-refusal b at) (readings_from k b) (λ p. readings_from-refusal k b p)) of_end

before-refusal : (e : Entry) {x : Result (List Entry) Refusal} → OfStep x → OfStep (before e x)
before-refusal e (step_refused r) = step_refused r
before-refusal e step-passed = step-passed

gathered-refusal : {rs : List Reading} → OfReadings rs → OfStep (gathered rs)
unfolding gathered
gathered-refusal of_end = step-passed
gathered-refusal (of-more (of_stopped r) h) = step_refused r
gathered-refusal (of-more of-got h) = before-refusal _ (gathered-refusal h)

pub dict-refusal : (b : List ℕ) → OfStep (dict_of b)
unfolding dict_of readings_at
dict-refusal b = gathered-refusal (readings_from-refusal (length b) b 0)

-- ---- charset, FDSelect, encoding

-- by the ranges of a charset
onward_list : (x : ℕ) {l : Result (List ℕ) Refusal} → OfStep l → OfStep (onwardList x l)
onward_list x (step_refused r) = step_refused r
onward_list x step-passed = step-passed

ids-refusal : (width k id left : ℕ) (bs : List ℕ) → OfStep (ids_from width k id left bs)
unfolding ids_from
ids-refusal width zero id left bs = step-passed
ids-refusal width (suc k) id (suc left) bs = of-both OfStep (ltb 65535 id) (step_refused malformed) (onward_list id (ids-refusal width k (id + 1) left bs))
ids-refusal width (suc k) id zero bs =
    let first = be 0 (take 2 bs) in
    of-both OfStep (ltb (length bs) (2 + width)) (step_refused truncated)
    (onward_list first (ids-refusal width k (first + 1) (be 0 (take width (drop 2 bs))) (drop (2 + width) bs)))

ids_in_refusal : (n : ℕ) (bs : List ℕ) → OfStep (ids_in n bs)
ids_in_refusal n [] = step_refused truncated
ids_in_refusal n (format ∷ bs) = of-both OfStep (ltb 2 format) (step_refused malformed) (ids-refusal format n 0 1 bs)

pub charset-refusal : (b : List ℕ) (at n : ℕ) → OfStep (charset_at b at n)
unfolding charset_at
charset-refusal b at n = ids_in_refusal n (drop at b)

-- by the ranges of an FDSelect
ranges-refusal : (wide count first : ℕ) (bs : List ℕ) → OfStep (ranges_refusal wide count first bs)
unfolding ranges_refusal
ranges-refusal wide zero first bs = step-passed
ranges-refusal wide (suc count) first bs =
    of-both OfStep (ltb (length bs) (1 + wide)) (step_refused truncated)
    (of-both OfStep (ltb (range_end wide first bs) first) (step_refused malformed)
    (ranges-refusal wide count (range_end wide first bs) (drop (1 + wide) bs)))

judged_list : {e : Result Unit Refusal} (l : List ℕ) → OfStep e → OfStep (judgedList e l)
judged_list l (step_refused r) = step_refused r
judged_list l step-passed = step-passed

range_fds_refusal : (n : ℕ) (bs : List ℕ) → OfStep (range_fds n bs)
unfolding range_fds
range_fds_refusal n bs =
    of-both OfStep (ltb (length bs) 4) (step_refused truncated)
    (judged_list _ (ranges-refusal 2 (be 0 (take 2 bs)) (be 0 (take 2 (drop 2 bs))) (drop 4 bs)))

fds_in_refusal : (n : ℕ) (bs : List ℕ) → OfStep (fds_in n bs)
fds_in_refusal n [] = step_refused truncated
fds_in_refusal n (format ∷ bs) =
    of-both OfStep (eqb format 0) (of-both OfStep (ltb (length bs) n) (step_refused truncated) step-passed)
    (of-both OfStep (eqb format 3) (range_fds_refusal n bs) (step_refused malformed))

pub fd-select-refusal : (b : List ℕ) (at n : ℕ) → OfStep (fd_select_at b at n)
unfolding fd_select_at
fd-select-refusal b at n = fds_in_refusal n (drop at b)

-- by the parts of an encoding
entries-refusal : (size : ℕ) (bs : List ℕ) (rest : List ℕ → Result Unit Refusal) → ((l : List ℕ) → OfStep (rest l)) → OfStep (entriesIn size bs rest)
entries-refusal size [] rest h = step_refused truncated
entries-refusal size (count ∷ bs) rest h = of-both OfStep (ltb (length bs) (count * size)) (step_refused truncated) (h (drop (count * size) bs))

supplements-refusal : (format : ℕ) (bs : List ℕ) → OfStep (supplements format bs)
supplements-refusal format bs = of-both OfStep (eqb (format / 128) 0) step-passed (entries-refusal 3 bs (λ end. Ok tt) (λ end. step-passed))

encoding_in_refusal : (bs : List ℕ) → OfStep (encoding_in bs)
encoding_in_refusal [] = step_refused truncated
encoding_in_refusal (format ∷ bs) =
    of-both OfStep (ltb 1 (format % 128)) (step_refused malformed) (entries-refusal (format % 128 + 1) bs (supplements format) (supplements-refusal format))

pub encoding-refusal : (b : List ℕ) (at : ℕ) → OfStep (encoding_at b at)
unfolding encoding_at
encoding-refusal b at = encoding_in_refusal (drop at b)
