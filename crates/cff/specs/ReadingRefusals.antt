-- Reading is refused by one of the numbers 1 to 5 (document 01, 'Entries and their refusals') or 15 (document 02, Wish 9), so that 6 and 11 are free to say that a
-- call was refused by another step.
use Rattle.std.specs.Prelude.{ℕ, ◌+◌, ◌≤◌, ◌<◌, ◌≡◌, List, [], ◌∷◌, ltb, eqb, length, take, drop, get_or, None, Option, Some, Result, Ok, Err}
use Rattle.std.proofs.Common.{subst, arith}
use Rattle.octets.specs.Pick.{pick}
use Rattle.octets.specs.Lists.{all_below, part_of}
use Rattle.decimal.specs.declared.Decimal.{Decimal}
use Rattle.decimal.specs.Values.{offset_of, is_two}
use Rattle.index.specs.Index.{Read}
use Rattle.dict.specs.Dict.{Entry}
use Rattle.dict.specs.declared.PrivateEntry.{PrivateEntry}
use Rattle.dict.specs.Op.{subrs, private, charstring_type}
use Rattle.dict.specs.Lookup.{Operands, absent, operands, last_of, one_of, offset_told, offset_as, offset_in, private_as, private_in, type_as, charstring_type_in, cid_keyed}
use Rattle.opentype.specs.declared.TableAt.{TableAt}
use Rattle.opentype.specs.Opentype.{place_of}
use Rattle.opentype.specs.OpentypeLaws.{Numbered, place-numbered}
use Rattle.cff.specs.Font.{charset, encoding, char_strings, fd_array, fd_select_lem, then, Program, index_got, needed, or_zero, locals_at, private_data, private_at, privates_at, ids_at, fds_at, encoding_got, cid_parts, name_parts, font_at, fonts_at, first_of, index_then, set_at, read_table, read_at, read_font}
use Rattle.cff.specs.PartRefusals.{ByReading, truncated, malformed, unsupported, too_long, of-both, OfStep, step_refused, step-passed, OfRead, read_refused, read_found, index-refusal, dict-refusal, charset-refusal, fd-select-refusal, encoding-refusal}
use Rattle.refusal.specs.Refusal.{number_of}
use Rattle.refusal.specs.declared.Refusal.{Refusal}
use Rattle.refusal.specs.declared.Refusal.TheVariants.{Malformed, NoTable}

-- what a DICT says
whole-refusal : (d : Decimal) → OfStep (offset_of d)
whole-refusal d = of-both OfStep d.neg (step_refused malformed) (of-both OfStep (eqb d.down 0) step-passed (step_refused malformed))

told-refusal : {o : Result ℕ Refusal} → OfStep o → OfStep (offset_told o)
told-refusal (step_refused r) = step_refused r
told-refusal step-passed = step-passed

offset_as_refusal : (o : Option Decimal) → OfStep (offset_as o)
offset_as_refusal None = step-passed
offset_as_refusal (Some d) = told-refusal (whole-refusal d)

offset-refusal : (op : ℕ) (es : List Entry) → OfStep (offset_in op es)
offset-refusal op es = offset_as_refusal (one_of op es)

private_as_refusal : (o : Operands) → OfStep (private_as o)
private_as_refusal absent = step-passed
private_as_refusal (operands []) = step_refused malformed
private_as_refusal (operands (s ∷ [])) = step_refused malformed
private_as_refusal (operands (s ∷ o ∷ [])) =
    of-both OfStep s.neg (step_refused malformed) (of-both OfStep o.neg (step_refused malformed) step-passed)
private_as_refusal (operands (s ∷ o ∷ d ∷ ds)) = step_refused malformed

private-refusal : (es : List Entry) → OfStep (private_in es)
private-refusal es = private_as_refusal (last_of private es)

type_as_refusal : (o : Option Decimal) → OfStep (type_as o)
type_as_refusal None = step-passed
type_as_refusal (Some d) = of-both OfStep (is_two d) step-passed (step_refused unsupported)

type_refusal : (es : List Entry) → OfStep (charstring_type_in es)
type_refusal es = type_as_refusal (one_of charstring_type es)

-- ---- steps

then-refusal : {A B : Type 0} {x : Result A Refusal} → OfStep x → (f : A → Result B Refusal) → ((a : A) → OfStep (f a)) → OfStep (then x f)
then-refusal (step_refused r) f h = step_refused r
then-refusal (step-passed {a = a}) f h = h a

-- the parts as steps
index-step : {r : Read} → OfRead r → OfStep (index_got r)
index-step (read_refused r) = step_refused r
index-step read_found = step-passed

needed-step : {o : Result (Option ℕ) Refusal} → OfStep o → OfStep (needed o)
needed-step (step_refused r) = step_refused r
needed-step (step-passed {a = Some v}) = step-passed
needed-step (step-passed {a = None}) = step_refused malformed

zero-step : {o : Result (Option ℕ) Refusal} → OfStep o → OfStep (or_zero o)
zero-step (step_refused r) = step_refused r
zero-step (step-passed {a = Some v}) = step-passed
zero-step (step-passed {a = None}) = step-passed

index-then : {B : Type 0} {r : Read} → OfRead r → (f : List (List ℕ) → ℕ → Result B Refusal) → ((l : List (List ℕ)) (k : ℕ) → OfStep (f l k)) → OfStep (index_then r f)
index-then (read_refused r) f h = step_refused r
index-then (read_found {items} {end}) f h = h items end

-- ---- a font

locals-refusal : (b : List ℕ) (offset : ℕ) {o : Result (Option ℕ) Refusal} → OfStep o → OfStep (locals_at b offset o)
unfolding locals_at
locals-refusal b offset (step_refused r) = step_refused r
locals-refusal b offset (step-passed {a = Some v}) = index-step (index-refusal b (offset + v))
locals-refusal b offset (step-passed {a = None}) = step-passed

private-data-refusal : (b : List ℕ) (size offset : ℕ) → OfStep (private_data b size offset)
unfolding private_data
private-data-refusal b size offset =
    of-both OfStep (ltb (length b) (offset + size)) (step_refused truncated)
    (then-refusal (dict-refusal (take size (drop offset b))) _ (λ es.
    then-refusal (locals-refusal b offset (offset-refusal subrs es)) _ (λ l. step-passed)))

private-at-refusal : (b : List ℕ) {p : Result (Option PrivateEntry) Refusal} → OfStep p → OfStep (private_at b p)
unfolding private_at
private-at-refusal b (step_refused r) = step_refused r
private-at-refusal b (step-passed {a = Some q}) = private-data-refusal b q.size q.offset
private-at-refusal b (step-passed {a = None}) = step-passed

privates-refusal : (b : List ℕ) (ds : List (List ℕ)) → OfStep (privates_at b ds)
unfolding privates_at
privates-refusal b [] = step-passed
privates-refusal b (d ∷ ds) =
    then-refusal (dict-refusal d) _ (λ es.
    then-refusal (private-at-refusal b (private-refusal es)) _ (λ p.
    then-refusal (privates-refusal b ds) _ (λ ps. step-passed)))

ids-refusal : (b : List ℕ) (n v : ℕ) → OfStep (ids_at b n v)
unfolding ids_at
ids-refusal b n v =
    of-both OfStep (eqb v 0) step-passed (of-both OfStep (ltb v 3) (step_refused unsupported) (charset-refusal b v n))

fds_refusal : (b : List ℕ) (n : ℕ) {o : Result (Option ℕ) Refusal} → OfStep o → OfStep (fds_at b n o)
unfolding fds_at
fds_refusal b n (step_refused r) = step_refused r
fds_refusal b n (step-passed {a = Some v}) = fd-select-refusal b v n
fds_refusal b n (step-passed {a = None}) = step-passed

encoding-got-refusal : (b : List ℕ) (v : ℕ) → OfStep (encoding_got b v)
unfolding encoding_got
encoding-got-refusal b v = then-refusal (of-both OfStep (ltb v 2) step-passed (encoding-refusal b v)) _ (λ u. step-passed)

-- a list that may not be empty
some-refusal : (n : ℕ) → OfStep {A = Unit} (pick (eqb n 0) (Err Malformed) (Ok tt))
some-refusal n = of-both OfStep (eqb n 0) (step_refused malformed) step-passed

cid_refusal : (b : List ℕ) (es : List Entry) (n : ℕ) → OfStep (cid_parts b es n)
unfolding cid_parts
cid_refusal b es n =
    then-refusal (then-refusal (needed-step (offset-refusal fd_array es)) _ (λ at. index-step (index-refusal b at))) _ (λ dicts.
    then-refusal (privates-refusal b dicts) _ (λ ps.
    then-refusal (some-refusal (length ps)) _ (λ u.
    then-refusal (fds_refusal b n (offset-refusal fd_select_lem es)) _ (λ l.
    of-both OfStep (all_below (length ps) l) step-passed (step_refused malformed)))))

name-refusal : (b : List ℕ) (es : List Entry) (n : ℕ) → OfStep (name_parts b es n)
unfolding name_parts
name-refusal b es n =
    then-refusal (private-at-refusal b (private-refusal es)) _ (λ p.
    then-refusal (then-refusal (zero-step (offset-refusal encoding es)) _ (encoding-got-refusal b)) _ (λ u. step-passed))

font-refusal : (b : List ℕ) (strings globals : List (List ℕ)) (top : List ℕ) → OfStep (font_at b strings globals top)
unfolding font_at
font-refusal b strings globals top =
    then-refusal (dict-refusal top) _ (λ es.
    then-refusal (type_refusal es) _ (λ u.
    then-refusal (then-refusal (needed-step (offset-refusal char_strings es)) _ (λ at. index-step (index-refusal b at))) _ (λ charstrings.
    then-refusal (some-refusal (length charstrings)) _ (λ w.
    then-refusal (then-refusal (zero-step (offset-refusal charset es)) _ (ids-refusal b (length charstrings))) _ (λ ids.
    then-refusal (of-both OfStep (cid_keyed es) (cid_refusal b es (length charstrings)) (name-refusal b es (length charstrings))) _ (λ parts. step-passed))))))

fonts_refusal : (b : List ℕ) (strings globals tops : List (List ℕ)) → OfStep (fonts_at b strings globals tops)
unfolding fonts_at
fonts_refusal b strings globals [] = step-passed
fonts_refusal b strings globals (t ∷ ts) =
    then-refusal (font-refusal b strings globals t) _ (λ p. then-refusal (fonts_refusal b strings globals ts) _ (λ ps. step-passed))

first-refusal : (ps : List Program) → OfStep (first_of ps)
first-refusal [] = step_refused malformed
first-refusal (p ∷ ps) = step-passed

set-refusal : (b : List ℕ) (at : ℕ) → OfStep (set_at b at)
unfolding set_at
set-refusal b at =
    index-then (index-refusal b at) _ (λ names at₁.
    index-then (index-refusal b at₁) _ (λ tops at₂.
    index-then (index-refusal b at₂) _ (λ strings at₃.
    index-then (index-refusal b at₃) _ (λ globals at₄.
    of-both OfStep (eqb (length names) (length tops)) (then-refusal (fonts_refusal b strings globals tops) first_of first-refusal) (step_refused malformed)))))

-- ---- the whole

table_step : (b : List ℕ) → OfStep (read_table b)
unfolding read_table
table_step b =
    of-both OfStep (ltb (length b) 4) (step_refused truncated)
    (of-both OfStep (eqb (get_or b 0 0) 1) (set-refusal b (get_or b 2 0)) (step_refused unsupported))

refused_same : {A : Type 0} (m n : Refusal) → ◌≡◌ {A = Result A Refusal} (Err m) (Err n) → m ≡ n
refused_same m n e = cc

-- the refusal of a step
refused_number : {A : Type 0} {e : Refusal} → OfStep {A = A} (Err e) → ByReading e
refused_number (step_refused r) = r

-- a refusal of reading a file, by its number: from 1 to 5, or 15
pub record FileRefusal (e : Refusal) : Type 0 where
  pub least : 1 ≤ number_of e
  pub most : number_of e ≤ 15
  pub only : 5 < number_of e → number_of e ≡ 15

of-font : {e : Refusal} → ByReading e → FileRefusal e
of-font r = record { least = r.least; most = omega (arith, r.most); only = λ h. absurd (omega (arith, h, r.most)) }

no_table : FileRefusal NoTable
no_table = record { least = omega arith; most = omega arith; only = λ h. omega arith }

pub reading-refusal : (b : List ℕ) (n : Refusal) → read_font b ≡ Err n → FileRefusal n
unfolding read_font
reading-refusal b n = go (place_of b) (place-numbered FileRefusal (of-font truncated) (of-font too_long) no_table b)
  where
    go : (x : Result TableAt Refusal) → Numbered FileRefusal x → read_at b x ≡ Err n → FileRefusal n
    go (Err m) r e = subst FileRefusal (refused_same m n e) r
    go (Ok t) r e = of-font (refused_number (subst OfStep e (table_step (part_of b t.start t.len))))
