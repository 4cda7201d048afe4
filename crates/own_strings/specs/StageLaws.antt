-- Laws of slots and of glyph names that are used in a row: how the own strings grow, that ids that were given stay, and one turn of the
-- loops that give ids.
use Rattle.std.specs.Prelude.{ℕ, zero, suc, ◌+◌, ◌*◌, ◌/◌, ◌<◌, ◌≤◌, ◌≡◌, refl, true, take, get_or, Option, Some, None}
use Rattle.std.proofs.Common.{sym, ap, ◌∙◌, not-suc-le-zero, ext_get_or}
use mathlib.Core.List.{List, [], ◌∷◌}
use native.Mathlib.Omega.{arith}
use Rattle.std.proofs.Math.ListN.{length, drop, length-append}
use Rattle.prune.specs.StepLaws.{zero_one}
use Rattle.index.specs.Write.{total}
use Rattle.index.specs.WriteLaws.{total-append}
use Rattle.strings.specs.Strings.{string_text, sid_of}
use Rattle.subset.specs.Texts.{has_text, own_strings_lem, new_id}
use Rattle.subset.specs.Subset.{new_ids}
use Rattle.own_strings.specs.declared.Own.{Own}
use Rattle.own_strings.specs.Slots.{slot_texts, slot_id, slot_ids, word_names, word_ids, own_of, given_id, counted}
use Rattle.subset.proofs.TextsLaws.{has-head, has_right, own-has}
use Rattle.own_strings.specs.OwnLaws.{new-keeps}
use Rattle.own_strings.specs.SlotLaws.{used, used-first, stage-more, stage-rest, Using, standard, there, new, use-cases, used-standard, used_there, used-new, other_high, Step, next, stays, step, counted_is, given_is}

-- ---- how many own strings, and how long

module _ (strings : List (List ℕ)) (short : (x : ℕ) → 391 ≤ x → length (string_text strings x) ≤ 67108864) where
  -- the use of a slot adds at most one, which is a text of the font
  used-bound : (own : List (List ℕ)) (x : ℕ) → Using strings own x
      → (length (used strings own (Some x)) ≤ length own + 1) × (total (used strings own (Some x)) ≤ total own + 67108864)
  unfolding total
  used-bound own x (standard k e) = let u = used-standard strings own x k e in rw u (omega arith, omega arith)
  used-bound own x (there o h) = let u = used_there strings own x o h in rw u (omega arith, omega arith)
  used-bound own x (new o h) =
      let u = used-new strings own x o h in
      let t = string_text strings x in
      let b = short x (other_high strings own x o) in
      let l = length-append own (t ∷ []) in
      let m = total-append own (t ∷ []) in
      rw u (omega arith, omega arith)

  -- and the use of many at most so many
  pub own-bound : (own : List (List ℕ)) (xs : List (Option ℕ))
      → (length (own_strings_lem own (slot_texts strings xs)) ≤ length own + length xs)
      × (total (own_strings_lem own (slot_texts strings xs)) ≤ total own + length xs * 67108864)
  unfolding own_strings_lem slot_texts
  own-bound own [] = (omega arith, omega arith)
  own-bound own (None ∷ xs) = let f = own-bound own xs in (omega (arith, f.0), omega (arith, f.1))
  own-bound own (Some x ∷ xs) =
      let u = used-bound own x (use-cases strings own x) in
      let f = own-bound (used strings own (Some x)) xs in
      let e = used-first strings own (Some x) xs in
      rw e (omega (arith, f.0, u.0), omega (arith, f.1, u.1))

-- ---- ids of slots

pub ids-length : (own strings : List (List ℕ)) (xs : List (Option ℕ)) → length (slot_ids own strings xs) ≡ length xs
unfolding slot_ids
ids-length own strings [] = refl
ids-length own strings (x ∷ xs) = ap suc (ids-length own strings xs)

pub ids_at : (own strings : List (List ℕ)) (xs : List (Option ℕ)) (j : ℕ) → j < length xs → get_or (slot_ids own strings xs) j 0 ≡ slot_id own strings (get_or xs j None)
unfolding slot_ids
ids_at own strings [] j h = absurd (not-suc-le-zero h)
ids_at own strings (x ∷ xs) zero h = refl
ids_at own strings (x ∷ xs) (suc j) h = ids_at own strings xs j (omega arith)

-- the text of a slot is among the texts
text_in : (strings : List (List ℕ)) (xs : List (Option ℕ)) (j x : ℕ) → get_or xs j None ≡ Some x → has_text (string_text strings x) (slot_texts strings xs) ≡ true
unfolding slot_texts
text_in strings [] j x e = absurd (zero_one cc)
text_in strings (None ∷ xs) zero x e = absurd (zero_one cc)
text_in strings (Some y ∷ xs) zero x e =
    let f : y ≡ x = cc in
    ap (λ (z : ℕ). has_text (string_text strings x) (string_text strings z ∷ slot_texts strings xs)) f ∙ has-head (string_text strings x) (string_text strings x) (slot_texts strings xs) refl
text_in strings (None ∷ xs) (suc j) x e = text_in strings xs j x e
text_in strings (Some y ∷ xs) (suc j) x e = has_right (string_text strings x) (string_text strings y ∷ []) (slot_texts strings xs) (text_in strings xs j x e)

-- the id of a slot stays when more texts are used
module _ (strings : List (List ℕ)) (xs : List (Option ℕ)) (ts : List (List ℕ)) where
  abbrev of : List (List ℕ)
  of = own_strings_lem [] (slot_texts strings xs)

  keeps-by : (j : ℕ) (o : Option ℕ) → get_or xs j None ≡ o → slot_id (own_strings_lem of ts) strings o ≡ slot_id of strings o
  unfolding slot_id
  keeps-by j None e = refl
  keeps-by j (Some x) e =
      let t = string_text strings x in
      new-keeps t of ts (λ o. own-has t (slot_texts strings xs) [] o (text_in strings xs j x e))

  pub slot-keeps : (j : ℕ) → slot_id (own_strings_lem of ts) strings (get_or xs j None) ≡ slot_id of strings (get_or xs j None)
  slot-keeps j = keeps-by j (get_or xs j None) refl

  pub ids-keep : slot_ids (own_strings_lem of ts) strings xs ≡ slot_ids of strings xs
  ids-keep =
      ext_get_or 0 (slot_ids (own_strings_lem of ts) strings xs) (slot_ids of strings xs) (ids-length (own_strings_lem of ts) strings xs ∙ sym (ids-length of strings xs))
      (λ i h. let k : i < length xs = omega (arith, ids-length (own_strings_lem of ts) strings xs) in
      ids_at (own_strings_lem of ts) strings xs i k ∙ slot-keeps i ∙ sym (ids_at of strings xs i k))

-- ---- glyph names as slots

pub names-slots : (strings : List (List ℕ)) (ws : List ℕ) → word_names strings ws ≡ slot_texts strings (word_ids ws)
unfolding word_names slot_texts word_ids
names-slots strings [] = refl
names-slots strings (w ∷ ws) = ap (λ (l : List (List ℕ)). string_text strings (w / 65536) ∷ l) (names-slots strings ws)

pub new-ids-slots : (own strings : List (List ℕ)) (ws : List ℕ) → new_ids own (word_names strings ws) ≡ slot_ids own strings (word_ids ws)
unfolding word_names slot_id slot_ids word_ids new_ids
new-ids-slots own strings [] = refl
new-ids-slots own strings (w ∷ ws) = ap (λ (l : List ℕ). new_id own (string_text strings (w / 65536)) ∷ l) (new-ids-slots own strings ws)

pub word-ids-length : (ws : List ℕ) → length (word_ids ws) ≡ length ws
unfolding word_ids
word-ids-length [] = refl
word-ids-length (w ∷ ws) = ap suc (word-ids-length ws)

pub word-ids-at : (ws : List ℕ) (i : ℕ) → i < length ws → get_or (word_ids ws) i None ≡ Some (get_or ws i 0 / 65536)
unfolding word_ids
word-ids-at [] i h = absurd (not-suc-le-zero h)
word-ids-at (w ∷ ws) zero h = refl
word-ids-at (w ∷ ws) (suc i) h = word-ids-at ws i (omega arith)

pub names_at : (strings : List (List ℕ)) (ws : List ℕ) (i : ℕ) → i < length ws → get_or (word_names strings ws) i [] ≡ string_text strings (get_or ws i 0 / 65536)
unfolding word_names
names_at strings [] i h = absurd (not-suc-le-zero h)
names_at strings (w ∷ ws) zero h = refl
names_at strings (w ∷ ws) (suc i) h = names_at strings ws i (omega arith)

pub names-length : (strings : List (List ℕ)) (ws : List ℕ) → length (word_names strings ws) ≡ length ws
unfolding word_names
names-length strings [] = refl
names-length strings (w ∷ ws) = ap suc (names-length strings ws)

-- the first of them
pub names-take : (strings : List (List ℕ)) (i : ℕ) (ws : List ℕ) → take i (word_names strings ws) ≡ slot_texts strings (take i (word_ids ws))
unfolding word_names slot_texts word_ids
names-take strings zero ws = refl
names-take strings (suc i) [] = refl
names-take strings (suc i) (w ∷ ws) = ap (λ (l : List (List ℕ)). string_text strings (w / 65536) ∷ l) (names-take strings i ws)

-- ---- one turn

-- slots xs are used after own, and slot j, which has string id y, is given its new id after the slots `before`
module _ (strings own : List (List ℕ)) (xs : List (Option ℕ)) (j : ℕ) (h : j < length xs) (before : List (Option ℕ)) (ids : List ℕ) (y : ℕ) (reads : get_or xs j None ≡ Some y)
    (among : sid_of (string_text strings y) ≡ None
    → has_text (string_text strings y) (own_strings_lem own (slot_texts strings (take j xs))) ≡ has_text (string_text strings y) (slot_texts strings before))
    (known : (i : ℕ) → i < length before → get_or ids i 0 ≡ slot_id (own_strings_lem own (slot_texts strings xs)) strings (get_or before i None))
    (so : Own) (counts : so ≡ own_of (own_strings_lem own (slot_texts strings (take j xs)))) (id : ℕ)
    (gives : id ≡ given_id strings before ids so.count (Some y)) where
  abbrev stage : List (List ℕ)
  stage = own_strings_lem own (slot_texts strings (take j xs))

  abbrev all : List (List ℕ)
  all = own_strings_lem own (slot_texts strings xs)

  grows : all ≡ own_strings_lem (used strings stage (Some y)) (slot_texts strings (drop (j + 1) xs))
  grows = stage-rest strings own xs j h ∙ ap (λ (o : Option ℕ). own_strings_lem (used strings stage o) (slot_texts strings (drop (j + 1) xs))) reads

  pub turn_id : id ≡ slot_id all strings (Some y)
  turn_id =
      gives ∙ ap (λ (o : Own). given_id strings before ids o.count (Some y)) counts
      ∙ given_is strings stage before ids y (slot_texts strings (drop (j + 1) xs)) all grows among known

  pub turn-own : (after : Own) → after ≡ counted strings so y id → after ≡ own_of (own_strings_lem own (slot_texts strings (take (j + 1) xs)))
  turn-own after e =
      e ∙ ap (λ (o : Own). counted strings o y id) counts ∙ ap (counted strings (own_of stage) y) turn_id
      ∙ counted_is strings stage y all (slot_texts strings (drop (j + 1) xs)) grows
      ∙ ap own_of (sym (stage-more strings own xs j h ∙ ap (used strings stage) reads))

  below_by : Step strings stage y all → id ≤ 391 + length stage
  below_by (next s) = omega (arith, s.id, turn_id)
  below_by (stays s) = omega (arith, s.id, turn_id)

  -- the id is at most the next
  pub turn_below : id ≤ 391 + length stage
  turn_below = below_by (step strings stage (slot_texts strings (drop (j + 1) xs)) y all grows)
