-- A charset that was read (TN5176, section 13): its ids are those of the table, a glyph's lookup and a cursor are at home in it, and a cursor goes through
-- them one after the other.
use Rattle.std.specs.Prelude.{ℕ, zero, suc, ◌+◌, ◌≤◌, ◌<◌, ◌≡◌, refl, List, [], ◌∷◌, length, drop, get_or, ltb, Result, Ok, Err}
use Rattle.std.proofs.Common.{sym, ◌∙◌, subst, add-one, arith, ltb-false, drop-cons}
use Rattle.std.proofs.Math.Path.{ap}
use Rattle.charset.specs.Listed.{numbers_of}
use Rattle.charset.specs.Charset.{ids_from, charset_at, iso_adobe}
use Rattle.charset.specs.CharsetPlaces.{table_at, predefined, ids_of, GoodCharset, charset_answer, charset_start, next_id, StandsId, ReadyId}
use Rattle.octets.specs.Octets.{Octets, num_at}
use Rattle.octets.specs.OctetsLaws.{num-two}
use Rattle.charset.specs.CharsetLaws.{range-cut}
use Rattle.charset.specs.IdLaws.{own_id}
use Rattle.charset.specs.CharsetBytes.{Ids}
use Rattle.charset.specs.IdCursorLaws.{test-passed, id_on, id_met, ready, step_id, step-next}
use Rattle.charset.specs.declared.Charset.{Charset}
use Rattle.charset.specs.declared.CharsetCursor.{CharsetCursor}
use Rattle.refusal.specs.declared.Refusal.{Refusal}

at_front : (x : ℕ) (l : List ℕ) → x < 65536 → Ids l → Ids (x ∷ l)
at_front x l h k zero = h
at_front x l h k (suc j) = k j

-- there is an id for each glyph
pub ids-length : (w k i left : ℕ) (bs l : List ℕ) → ids_from w k i left bs ≡ Ok l → length l ≡ k
unfolding ids_from
ids-length w zero i left bs l h = let e : [] ≡ l = cc in sym (ap length e)
ids-length w (suc k) i (suc left) bs l h =
    let o = id_on w k i left bs l h in
    ap length o.1 ∙ ap suc (ids-length w k (i + 1) left bs (drop 1 l) o.2)
ids-length w (suc k) i zero bs l h =
    let o = id_met bs 0 w k i l h in
    ap length o.1 ∙ ap suc (ids-length w k _ _ _ (drop 1 l) o.2)

-- ---- what reading found

found-listed : (c d : Charset) (r : Result (List ℕ) Refusal) → charset_answer c r ≡ Ok d → (c ≡ d) × (r ≡ Ok (numbers_of r))
found-listed c d (Err e) h = cc
found-listed c d (Ok l) h = (cc, refl)

pub refused_is : (c : Charset) (r : Result (List ℕ) Refusal) (e : Refusal) → charset_answer c r ≡ Err e → r ≡ Err e
refused_is c (Err d) e h = cc
refused_is c (Ok l) e h = cc

-- a table that is not refused has its format byte
format_there : (b : List ℕ) (at n : ℕ) (l : List ℕ) → charset_at b at n ≡ Ok l → at < length b
unfolding charset_at
format_there [] zero n l h = cc
format_there [] (suc at) n l h = cc
format_there (x ∷ b) zero n l h = omega arith
format_there (x ∷ b) (suc at) n l h = omega (arith, format_there b at n l h)

table-ids : (b : List ℕ) (at n : ℕ) (l : List ℕ) → charset_at b at n ≡ Ok l
    → (get_or b at 0 ≤ 2) × (ids_from (get_or b at 0) n 0 1 (drop (at + 1) b) ≡ Ok l)
unfolding charset_at
table-ids b at n l h =
    let k = rw (drop-cons b at 0 (format_there b at n l h)) at h in
    let t = test-passed (ltb 2 (get_or b at 0)) _ _ l k in
    (ltb-false 2 (get_or b at 0) t.0, rw add-one t.1)

module _ (b : List ℕ) (at n : ℕ) (c : Charset) (few : n < 65536) (found : charset_answer (table_at b at) (charset_at b at n) ≡ Ok c) where
  is : (table_at b at ≡ c) × (charset_at b at n ≡ Ok (numbers_of (charset_at b at n)))
  is = found-listed (table_at b at) c (charset_at b at n) found

  table-good : GoodCharset b (table_at b at) n
  unfolding ids_of
  table-good =
      let t = table-ids b at n _ is.1 in
      record { narrow = t.0; few = few; sound = t.1 ∙ ap Ok (sym (ap numbers_of t.1)) }

  -- the charset serves to look ids up
  pub found-good : GoodCharset b c n
  found-good = subst (λ (d : Charset). GoodCharset b d n) is.0 table-good

  -- and its ids are those of the table
  pub found-ids : charset_at b at n ≡ Ok (ids_of b c n)
  unfolding ids_of
  found-ids =
      let t = table-ids b at n _ is.1 in
      is.1 ∙ ap Ok (sym (ap numbers_of t.1)) ∙ ap (λ (d : Charset). Ok (ids_of b d n)) is.0

-- ---- the predefined charset

module _ (b : List ℕ) (n : ℕ) (few : n < 65536) where
  own-numbers : ids_from 0 n 0 65536 b ≡ Ok (iso_adobe n)
  own-numbers = range-cut 0 n 0 65536 b (omega arith) (omega arith)

  pub predefined-ids : ids_of b predefined n ≡ iso_adobe n
  unfolding ids_of
  predefined-ids = ap numbers_of own-numbers

  pub predefined-good : GoodCharset b predefined n
  predefined-good = record { narrow = omega arith; few = few; sound = own-numbers ∙ ap Ok (sym predefined-ids) }

-- ---- glyph after glyph

pub good_length : (b : List ℕ) (c : Charset) (n : ℕ) → GoodCharset b c n → length (ids_of b c n) ≡ n
good_length b c n g = ids-length c.width n 0 c.own (drop c.at b) (ids_of b c n) g.sound

-- a cursor begins before all glyphs
pub id_start : (b : List ℕ) (c : Charset) (n : ℕ) → GoodCharset b c n → StandsId b (charset_start c) (ids_of b c n)
id_start b c n g =
    record {
      narrow = g.narrow;
      gives = subst (λ (k : ℕ). ids_from c.width k 0 c.own (drop c.at b) ≡ Ok (ids_of b c n)) (sym (good_length b c n g)) g.sound;
    }

-- before glyph k a step can be taken, gives its id, and ends before glyph k + 1
module _ (b : List ℕ) (u : CharsetCursor) (ids : List ℕ) (k : ℕ) (h : k < length ids) (s : StandsId b u (drop k ids)) where
  at_glyph : StandsId b u (get_or ids k 0 ∷ drop (suc k) ids)
  at_glyph = subst (StandsId b u) (drop-cons ids k 0 h) s

  pub id_ready : ReadyId b u
  id_ready = ready b u (get_or ids k 0) (drop (suc k) ids) at_glyph

  pub id_step : (next_id b u).id ≡ get_or ids k 0
  id_step = step_id b u (get_or ids k 0) (drop (suc k) ids) at_glyph

  pub id_next : StandsId b (next_id b u).next (drop (k + 1) ids)
  id_next = rw add-one (step-next b u (get_or ids k 0) (drop (suc k) ids) at_glyph)

-- ---- the ids themselves

-- ids fit two bytes
ids-small : (b : List ℕ) → Octets b → (w k i left q : ℕ) (l : List ℕ) → ids_from w k i left (drop q b) ≡ Ok l → Ids l
unfolding ids_from
ids-small b o w zero i left q l h j = let e : l ≡ [] = cc in rw e (omega arith)
ids-small b o w (suc k) i (suc left) q l h j =
    let r = id_on w k i left (drop q b) l h in
    rw r.1 (at_front i (drop 1 l) r.0 (ids-small b o w k (i + 1) left q (drop 1 l) r.2) j)
ids-small b o w (suc k) i zero q l h j =
    let r = id_met b q w k i l h in
    let n : num_at b q 2 < 65536 = omega (arith, num-two b q (omega (arith, r.0)), o q, o (q + 1)) in
    rw r.1 (at_front (num_at b q 2) (drop 1 l) n (ids-small b o w k (num_at b q 2 + 1) (num_at b (q + 2) w) (q + 2 + w) (drop 1 l) r.2) j)

pub good-small : (b : List ℕ) (c : Charset) (n : ℕ) → Octets b → GoodCharset b c n → Ids (ids_of b c n)
good-small b c n o g = ids-small b o c.width n 0 c.own c.at (ids_of b c n) g.sound

-- glyph 0 has id 0
pub good-first : (b : List ℕ) (c : Charset) (n : ℕ) → GoodCharset b c n → 0 < c.own → 0 < n → get_or (ids_of b c n) 0 0 ≡ 0
good-first b c n g h m = sym (own_id b c n 0 g m h)
