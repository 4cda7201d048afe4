-- What holds of the parts of every font that was read (TN5176): the items of an INDEX are bytes, and few; the entries of a Private DICT are
-- proper; ids and FDs are as many as the glyphs, and fit their fields.
use Rattle.std.specs.Prelude.{ℕ, zero, suc, ◌+◌, ◌<◌, ◌≡◌, refl, Bool, ltb, eqb, length, take, drop, get_or, Result, Ok, Err, Option, Some, None}
use Rattle.std.proofs.Common.{ap, arith, ltb-true, ltb-false, lit<}
use Rattle.std.proofs.Math.Path.{subst}
use Rattle.std.proofs.Math.Bool.{true, false}
use mathlib.Core.List.{List, [], ◌∷◌}
use Rattle.std.proofs.Math.ListN.{get_or-eq_default}
use Rattle.octets.specs.Pick.{pick}
use Rattle.octets.specs.Octets.{Octets}
use Rattle.octets.specs.Lists.{all_below}
use Rattle.index.specs.Index.{Read, refused as refusedRead, found, read_index}
use Rattle.index.proofs.FoundLaws.{part_octets, found-good, found-read, read-bounds, item_octets}
use Rattle.index.specs.IndexLaws.{items-length}
use Rattle.dict.specs.Dict.{dict_of}
use Rattle.dict.specs.Op.{subrs}
use Rattle.dict.specs.Lookup.{offset_in, private_in}
use Rattle.dict.specs.Proper.{AllProper}
use Rattle.dict.proofs.ProperLaws.{dict_proper}
use Rattle.charset.specs.Listed.{list_of}
use Rattle.charset.specs.ListedLaws.{list_length, list_below}
use Rattle.charset.specs.Charset.{charset_at, iso_adobe}
use Rattle.charset.specs.CharsetBytes.{Ids}
use Rattle.charset.specs.CharsetPlaces.{table_at, predefined, ids_of, GoodCharset, charset_answer}
use Rattle.charset.specs.CharsetFound.{found-good as charset-good, found-ids, predefined-ids, predefined-good, good_length, good-small, good-first}
use Rattle.charset.specs.declared.Charset.{Charset}
use Rattle.charset.specs.FdSelect.{fd_select_at, no_fds}
use Rattle.charset.specs.FdPlaces.{select_at, select_answer, fd_of, fds_of}
use Rattle.charset.specs.FdFound.{found_fds, fds_small}
use Rattle.cff.specs.Font.{then, Private, index_got, not_none, locals_at, private_data, private_at, privates_at, ids_at, fds_at, index_then, empty_private}
use Rattle.cff.specs.ReadsLaws.{no}
use Rattle.faithful.specs.Laid.{GoodBodies}
use Rattle.dict.specs.declared.PrivateEntry.{PrivateEntry}
use Rattle.refusal.specs.declared.Refusal.{Refusal}
use Rattle.refusal.specs.declared.Refusal.TheVariants.{Truncated, Unsupported}

-- ---- steps that gave something

-- a step and the next: what each gave
pub then_gave : {A B : Type 0} (g : Result A Refusal) (f : A → Result B Refusal) (y : B) → then g f ≡ Ok y → (a : A) × (g ≡ Ok a) × (f a ≡ Ok y)
then_gave (Err n) f y h = absurd (no cc)
then_gave (Ok a) f y h = (a, refl, h)

-- one step gives one thing
pub got_same : {A : Type 0} (a c : A) → ◌≡◌ {A = Result A Refusal} (Ok a) (Ok c) → a ≡ c
got_same a c h = cc

-- an INDEX and what stands behind it
pub index_gave : {B : Type 0} (r : Read) (f : List (List ℕ) → ℕ → Result B Refusal) (y : B) → index_then r f ≡ Ok y
    → (items : List (List ℕ)) × (end : ℕ) × (r ≡ found items end) × (f items end ≡ Ok y)
index_gave (refusedRead n) f y h = absurd (no cc)
index_gave (found items end) f y h = (items, end, refl, h)

-- past a test that refuses
pub test-past : {A : Type 0} (t : Bool) (n : Refusal) (g : Result A Refusal) (y : A) → pick t (Err n) g ≡ Ok y → g ≡ Ok y
test-past true n g y h = absurd (no cc)
test-past false n g y h = h

-- past a test that must hold
pub test-held : {A : Type 0} (t : Bool) (n : Refusal) (g : Result A Refusal) (y : A) → pick t g (Err n) ≡ Ok y → (t ≡ true) × (g ≡ Ok y)
test-held true n g y h = (refl, h)
test-held false n g y h = absurd (no cc)

-- an INDEX that was got
pub index-got : (r : Read) (items : List (List ℕ)) → index_got r ≡ Ok items → (end : ℕ) × (r ≡ found items end)
index-got (refusedRead n) items h = absurd (no cc)
index-got (found l end) items h = let e : l ≡ items = cc in (end, ap (λ x. found x end) e)

-- a count that must not be 0 is not
pub some-got : (n : ℕ) → not_none n ≡ Ok tt → 0 < n
some-got zero h = absurd (no cc)
some-got (suc n) h = omega arith

-- ---- bodies

-- no body at all
none-good : GoodBodies []
none-good = record { count = lit< tt; octets = λ i j. lit< tt }

module _ (b : List ℕ) (o : Octets b) where
  -- the items of an INDEX that was read are bytes, and few
  pub index-good : (at : ℕ) (items : List (List ℕ)) (end : ℕ) → read_index b at ≡ found items end → GoodBodies items
  index-good at items end h =
      record { count = (read-bounds b at items end o h).0; octets = λ i. by-test i (ltb i (length items)) refl }
    where
      by-test : (i : ℕ) (t : Bool) → ltb i (length items) ≡ t → Octets (get_or items i [])
      by-test i true e =
          let f = found-read b at items end h in
          let k : i < f.0.count = omega (arith, ltb-true i (length items) e, items-length b f.0, ap length f.2) in
          subst (λ l. Octets (get_or l i [])) f.2 (item_octets b f.0 (found-good b at f.0 f.1) i k o)
      by-test i false e =
          let k = get_or-eq_default items [] (ltb-false i (length items) e) in
          rw k (λ j. lit< tt)

  -- the items of an INDEX that an offset names
  pub offset-good : (g : Result ℕ Refusal) (items : List (List ℕ)) → then g (λ at. index_got (read_index b at)) ≡ Ok items → GoodBodies items
  offset-good g items h =
      let t = then_gave g (λ at. index_got (read_index b at)) items h in
      let i = index-got (read_index b t.0) items t.2 in
      index-good t.0 items i.0 i.1

  -- the local subroutines of a Private DICT
  locals-good : (offset : ℕ) (s : Result (Option ℕ) Refusal) (items : List (List ℕ)) → locals_at b offset s ≡ Ok items → GoodBodies items
  unfolding locals_at
  locals-good offset (Ok None) items h = let e : [] ≡ items = cc in subst GoodBodies e none-good
  locals-good offset (Err n) items h = absurd (no cc)
  locals-good offset (Ok (Some v)) items h =
      let i = index-got (read_index b (offset + v)) items h in
      index-good (offset + v) items i.0 i.1

-- ---- Private DICTs

-- a Private DICT of proper entries, with subroutines that are bytes, and few
pub record Sound (q : Private) : Type 0 where
  pub proper : AllProper q.entries
  pub bodies : GoodBodies q.locals

-- the empty Private DICT is one of them
pub none_sound : Sound empty_private
unfolding AllProper
none_sound = record { proper = tt; bodies = none-good }

-- a Private DICT in front of others
pub sound_front : (q : Private) (qs : List Private) → Sound q → ((f : ℕ) → Sound (get_or qs f empty_private)) → (f : ℕ) → Sound (get_or (q ∷ qs) f empty_private)
sound_front q qs s r zero = s
sound_front q qs s r (suc f) = r f

module _ (b : List ℕ) (o : Octets b) where
  -- the Private DICT at a place
  data_sound : (size offset : ℕ) (q : Private) → private_data b size offset ≡ Ok q → Sound q
  unfolding private_data
  data_sound size offset q h =
      let k = test-past (ltb (length b) (offset + size)) Truncated _ q h in
      let d = then_gave (dict_of (take size (drop offset b))) _ q k in
      let l = then_gave (locals_at b offset (offset_in subrs d.0)) _ q d.2 in
      let e : record { entries = d.0; locals = l.0 } ≡ q = cc in
      subst Sound e
      (record {
        proper = dict_proper (take size (drop offset b)) (part_octets b size offset o) d.0 d.1;
        bodies = locals-good b o offset _ l.0 l.1;
      })

  -- the Private DICT that a DICT names
  pub private_sound : (s : Result (Option PrivateEntry) Refusal) (q : Private) → private_at b s ≡ Ok q → Sound q
  unfolding private_at
  private_sound (Ok None) q h = let e : empty_private ≡ q = cc in subst Sound e none_sound
  private_sound (Err n) q h = absurd (no cc)
  private_sound (Ok (Some q')) q h = data_sound q'.size q'.offset q h

  -- those of the FDs
  pub privates_sound : (ds : List (List ℕ)) (qs : List Private) → privates_at b ds ≡ Ok qs → (f : ℕ) → Sound (get_or qs f empty_private)
  unfolding privates_at
  privates_sound [] qs h f = let e : [] ≡ qs = cc in subst (λ l. Sound (get_or l f empty_private)) e none_sound
  privates_sound (d ∷ ds) qs h f =
      let x = then_gave (dict_of d) _ qs h in
      let y = then_gave (private_at b (private_in x.0)) _ qs x.2 in
      let z = then_gave (privates_at b ds) _ qs y.2 in
      let e : y.0 ∷ z.0 ≡ qs = cc in
      subst (λ l. Sound (get_or l f empty_private)) e
      (sound_front y.0 z.0 (private_sound (private_in x.0) y.0 y.1) (privates_sound ds z.0 z.1) f)

-- ---- ids

-- the ids of n glyphs: one for each, of two bytes, that of glyph 0 is 0
pub record IdsFor (n : ℕ) (l : List ℕ) : Type 0 where
  pub count : length l ≡ n
  pub small : Ids l
  pub first : get_or l 0 0 ≡ 0

module _ (b : List ℕ) (o : Octets b) (n : ℕ) (few : n < 65536) (some : 0 < n) where
  -- those of a charset that reading does not refuse
  charset-ids : (c : Charset) → 0 < c.own → GoodCharset b c n → IdsFor n (ids_of b c n)
  charset-ids c own g = record { count = good_length b c n g; small = good-small b c n o g; first = good-first b c n g own some }

  -- ISOAdobe
  own-ids : IdsFor n (iso_adobe n)
  own-ids = subst (IdsFor n) (predefined-ids b n few) (charset-ids predefined (lit< tt) (predefined-good b n few))

  -- the table at a place
  table-ids : (v : ℕ) (l : List ℕ) → charset_at b v n ≡ Ok l → IdsFor n l
  table-ids v l h =
      let f = ap (charset_answer (table_at b v)) h in
      let e : ids_of b (table_at b v) n ≡ l = cc (found-ids b v n (table_at b v) few f) in
      subst (IdsFor n) e (charset-ids (table_at b v) (lit< tt) (charset-good b v n (table_at b v) few f))

  -- the charset at an offset
  pub ids-good : (v : ℕ) (l : List ℕ) → ids_at b n v ≡ Ok l → IdsFor n l
  unfolding ids_at
  ids-good v l h = by-offset (eqb v 0) h
    where
      by-offset : (t : Bool) → pick t (Ok (iso_adobe n)) (pick (ltb v 3) (Err Unsupported) (charset_at b v n)) ≡ Ok l → IdsFor n l
      by-offset true k = let e : iso_adobe n ≡ l = cc in subst (IdsFor n) e own-ids
      by-offset false k = table-ids v l (test-past (ltb v 3) Unsupported _ l k)

-- ---- FDs

-- the FDs of n glyphs: one for each, of a byte
pub record FdsFor (n : ℕ) (l : List ℕ) : Type 0 where
  pub count : length l ≡ n
  pub small : Octets l

-- without an FDSelect
pub no-fds : (n : ℕ) → FdsFor n (no_fds n)
no-fds n = record { count = list_length (λ g. 0) 0 n; small = λ i. list_below (λ g. 0) 256 0 n i (lit< tt) (λ j. lit< tt) }

-- all of which are 0
pub no_fds_below : (s n : ℕ) → all_below 1 (list_of (λ g. 0) s n) ≡ true
unfolding all_below list_of
no_fds_below s zero = refl
no_fds_below s (suc n) = no_fds_below (s + 1) n

module _ (b : List ℕ) (o : Octets b) (n : ℕ) where
  -- the table at a place
  table_fds : (v : ℕ) (l : List ℕ) → fd_select_at b v n ≡ Ok l → FdsFor n l
  table_fds v l h =
      let s = select_at b v n in
      let e : fds_of b s n ≡ l = cc (found_fds b v n s (ap (select_answer s) h)) in
      subst (FdsFor n) e (record { count = list_length (fd_of b s) 0 n; small = fds_small b s n o })

  -- FDSelect, where it is there
  pub fds_good : (s : Result (Option ℕ) Refusal) (l : List ℕ) → fds_at b n s ≡ Ok l → FdsFor n l
  unfolding fds_at
  fds_good (Ok None) l h = let e : no_fds n ≡ l = cc in subst (FdsFor n) e (no-fds n)
  fds_good (Err m) l h = absurd (no cc)
  fds_good (Ok (Some v)) l h = table_fds v l h
