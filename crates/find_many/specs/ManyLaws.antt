-- Laws of the glyphs of many names and CIDs: by the code's ways out, one name or CID more, and a glyph's CID met.
use Rattle.std.specs.Prelude.{ℕ, ◌+◌, ◌-◌, ◌≤◌, ◌<◌, ◌≡◌, refl, Bool, true, false, not, ltb, eqb, length, take, get_or, set, replicate, Option, Some, Result, Ok, Err}
use Rattle.std.proofs.Math.Path.{sym, ap}
use Rattle.std.proofs.Common.{◌∙◌, subst, add-one, arith, lt-ltb, le-ltb, ltb-true, ltb-false, eq-eqb, ne_eqb, eqb-true, drop_of_length-le, drop-cons, drop-drop, get_or-set_same, get_or-set_other}
use mathlib.Core.List.{List, [], ◌∷◌, map}
use Rattle.std.proofs.lemmas.Bool.{eqb-false}
use Rattle.std.proofs.Math.ListN.{drop}
use Rattle.std.proofs.lemmas.List.{length-replicate, get_or-replicate}
use Rattle.octets.specs.Pick.{pick, pick_ind}
use Rattle.octets.specs.Lists.{sum_of}
use Rattle.octets.specs.Octets.{put}
use Rattle.octets.specs.PutLaws.{put_nil, put_cons}
use Rattle.index.specs.Index.{items_of}
use Rattle.strings.specs.Text.{same_text_lem}
use Rattle.strings.specs.Strings.{string_text}
use Rattle.charset.specs.CharsetPlaces.{ids_of}
use Rattle.charset.specs.CharsetFound.{good_length}
use Rattle.find.specs.Find.{glyph_with_id, glyph_with_text}
use Rattle.find.specs.FindLaws.{id_here, id_later, id_nowhere}
use Rattle.cff.specs.Reads.{program_of, GoodFont}
use Rattle.cff.specs.declared.font.Font.{Font}
use Rattle.find_many.specs.Many.{Glyphs, refused, found, number_for, of_name, names_by, names_in, Finds, Slots, none}
use Rattle.refusal.specs.declared.Refusal.{Refusal}
use Rattle.refusal.specs.declared.Refusal.TheVariants.{Truncated, Output}

-- ---- by the ways out

module _ (old : List ℕ) where
  -- a refusal writes nothing
  pub finds_refused : (n : Refusal) → Finds (refused n) old old (Err n)
  finds_refused n = record { result = refl; glyphs = refl }

  -- too few words are lent
  pub finds-full : (gs : List ℕ) → length old < length gs → Finds (found gs) old old (Err Output)
  finds-full gs h = let t = lt-ltb (length old) (length gs) h in record { result = rw t; glyphs = rw t }

  -- the glyphs stand in front
  pub finds-found : (gs new : List ℕ) → length gs ≤ length old → new ≡ put old 0 gs → Finds (found gs) old new (Ok tt)
  finds-found gs new h e = let t = le-ltb (length old) (length gs) h in record { result = rw t; glyphs = rw t e }

pub finds_as : {f g : Glyphs} {old new : List ℕ} {r : Result Unit Refusal} → Finds f old new r → g ≡ f → Finds g old new r
finds_as {f} {g} {old} {new} {r} h e = subst (λ (x : Glyphs). Finds x old new r) (sym e) h

-- ---- one more of a list

module _ (l : List ℕ) (i : ℕ) (h : i < length l) where
  split : drop i l ≡ get_or l i 0 ∷ drop (i + 1) l
  split = drop-cons l i 0 h ∙ ap (λ (k : ℕ). get_or l i 0 ∷ drop k l) (sym (add-one i))

  pub sum-next : sum_of (drop i l) ≡ get_or l i 0 + sum_of (drop (i + 1) l)
  unfolding sum_of
  sum-next = ap sum_of split

sum-none : (l : List ℕ) (i : ℕ) → length l ≤ i → sum_of (drop i l) ≡ 0
unfolding sum_of
sum-none l i h = ap sum_of (drop_of_length-le l h)

-- ---- whether the lengths fit

-- so much less on both sides
less_by : (left n s : ℕ) → n ≤ left → (t : Bool) → ltb (left - n) s ≡ t → ltb left (n + s) ≡ t
less_by left n s h true e = let k = ltb-true (left - n) s e in lt-ltb left (n + s) (omega arith)
less_by left n s h false e = let k = ltb-false (left - n) s e in le-ltb left (n + s) (omega arith)

module _ (lens : List ℕ) (i left n : ℕ) (h : i < length lens) (e : n ≡ get_or lens i 0) where
  sum_is : sum_of (drop i lens) ≡ n + sum_of (drop (i + 1) lens)
  sum_is = sum-next lens i h ∙ ap (λ (x : ℕ). x + sum_of (drop (i + 1) lens)) (sym e)

  pub fit_short : left < n → false ≡ not (ltb left (sum_of (drop i lens)))
  fit_short k = sym (ap not (lt-ltb left (sum_of (drop i lens)) (omega (arith, sum_is))))

  pub fit_next : n ≤ left → not (ltb left (sum_of (drop i lens))) ≡ not (ltb (left - n) (sum_of (drop (i + 1) lens)))
  fit_next k = ap (λ (x : ℕ). not (ltb left x)) sum_is ∙ ap not (less_by left n (sum_of (drop (i + 1) lens)) k _ refl)

pub fit_all : (lens : List ℕ) (i left : ℕ) → length lens ≤ i → not (ltb left (sum_of (drop i lens))) ≡ true
fit_all lens i left h = ap not (le-ltb left (sum_of (drop i lens)) (omega (arith, sum-none lens i h)))

-- ---- names

pub names-length : (number : List ℕ → ℕ) (lens bytes : List ℕ) → length (map number (names_by lens bytes)) ≡ length lens
unfolding names_by
names-length number [] bytes = refl
names-length number (n ∷ ns) bytes = let h = names-length number ns (drop n bytes) in omega arith

module _ (number : List ℕ → ℕ) (lens bytes : List ℕ) where
  -- the next one is stored
  pub names-turn : (i at n : ℕ) → i < length lens → n ≡ get_or lens i 0 → (words : List ℕ) → i < length words → (x : ℕ) → x ≡ number (take n (drop at bytes))
      → put (set words i x) (i + 1) (map number (names_by (drop (i + 1) lens) (drop (at + n) bytes))) ≡ put words i (map number (names_by (drop i lens) (drop at bytes)))
  unfolding names_by
  names-turn i at n h e words k x f =
      let rest = map number (names_by (drop (i + 1) lens) (drop (at + n) bytes)) in
      let l : drop i lens ≡ n ∷ drop (i + 1) lens = split lens i h ∙ ap (λ (y : ℕ). y ∷ drop (i + 1) lens) (sym e) in
      put_cons words i x rest k
      ∙ ap (λ (y : ℕ). put words i (y ∷ rest)) f
      ∙ ap (λ (y : List ℕ). put words i (number (take n (drop at bytes)) ∷ map number (names_by (drop (i + 1) lens) y))) (sym (drop-drop n at bytes))
      ∙ ap (λ (y : List ℕ). put words i (map number (names_by y (drop at bytes)))) (sym l)

  -- none is left
  pub names_end : (i at : ℕ) → length lens ≤ i → (words : List ℕ) → words ≡ put words i (map number (names_by (drop i lens) (drop at bytes)))
  unfolding names_by
  names_end i at h words =
      sym (ap (λ (y : List ℕ). put words i (map number (names_by y (drop at bytes)))) (drop_of_length-le lens h) ∙ put_nil words i)

-- a name that was found is the name of a glyph of the font
found_below : (strings : List (List ℕ)) (name : List ℕ) (g : ℕ) (ids : List ℕ) (k : ℕ) → glyph_with_text strings name g ids ≡ Some k → k < g + length ids
unfolding glyph_with_text
found_below strings name g [] k e = let z : ◌≡◌ {A = ℕ} 0 1 = cc in absurd (omega arith)
found_below strings name g (x ∷ ids) k e =
    pick_ind (λ (o : Option ℕ). o ≡ Some k → k < g + length (x ∷ ids)) (same_text_lem (string_text strings x) name) (Some g) (glyph_with_text strings name (g + 1) ids)
    (λ t d. let h : g ≡ k = cc in omega arith)
    (λ t d. let h = found_below strings name (g + 1) ids k d in omega arith)
    e

pub found-small : (b : List ℕ) (f : Font) → GoodFont b f → (name : List ℕ) (r : Option ℕ)
    → r ≡ glyph_with_text (items_of b f.strings) name 0 (ids_of b f.charset f.charstrings.count) → (g : ℕ) → r ≡ Some g → g < 65536
found-small b f good name r e g i =
    let h = found_below (items_of b f.strings) name 0 (ids_of b f.charset f.charstrings.count) g (sym e ∙ i) in
    omega (arith, h, good_length b f.charset f.charstrings.count good.ids, good.ids.few)

-- by the lengths: refused, too few words, or found
module _ (b : List ℕ) (f : Font) (bytes lens old : List ℕ) where
  abbrev gs : List ℕ
  gs = map (of_name (program_of b f)) (names_by lens bytes)

  names_fit : ltb (length bytes) (sum_of lens) ≡ false → names_in (program_of b f) bytes lens ≡ found gs
  unfolding names_in
  names_fit t = ap (λ (x : Bool). pick x (refused Truncated) (found gs)) t

  pub names_long : ltb (length bytes) (sum_of lens) ≡ true → Finds (names_in (program_of b f) bytes lens) old old (Err Truncated)
  unfolding names_in
  names_long t = finds_as (finds_refused old Truncated) (ap (λ (x : Bool). pick x (refused Truncated) (found gs)) t)

  pub names-full : ltb (length bytes) (sum_of lens) ≡ false → length old < length lens → Finds (names_in (program_of b f) bytes lens) old old (Err Output)
  names-full t h = finds_as (finds-full old gs (omega (arith, names-length (of_name (program_of b f)) lens bytes))) (names_fit t)

  pub names-put : ltb (length bytes) (sum_of lens) ≡ false → length lens ≤ length old → (new : List ℕ) → new ≡ put old 0 gs
      → Finds (names_in (program_of b f) bytes lens) old new (Ok tt)
  names-put t h new e = finds_as (finds-found old gs new (omega (arith, names-length (of_name (program_of b f)) lens bytes)) e) (names_fit t)

-- ---- CIDs

-- the next one is stored
pub cids-turn : (number : ℕ → ℕ) (slots cids : List ℕ) (i : ℕ) → Slots number slots → i < length cids → get_or cids i 0 < 65536 → (words : List ℕ) → i < length words
    → put (set words i (get_or slots (get_or cids i 0) 0)) (i + 1) (map number (drop (i + 1) cids)) ≡ put words i (map number (drop i cids))
cids-turn number slots cids i s h small words k =
    put_cons words i (get_or slots (get_or cids i 0) 0) (map number (drop (i + 1) cids)) k
    ∙ ap (λ (y : ℕ). put words i (y ∷ map number (drop (i + 1) cids))) (s.is (get_or cids i 0) small)
    ∙ ap (λ (y : List ℕ). put words i (map number y)) (sym (split cids i h))

pub cids_end : (number : ℕ → ℕ) (cids : List ℕ) (i : ℕ) → length cids ≤ i → (words : List ℕ) → words ≡ put words i (map number (drop i cids))
cids_end number cids i h words = sym (ap (λ (y : List ℕ). put words i (map number y)) (drop_of_length-le cids h) ∙ put_nil words i)

-- ---- a slot for each CID

-- what a slot gives where the glyphs behind give so much
abbrev settle : ℕ → ℕ → ℕ
settle s later = pick (eqb s 65536) later s

abbrev first_of : List ℕ → ℕ → ℕ → ℕ
first_of ids g id = number_for (glyph_with_id id g (drop g ids))

-- before glyph g: a slot that has a glyph has the first, and another waits for those that are left
pub record Settled (ids : List ℕ) (g : ℕ) (slots : List ℕ) : Type 0 where
  pub is : (id : ℕ) → id < 65536 → settle (get_or slots id 0) (first_of ids g id) ≡ first_of ids 0 id

settle-none : (s later : ℕ) → s ≡ 65536 → settle s later ≡ later
settle-none s later e = ap (λ (t : Bool). pick t later s) (eq-eqb s 65536 e)

settle-some : (s later : ℕ) → (s ≡ 65536 → ⊥) → settle s later ≡ s
settle-some s later e = ap (λ (t : Bool). pick t later s) (ne_eqb s 65536 e)

pub settled-start : (ids slots : List ℕ) → Slots none slots → Settled ids 0 slots
settled-start ids slots s = record { is = λ id h. settle-none (get_or slots id 0) (first_of ids 0 id) (s.is id h) }

module _ (ids slots : List ℕ) (g : ℕ) (s : Settled ids g slots) (h : g < length ids) (id₀ : ℕ) (e : id₀ ≡ get_or ids g 0) where
  -- of another id nothing was met
  later : (id : ℕ) → (id ≡ id₀ → ⊥) → first_of ids g id ≡ first_of ids (g + 1) id
  later id k = ap number_for (id_later ids g h id (λ z. k (sym z ∙ sym e)))

  here : (id : ℕ) → id ≡ id₀ → first_of ids g id ≡ g
  here id k = ap number_for (id_here ids g h id (sym e ∙ sym k))

  -- the first of its id goes to the slot
  new_by : g < 65536 → id₀ < length slots → get_or slots id₀ 0 ≡ 65536 → (id : ℕ) → id < 65536 → (t : Bool) → eqb id id₀ ≡ t
      → settle (get_or (set slots id₀ g) id 0) (first_of ids (g + 1) id) ≡ first_of ids 0 id
  new_by small inside none₀ id k true z =
      let i : id ≡ id₀ = eqb-true id id₀ z in
      let j : get_or (set slots id₀ g) id 0 ≡ g = ap (λ (x : ℕ). get_or (set slots id₀ g) x 0) i ∙ get_or-set_same slots id₀ g 0 inside in
      settle-some (get_or (set slots id₀ g) id 0) (first_of ids (g + 1) id) (λ y. let w : g ≡ 65536 = sym j ∙ y in omega arith)
      ∙ j ∙ sym (here id i)
      ∙ sym (settle-none (get_or slots id 0) (first_of ids g id) (ap (λ (x : ℕ). get_or slots x 0) i ∙ none₀))
      ∙ s.is id k
  new_by small inside none₀ id k false z =
      let i = eqb-false id id₀ z in
      ap (λ (x : ℕ). settle x (first_of ids (g + 1) id)) (get_or-set_other slots id₀ id g 0 i)
      ∙ ap (settle (get_or slots id 0)) (sym (later id i)) ∙ s.is id k

  pub settled-new : g < 65536 → id₀ < length slots → get_or slots id₀ 0 ≡ 65536 → Settled ids (g + 1) (set slots id₀ g)
  settled-new small inside none₀ = record { is = λ id k. new_by small inside none₀ id k (eqb id id₀) refl }

  -- another of an id that was met
  met_by : (get_or slots id₀ 0 ≡ 65536 → ⊥) → (id : ℕ) → id < 65536 → (t : Bool) → eqb id id₀ ≡ t → settle (get_or slots id 0) (first_of ids (g + 1) id) ≡ first_of ids 0 id
  met_by some id k true z =
      let i : id ≡ id₀ = eqb-true id id₀ z in
      let j : get_or slots id 0 ≡ 65536 → ⊥ = λ y. some (ap (λ (x : ℕ). get_or slots x 0) (sym i) ∙ y) in
      settle-some (get_or slots id 0) (first_of ids (g + 1) id) j ∙ sym (settle-some (get_or slots id 0) (first_of ids g id) j) ∙ s.is id k
  met_by some id k false z = ap (settle (get_or slots id 0)) (sym (later id (eqb-false id id₀ z))) ∙ s.is id k

  pub settled-met : (get_or slots id₀ 0 ≡ 65536 → ⊥) → Settled ids (g + 1) slots
  settled-met some = record { is = λ id k. met_by some id k (eqb id id₀) refl }

settle_end : (s : ℕ) (t : Bool) → eqb s 65536 ≡ t → s ≡ pick t 65536 s
settle_end s true e = eqb-true s 65536 e
settle_end s false e = refl

-- all glyphs were passed
pub settled-all : (ids slots : List ℕ) (g : ℕ) → length ids ≤ g → Settled ids g slots → length slots ≡ 65536
    → Slots (λ id. number_for (glyph_with_id id 0 ids)) slots
settled-all ids slots g h s size =
    record {
      size = size;
      is =
          λ id k.
          settle_end (get_or slots id 0) (eqb (get_or slots id 0) 65536) refl
          ∙ ap (settle (get_or slots id 0)) (sym (ap number_for (id_nowhere id g ids h))) ∙ s.is id k;
    }

pub slots-start : (slots : List ℕ) → slots ≡ replicate 65536 65536 → Slots none slots
slots-start slots e =
    record { size = ap length e ∙ length-replicate {A = ℕ} 65536 65536; is = λ id h. ap (λ (l : List ℕ). get_or l id 0) e ∙ get_or-replicate 65536 id 65536 0 h }
