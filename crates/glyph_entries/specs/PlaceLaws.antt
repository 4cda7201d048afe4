-- Laws of where an item stands: one for each way out of a lookup, and a part of a part.
use Rattle.std.specs.Prelude.{ℕ, zero, suc, ◌+◌, ◌≤◌, ◌<◌, ◌≡◌, refl, List, [], ◌∷◌, length, take, drop, get_or, set, Result, Ok, Err}
use Rattle.std.proofs.Common.{sym, ap, ◌∙◌, subst, arith, lt-ltb, le-ltb, length-drop, length-take-le, drop-drop, take-take}
use Rattle.octets.specs.Octets.{put}
use Rattle.octets.specs.PutLaws.{put_two}
use Rattle.index.specs.Index.{items_of}
use Rattle.index.specs.Good.{Good, offset_of}
use Rattle.index.specs.IndexLaws.{item-within, item_is, item_long}
use Rattle.index.specs.declared.Index.{Index}
use Rattle.opentype.specs.OpentypeLaws.{found-fits}
use Rattle.cff.specs.Font.{read_font}
use Rattle.cff.specs.Find.{item_refusal_lem, item_of}
use Rattle.cff.specs.Reads.{index_in_lem}
use Rattle.cff.specs.SetLaws.{items-good, item-found, refusal-none, refusal_six}
use Rattle.cff.specs.File.{InFile}
use Rattle.cff.specs.declared.ItemKind.{ItemKind}
use Rattle.cff.specs.declared.font.Font.{Font}
use Rattle.glyph_entries.specs.Place.{result_of, Stands, Shows}
use Rattle.refusal.specs.declared.Refusal.{Refusal}
use Rattle.refusal.specs.declared.Refusal.TheVariants.{NoSuchNumber, Output}

-- ---- by the ways out

module _ (file item answer : List ℕ) (lookup : Result Unit Refusal) where
  -- a refused lookup
  pub shows_refused : (n : Refusal) → Err n ≡ lookup → Shows file lookup item answer answer (Err n)
  shows_refused n e = record { result = ap (λ (r : Result Unit Refusal). result_of r (length answer)) e; place = 0; stands = λ z. absurd cc; words = refl }

  module _ (e : Ok tt ≡ lookup) where
    -- too few words
    pub shows-full : length answer < 2 → Shows file lookup item answer answer (Err Output)
    shows-full h =
        let u = lt-ltb (length answer) 2 h in
        record { result = rw (← e, u); place = 0; stands = λ z. absurd cc; words = refl }

    -- the place and the length stand in front
    pub shows-shown : 2 ≤ length answer → (place len : ℕ) → Stands file item place → len ≡ length item
        → Shows file lookup item answer (set (set answer 0 place) 1 len) (Ok tt)
    shows-shown h place len s i =
        let u = le-ltb (length answer) 2 h in
        record {
          result = rw (← e, u);
          place = place;
          stands = λ z. s;
          words = put_two answer place len h ∙ ap (λ (x : ℕ). put answer 0 (place ∷ x ∷ [])) i;
        }

-- ---- an item of a table of the file

-- a part of the front is the same part of the whole
part_in : (m p n : ℕ) (l : List ℕ) → p + m ≤ n → take m (drop p (take n l)) ≡ take m (drop p l)
part_in m zero n l h = take-take m n l (omega arith)
part_in m (suc p) zero l h = absurd (omega arith)
part_in m (suc p) (suc n) [] h = refl
part_in m (suc p) (suc n) (x ∷ xs) h = part_in m p n xs (omega arith)

module _ (file : List ℕ) (f : Font) (b : List ℕ) (read : InFile file f b) (ix : Index) (good : Good b ix) (k : ℕ) (h : k < ix.count) where
  there : f.start + f.len ≤ length file
  there = (found-fits file f.start f.len read.place).0

  table-length : length b ≡ f.len
  table-length = ap length read.bytes ∙ length-take-le f.len (drop f.start file) (omega (arith, there, length-drop f.start file))

  item-inside : f.start + (ix.base + offset_of b ix k) + length (get_or (items_of b ix) k []) ≤ length file
  item-inside = let w = item-within b ix good k h in omega (arith, there, table-length, item_long b ix good k h, w.0, w.1)

  -- no file is so long that a place in it is not a number
  pub item-low : (at : ℕ) → at ≡ offset_of b ix k → f.start + (ix.base + at) ≤ 67108864
  item-low at e = omega (arith, e, item-inside, (found-fits file f.start f.len read.place).1)

  pub item_stands : (at : ℕ) → at ≡ offset_of b ix k → Stands file (get_or (items_of b ix) k []) (f.start + (ix.base + at))
  item_stands at e =
      let n = length (get_or (items_of b ix) k []) in
      let p = ix.base + offset_of b ix k in
      let w = item-within b ix good k h in
      let fits : p + n ≤ f.len = omega (arith, table-length, item_long b ix good k h, w.0, w.1) in
      subst (λ (x : ℕ). Stands file (get_or (items_of b ix) k []) (f.start + (ix.base + x))) (sym e)
      (record {
        inside = item-inside;
        is =
            ap (take n) (sym (drop-drop p f.start file))
            ∙ sym (part_in n p f.len (drop f.start file) fits)
            ∙ ap (λ (t : List ℕ). take n (drop p t)) (sym read.bytes)
            ∙ ap (λ (m : ℕ). take m (drop p b)) (item_long b ix good k h)
            ∙ sym (item_is b ix good k h);
      })

-- the lookup in a font that was read
module _ (file : List ℕ) (f : Font) (b : List ℕ) (read : InFile file f b) (kind : ItemKind) (ix : Index) (i : ix ≡ index_in_lem kind f) (k : ℕ) (answer : List ℕ) where
  pub place_none : ix.count ≤ k → Shows file (item_refusal_lem (read_font file) kind k) (item_of (read_font file) kind k) answer answer (Err NoSuchNumber)
  place_none h = shows_refused file (item_of (read_font file) kind k) answer (item_refusal_lem (read_font file) kind k) NoSuchNumber (refusal_six file f b read kind ix i k h)

  pub place-full : k < ix.count → length answer < 2 → Shows file (item_refusal_lem (read_font file) kind k) (item_of (read_font file) kind k) answer answer (Err Output)
  place-full h l =
      shows-full file (item_of (read_font file) kind k) answer (item_refusal_lem (read_font file) kind k) (refusal-none file f b read kind ix i k h) l

  pub place-shown : k < ix.count → 2 ≤ length answer → (at : ℕ) → at ≡ offset_of b ix k → (item : List ℕ) → item ≡ get_or (items_of b ix) k []
      → Shows file (item_refusal_lem (read_font file) kind k) (item_of (read_font file) kind k) answer (set (set answer 0 (f.start + (ix.base + at))) 1 (length item)) (Ok tt)
  place-shown h l at e item z =
      let j = item-found file f b read kind ix i k (get_or (items_of b ix) k []) refl in
      shows-shown file (item_of (read_font file) kind k) answer (item_refusal_lem (read_font file) kind k) (refusal-none file f b read kind ix i k h) l (f.start + (ix.base + at)) (length item)
      (subst (λ (x : List ℕ). Stands file x (f.start + (ix.base + at))) j (item_stands file f b read ix (items-good file f b read kind ix i) k h at e)) (ap length (z ∙ j))
