-- Laws of reading a set of fonts, and of what is asked of the one that is used.
use Rattle.std.specs.Prelude.{ℕ, ◌+◌, ◌*◌, ◌≤◌, ◌<◌, ◌≡◌, refl, true, false, eqb, length, drop, get_or, Option, Result, Ok, Err, None}
use Rattle.std.proofs.Common.{sym, ◌∙◌, add-one, arith, drop-cons}
use Rattle.std.proofs.Math.Path.{ap, subst}
use mathlib.Core.List.{List, [], ◌∷◌}
use borrow.Author.Tests.{lt-ltb, le-ltb, eq-eqb, ne_eqb}
use Rattle.std.proofs.Math.ListN.{get_or-eq_default}
use Rattle.octets.specs.Pick.{pick}
use Rattle.bits.specs.Bits.{words_for}
use Rattle.index.specs.Index.{index_at, items_of, read_index}
use Rattle.index.specs.Good.{Good, offset_of}
use Rattle.index.specs.IndexLaws.{items-length, item-within, item-part}
use Rattle.index.proofs.FoundLaws.{read_found, read_refused}
use Rattle.index.specs.declared.Index.{Index}
use Rattle.charset.specs.CharsetPlaces.{ids_of}
use Rattle.find.specs.Find.{glyph_with_id, glyph_with_text}
use Rattle.cff.specs.Font.{then, Program, fonts_at, first_of, index_then, set_at, read_table, read_font}
use Rattle.cff.specs.Find.{counts_of, find_name, find_cid, items_in, item_refusal_lem, item_of}
use Rattle.cff.specs.Reads.{Holds, font_of, program_of, HasTop, GoodFont, ReadsFont, index_in_lem, HasSet, font_with, fonts_of, behind_tops}
use Rattle.cff.specs.File.{InFile, HasFont, ReadsFile}
use Rattle.cff.specs.Loaded.{Opens}
use Rattle.cff.specs.ReadsLaws.{drop-over, then_refused, then-got}
use Rattle.cff.specs.declared.Counts.{Counts}
use Rattle.cff.specs.declared.ItemKind.{ItemKind}
use Rattle.cff.specs.declared.ItemKind.TheVariants.{Charstring, Global, Text}
use Rattle.cff.specs.declared.font.Font.{Font}
use Rattle.cff.specs.declared.opened.Opened.{Opened}
use Rattle.refusal.specs.declared.Refusal.{Refusal}
use Rattle.refusal.specs.declared.Refusal.TheVariants.{Truncated, Malformed, Unsupported, NoSuchNumber}

-- ---- one font of the set

module _ (b : List ℕ) (tops strings globals : Index) (s : HasSet b tops strings globals) (k : ℕ) (h : k < tops.count) where
  -- its top DICT lies in the font
  pub set-top : (x y : ℕ) → x ≡ offset_of b tops k → y ≡ offset_of b tops (k + 1) → HasTop b (tops.base + x) (tops.base + y) strings globals
  set-top x y i j =
      let w = item-within b tops s.tops_held.good k h in
      record { rises = omega arith; within = omega arith; some = s.some; strings-held = s.strings-held; globals-held = s.globals-held }

  pub set-font : (x y : ℕ) → x ≡ offset_of b tops k → y ≡ offset_of b tops (k + 1) → (r : Result Font Refusal) → ReadsFont b (font_of b strings globals (tops.base + x) (tops.base + y)) r
      → ReadsFont b (font_with b strings globals (get_or (items_of b tops) k [])) r
  set-font x y i j r reads =
      subst (λ d. ReadsFont b (font_with b strings globals d) r) (item-part b tops s.tops_held.good k h x y i j) reads

-- ---- all of them

first-kept : (g : Result (List Program) Refusal) (p : Program) → then (then g (λ ps. Ok (p ∷ ps))) first_of ≡ then g (λ ps. Ok p)
first-kept (Err n) p = refl
first-kept (Ok ps) p = refl

other_read : (g : Result (List Program) Refusal) (p q : Program) → then (then g (λ ps. Ok (p ∷ ps))) (λ ps. Ok q) ≡ then g (λ ps. Ok q)
other_read (Err n) p q = refl
other_read (Ok ps) p q = refl

split_at : (items : List (List ℕ)) (k : ℕ) → k < length items → drop k items ≡ get_or items k [] ∷ drop (k + 1) items
split_at items k h = drop-cons items k [] h ∙ rw add-one

-- before font k, the fonts from which on decide between the first and a refusal
pub record Reading (b : List ℕ) (strings globals : Index) (items : List (List ℕ)) (first : Font) (k : ℕ) : Type 0 where
  pub within : k ≤ length items
  pub good : GoodFont b first
  pub rest : fonts_of b strings globals items
      ≡ then (fonts_at b (items_of b strings) (items_of b globals) (drop k items)) (λ ps. Ok (program_of b first))

module _ (b : List ℕ) (strings globals : Index) (items : List (List ℕ)) where
  fonts_on : (d : List ℕ) (ds : List (List ℕ)) (p : Program) → font_with b strings globals d ≡ Ok p
      → fonts_at b (items_of b strings) (items_of b globals) (d ∷ ds) ≡ then (fonts_at b (items_of b strings) (items_of b globals) ds) (λ ps. Ok (p ∷ ps))
  unfolding fonts_at
  fonts_on d ds p e = then-got _ _ p e

  fonts_off : (d : List ℕ) (ds : List (List ℕ)) (n : Refusal) → font_with b strings globals d ≡ Err n
      → fonts_at b (items_of b strings) (items_of b globals) (d ∷ ds) ≡ Err n
  unfolding fonts_at
  fonts_off d ds n e = then_refused _ _ n e

  pub reading-none : length items ≡ 0 → ReadsFont b (fonts_of b strings globals items) (Err Malformed)
  unfolding fonts_at
  reading-none z =
      let e : items ≡ [] = drop-over 0 items (omega arith) in
      ap (fonts_of b strings globals) e

  module _ (some : 0 < length items) where
    first-split : items ≡ get_or items 0 [] ∷ drop 1 items
    first-split = split_at items 0 some

    pub reading-first-bad : (n : Refusal) → ReadsFont b (font_with b strings globals (get_or items 0 [])) (Err n) → ReadsFont b (fonts_of b strings globals items) (Err n)
    reading-first-bad n reads =
        ap (fonts_of b strings globals) first-split ∙ then_refused _ _ n (fonts_off (get_or items 0 []) (drop 1 items) n reads)

    pub reading-start : (f : Font) → ReadsFont b (font_with b strings globals (get_or items 0 [])) (Ok f) → Reading b strings globals items f 1
    reading-start f reads =
        record {
          within = omega arith;
          good = reads.0;
          rest =
              ap (fonts_of b strings globals) first-split
              ∙ ap (λ g. then g first_of) (fonts_on (get_or items 0 []) (drop 1 items) (program_of b f) reads.1)
              ∙ first-kept (fonts_at b (items_of b strings) (items_of b globals) (drop 1 items)) (program_of b f);
        }

  module _ (f : Font) (k : ℕ) (a : Reading b strings globals items f k) where
    module _ (h : k < length items) where
      onward : fonts_of b strings globals items
          ≡ then (fonts_at b (items_of b strings) (items_of b globals) (get_or items k [] ∷ drop (k + 1) items)) (λ ps. Ok (program_of b f))
      onward = a.rest ∙ ap (λ l. then (fonts_at b (items_of b strings) (items_of b globals) l) (λ ps. Ok (program_of b f))) (split_at items k h)

      pub reading_refused : (n : Refusal) → ReadsFont b (font_with b strings globals (get_or items k [])) (Err n) → ReadsFont b (fonts_of b strings globals items) (Err n)
      reading_refused n reads = onward ∙ then_refused _ _ n (fonts_off (get_or items k []) (drop (k + 1) items) n reads)

      pub reading-more : (g : Font) → ReadsFont b (font_with b strings globals (get_or items k [])) (Ok g) → Reading b strings globals items f (k + 1)
      reading-more g reads =
          record {
            within = omega arith;
            good = a.good;
            rest =
                onward
                ∙ ap (λ x. then x (λ ps. Ok (program_of b f))) (fonts_on (get_or items k []) (drop (k + 1) items) (program_of b g) reads.1)
                ∙ other_read (fonts_at b (items_of b strings) (items_of b globals) (drop (k + 1) items)) (program_of b g) (program_of b f);
          }

    pub reading-over : length items ≤ k → ReadsFont b (fonts_of b strings globals items) (Ok f)
    unfolding fonts_at
    reading-over h =
        (a.good, a.rest ∙ ap (λ l. then (fonts_at b (items_of b strings) (items_of b globals) l) (λ ps. Ok (program_of b f))) (drop-over k items h))

-- ---- the INDEXes of the set

module _ (b : List ℕ) (at : ℕ) where
  pub index-bad : {B : Type 0} (f : List (List ℕ) → ℕ → Result B Refusal) (n : Refusal) → Err n ≡ index_at b at → index_then (read_index b at) f ≡ Err n
  index-bad f n e = ap (λ r. index_then r f) (read_refused b at n (sym e))

  pub index_on : {B : Type 0} (f : List (List ℕ) → ℕ → Result B Refusal) (ix : Index) → Ok ix ≡ index_at b at → index_then (read_index b at) f ≡ f (items_of b ix) ix.end
  index_on f ix e = ap (λ r. index_then r f) (read_found b at ix (sym e))

module _ (b : List ℕ) (names : ℕ) (tops : Index) where
  pub strings-bad : (n : Refusal) → Err n ≡ index_at b tops.end → ReadsFont b (behind_tops b names (items_of b tops) tops.end) (Err n)
  strings-bad n e = index-bad b tops.end _ n e

  module _ (strings : Index) (e : Ok strings ≡ index_at b tops.end) where
    pub globals-bad : (n : Refusal) → Err n ≡ index_at b strings.end → ReadsFont b (behind_tops b names (items_of b tops) tops.end) (Err n)
    globals-bad n i = index_on b tops.end _ strings e ∙ index-bad b strings.end _ n i

    module _ (globals : Index) (i : Ok globals ≡ index_at b strings.end) where
      decided : behind_tops b names (items_of b tops) tops.end ≡ pick (eqb names (length (items_of b tops))) (fonts_of b strings globals (items_of b tops)) (Err Malformed)
      decided = index_on b tops.end _ strings e ∙ index_on b strings.end _ globals i

      pub counts_same : names ≡ tops.count → (r : Result Font Refusal) → ReadsFont b (fonts_of b strings globals (items_of b tops)) r
          → ReadsFont b (behind_tops b names (items_of b tops) tops.end) r
      counts_same z r reads =
          let k = eq-eqb names (length (items_of b tops)) (z ∙ sym (items-length b tops)) in
          subst (λ g. ReadsFont b g r) (sym (decided ∙ ap (λ t. pick t (fonts_of b strings globals (items_of b tops)) (Err Malformed)) k)) reads

      pub counts_differ : (names ≡ tops.count → ⊥) → ReadsFont b (behind_tops b names (items_of b tops) tops.end) (Err Malformed)
      counts_differ z =
          let k = ne_eqb names (length (items_of b tops)) (λ e. z (e ∙ items-length b tops)) in
          decided ∙ ap (λ t. pick t (fonts_of b strings globals (items_of b tops)) (Err Malformed)) k

module _ (b : List ℕ) (at : ℕ) where
  pub names-bad : (n : Refusal) → Err n ≡ index_at b at → ReadsFont b (set_at b at) (Err n)
  unfolding set_at
  names-bad n e = index-bad b at _ n e

  module _ (names : Index) (e : Ok names ≡ index_at b at) where
    pub tops_bad : (n : Refusal) → Err n ≡ index_at b names.end → ReadsFont b (set_at b at) (Err n)
    unfolding set_at
    tops_bad n i = index_on b at _ names e ∙ index-bad b names.end _ n i

    pub tops_read : (tops : Index) → Ok tops ≡ index_at b names.end → (r : Result Font Refusal) → ReadsFont b (behind_tops b names.count (items_of b tops) tops.end) r
        → ReadsFont b (set_at b at) r
    unfolding set_at
    tops_read tops i r reads =
        subst (λ g. ReadsFont b g r)
        (sym (index_on b at _ names e ∙ index_on b names.end _ tops i ∙ ap (λ n. behind_tops b n (items_of b tops) tops.end) (items-length b names)))
        reads

-- ---- the header

module _ (b : List ℕ) where
  pub font-short : length b < 4 → ReadsFont b (read_table b) (Err Truncated)
  unfolding read_table
  font-short k = rw (lt-ltb (length b) 4 k)

  module _ (k : 4 ≤ length b) (major : ℕ) (m : major ≡ get_or b 0 0) where
    pub font_other : (major ≡ 1 → ⊥) → ReadsFont b (read_table b) (Err Unsupported)
    unfolding read_table
    font_other z = rw (le-ltb (length b) 4 k, ne_eqb (get_or b 0 0) 1 (λ e. z (m ∙ e)))

    pub font-set : major ≡ 1 → (at : ℕ) → at ≡ get_or b 2 0 → (r : Result Font Refusal) → ReadsFont b (set_at b at) r → ReadsFont b (read_table b) r
    unfolding read_table
    font-set z at i r reads = rw (le-ltb (length b) 4 k, eq-eqb (get_or b 0 0) 1 (sym m ∙ z)) (subst (λ n. ReadsFont b (set_at b n) r) i reads)

-- ---- what is asked of a font

-- its counts, with W
pub counts_with : (b : List ℕ) (f : Font) → GoodFont b f → (w : ℕ) → w ≡ 2 * f.charstrings.count + words_for f.globals.count + f.words
    → ◌≡◌ {A = Counts} (record { glyphs = f.charstrings.count; globals = f.globals.count; strings = f.strings.count; cid = f.cid; work = w }) (counts_of (program_of b f))
counts_with b f g w e =
    rw (e, items-length b f.charstrings, items-length b f.globals, items-length b f.strings, ← g.cid, ← g.parts.words)

-- its items
pub items-held : (b : List ℕ) (f : Font) → GoodFont b f → (kind : ItemKind) → Holds b (index_in_lem kind f)
items-held b f g Charstring = g.glyphs.held
items-held b f g Global = g.begun.globals-held
items-held b f g Text = g.begun.strings-held

pub items_are : (b : List ℕ) (f : Font) (kind : ItemKind) → items_of b (index_in_lem kind f) ≡ items_in kind (program_of b f)
items_are b f Charstring = refl
items_are b f Global = refl
items_are b f Text = refl

module _ (file : List ℕ) (r : Result Font Refusal) (reads : ReadsFile file r) where
  pub refused_as : (n : Refusal) → r ≡ Err n → read_font file ≡ Err n
  refused_as n q = subst (ReadsFile file) q reads

  pub item_refused : (n : Refusal) → r ≡ Err n → (kind : ItemKind) (k : ℕ) → [] ≡ item_of (read_font file) kind k
  item_refused n q kind k = sym (ap (λ g. item_of g kind k) (refused_as n q))

  pub found-font : (f : Font) → r ≡ Ok f → HasFont file f
  found-font f q = subst (ReadsFile file) q reads

-- and of reading with the file
module _ (file : List ℕ) (r : Result Opened Refusal) (opens : Opens file r) where
  pub opens_not : (n : Refusal) → r ≡ Err n → read_font file ≡ Err n
  opens_not n q = subst (Opens file) q opens

  pub opened : (o : Opened) → r ≡ Ok o → o.file.now ≡ file
  opened o q = subst (Opens file) q opens

-- its items, where b are the bytes of its table
module _ (file : List ℕ) (f : Font) (b : List ℕ) (found : InFile file f b) (kind : ItemKind) (ix : Index) (i : ix ≡ index_in_lem kind f) where
  pub items-good : Good b ix
  items-good = subst (Good b) (sym i) (items-held b f found.good kind).good

  pub items_is : items_in kind (program_of b f) ≡ items_of b ix
  items_is = sym (items_are b f kind) ∙ ap (items_of b) (sym i)

  pub item-found : (k : ℕ) (l : List ℕ) → l ≡ get_or (items_of b ix) k [] → l ≡ item_of (read_font file) kind k
  item-found k l e = e ∙ ap (λ items. get_or items k []) (sym items_is) ∙ sym (ap (λ g. item_of g kind k) found.is)

  pub many : length (items_in kind (program_of b f)) ≡ ix.count
  many = ap length items_is ∙ items-length b ix

  pub item-none : (k : ℕ) → ix.count ≤ k → [] ≡ item_of (read_font file) kind k
  item-none k h =
      sym (ap (λ g. item_of g kind k) found.is ∙ get_or-eq_default (items_in kind (program_of b f)) [] (omega (arith, many)))

  pub refusal-none : (k : ℕ) → k < ix.count → Ok tt ≡ item_refusal_lem (read_font file) kind k
  refusal-none k h =
      let s = lt-ltb k (length (items_in kind (program_of b f))) (omega (arith, many)) in
      sym (ap (λ g. item_refusal_lem g kind k) found.is ∙ rw s)

  pub refusal_six : (k : ℕ) → ix.count ≤ k → Err NoSuchNumber ≡ item_refusal_lem (read_font file) kind k
  refusal_six k h =
      let s = le-ltb k (length (items_in kind (program_of b f))) (omega (arith, many)) in
      sym (ap (λ g. item_refusal_lem g kind k) found.is ∙ rw s)

-- ---- finding

module _ (b : List ℕ) (f : Font) (g : GoodFont b f) where
  pub name-keyed : f.cid ≡ true → (name : List ℕ) → None ≡ find_name (program_of b f) name
  name-keyed q name = sym (ap (λ t. pick t None (glyph_with_text (items_of b f.strings) name 0 (ids_of b f.charset f.charstrings.count))) (sym g.cid ∙ q))

  pub name_looked : f.cid ≡ false → (name : List ℕ) (r : Option ℕ) → r ≡ glyph_with_text (items_of b f.strings) name 0 (ids_of b f.charset f.charstrings.count)
      → (x : Option ℕ) → r ≡ x → x ≡ find_name (program_of b f) name
  name_looked q name r e x i =
      sym i ∙ e
      ∙ sym (ap (λ t. pick t None (glyph_with_text (items_of b f.strings) name 0 (ids_of b f.charset f.charstrings.count))) (sym g.cid ∙ q))

  pub cid_other : f.cid ≡ false → (cid : ℕ) → None ≡ find_cid (program_of b f) cid
  cid_other q cid = sym (ap (λ t. pick t (glyph_with_id cid 0 (ids_of b f.charset f.charstrings.count)) None) (sym g.cid ∙ q))

  pub cid_looked : f.cid ≡ true → (cid : ℕ) (r : Option ℕ) → r ≡ glyph_with_id cid 0 (ids_of b f.charset f.charstrings.count)
      → (x : Option ℕ) → r ≡ x → x ≡ find_cid (program_of b f) cid
  cid_looked q cid r e x i =
      sym i ∙ e
      ∙ sym (ap (λ t. pick t (glyph_with_id cid 0 (ids_of b f.charset f.charstrings.count)) None) (sym g.cid ∙ q))
