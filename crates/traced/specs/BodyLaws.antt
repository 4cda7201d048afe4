-- The charstrings and subroutines of a font that was read are no longer than the font: offsets in them fit four bytes.
use Rattle.std.specs.Prelude.{ℕ, zero, suc, ◌+◌, ◌≤◌, ◌≡◌, Bool, true, false, ltb, eqb, take, drop, get_or, Result, Ok, Err, Option, Some, None}
use Rattle.std.proofs.Math.Path.{refl, sym, ap, subst}
use Rattle.std.proofs.Common.{◌∙◌, arith}
use mathlib.Core.List.{List, [], ◌∷◌}
use Rattle.std.proofs.Math.ListN.{length}
use Rattle.octets.specs.Pick.{pick}
use Rattle.octets.specs.Lists.{all_below}
use Rattle.index.specs.Index.{items_of, read_index, found}
use Rattle.index.specs.Good.{Good}
use Rattle.index.specs.declared.Index.{Index}
use Rattle.index.specs.Write.{total}
use Rattle.index.proofs.FoundLaws.{found-read, found-good, items-total}
use Rattle.dict.specs.Dict.{Entry, dict_of}
use Rattle.dict.specs.Op.{subrs}
use Rattle.dict.specs.Lookup.{offset_in, private_in, cid_keyed, charstring_type_in}
use Rattle.charset.specs.FdSelect.{no_fds}
use Rattle.cff.specs.Font.{charset, encoding, char_strings, fd_array, fd_select_lem, then, Private, standard, Added, Program, index_got, needed, or_zero, locals_at, private_data, private_at, privates_at, dicts_at, ids_at, fds_at, encoding_got, cid_parts, name_parts, font_at, fonts_at, first_of, set_at, read_table, read_font, empty_private}
use Rattle.cff.specs.FileLaws.{read-within, within-short}
use Rattle.cff.specs.Reads.{private_of, privates_of, program_of, GoodFont}
use Rattle.cff.specs.declared.font.Font.{Font}
use Rattle.cff.specs.ReadsLaws.{no}
use Rattle.subset.specs.Kept.{locals_of}
use Rattle.faithful.specs.GoodPartsLaws.{then_gave, got_same, index_gave, index-got, test-past, test-held}
use Rattle.dict.specs.declared.PrivateEntry.{PrivateEntry}
use Rattle.refusal.specs.declared.Refusal.{Refusal}
use Rattle.refusal.specs.declared.Refusal.TheVariants.{Truncated, Malformed, Unsupported}

-- bodies of at most n bytes each
abbrev pub Short : ℕ → List (List ℕ) → Type 0
Short n l = (i : ℕ) → length (get_or l i []) ≤ n

-- those of a font
pub record ShortBodies (n : ℕ) (p : Program) : Type 0 where
  pub charstrings : Short n p.charstrings
  pub globals : Short n p.globals
  pub locals : (f : ℕ) → Short n (locals_of p f)

-- an item is no longer than all together
item-short : (l : List (List ℕ)) (i : ℕ) → length (get_or l i []) ≤ total l
unfolding total
item-short [] i = omega arith
item-short (x ∷ l) zero = omega arith
item-short (x ∷ l) (suc i) = omega (arith, item-short l i)

module _ (b : List ℕ) where
  index_short : (at : ℕ) (items : List (List ℕ)) (end : ℕ) → read_index b at ≡ found items end → Short (length b) items
  index_short at items end h i =
      let f = found-read b at items end h in
      omega (arith, item-short items i, items-total b f.0 (found-good b at f.0 f.1), ap total f.2)

  offset-short : (g : Result ℕ Refusal) (items : List (List ℕ)) → then g (λ at. index_got (read_index b at)) ≡ Ok items → Short (length b) items
  offset-short g items h =
      let t = then_gave g (λ at. index_got (read_index b at)) items h in
      let i = index-got (read_index b t.0) items t.2 in
      index_short t.0 items i.0 i.1

  none-short : Short (length b) []
  none-short i = omega arith

  locals-short : (offset : ℕ) (s : Result (Option ℕ) Refusal) (items : List (List ℕ)) → locals_at b offset s ≡ Ok items → Short (length b) items
  unfolding locals_at
  locals-short offset (Ok None) items h = let e : [] ≡ items = cc in subst (Short (length b)) e none-short
  locals-short offset (Err n) items h = absurd (no cc)
  locals-short offset (Ok (Some v)) items h =
      let i = index-got (read_index b (offset + v)) items h in
      index_short (offset + v) items i.0 i.1

  -- ---- Private DICTs

  abbrev ShortIn : Private → Type 0
  ShortIn q = Short (length b) q.locals

  data-short : (size offset : ℕ) (q : Private) → private_data b size offset ≡ Ok q → ShortIn q
  unfolding private_data
  data-short size offset q h =
      let k = test-past (ltb (length b) (offset + size)) Truncated _ q h in
      let d = then_gave (dict_of (take size (drop offset b))) _ q k in
      let l = then_gave (locals_at b offset (offset_in subrs d.0)) _ q d.2 in
      let e : record { entries = d.0; locals = l.0 } ≡ q = cc in
      subst ShortIn e (locals-short offset _ l.0 l.1)

  private-short : (s : Result (Option PrivateEntry) Refusal) (q : Private) → private_at b s ≡ Ok q → ShortIn q
  unfolding private_at
  private-short (Ok None) q h = let e : empty_private ≡ q = cc in subst ShortIn e none-short
  private-short (Err n) q h = absurd (no cc)
  private-short (Ok (Some e)) q h = data-short e.size e.offset q h

  abbrev AllShort : List Private → Type 0
  AllShort qs = (f : ℕ) → ShortIn (get_or qs f empty_private)

  short-front : (q : Private) (qs : List Private) → ShortIn q → AllShort qs → AllShort (q ∷ qs)
  short-front q qs s r zero = s
  short-front q qs s r (suc f) = r f

  privates-short : (ds : List (List ℕ)) (qs : List Private) → privates_at b ds ≡ Ok qs → AllShort qs
  unfolding privates_at
  privates-short [] qs h = let e : [] ≡ qs = cc in subst AllShort e (λ f. none-short)
  privates-short (d ∷ ds) qs h =
      let x = then_gave (dict_of d) _ qs h in
      let y = then_gave (private_at b (private_in x.0)) _ qs x.2 in
      let z = then_gave (privates_at b ds) _ qs y.2 in
      let e : y.0 ∷ z.0 ≡ qs = cc in
      subst AllShort e (short-front y.0 z.0 (private-short (private_in x.0) y.0 y.1) (privates-short ds z.0 z.1))

  -- ---- what the keying adds

  module _ (es : List Entry) (n : ℕ) (parts : Added) where
    cid_short : cid_parts b es n ≡ Ok parts → AllShort parts.privates
    unfolding cid_parts
    cid_short h =
        let d = then_gave (then (needed (offset_in fd_array es)) (λ at. index_got (read_index b at))) _ parts h in
        let q = then_gave (privates_at b d.0) _ parts d.2 in
        let u = then_gave (pick (eqb (length q.0) 0) (Err Malformed) (Ok tt)) _ parts q.2 in
        let l = then_gave (fds_at b n (offset_in fd_select_lem es)) _ parts u.2 in
        let t = test-held (all_below (length q.0) l.0) Malformed _ parts l.2 in
        let e : record { privates = q.0; fds = l.0; dicts = dicts_at d.0; coding = standard } ≡ parts = cc in
        subst (λ (x : Added). AllShort x.privates) e (privates-short d.0 q.0 q.1)

    name-short : name_parts b es n ≡ Ok parts → AllShort parts.privates
    unfolding name_parts
    name-short h =
        let q = then_gave (private_at b (private_in es)) _ parts h in
        let u = then_gave (then (or_zero (offset_in encoding es)) (encoding_got b)) _ parts q.2 in
        let e : record { privates = q.0 ∷ []; fds = no_fds n; dicts = []; coding = u.0 } ≡ parts = cc in
        subst (λ (x : Added). AllShort x.privates) e (short-front q.0 [] (private-short (private_in es) q.0 q.1) (λ f. none-short))

    parts-short : (cid : Bool) → pick cid (cid_parts b es n) (name_parts b es n) ≡ Ok parts → AllShort parts.privates
    parts-short true h = cid_short h
    parts-short false h = name-short h

  -- ---- a font

  module _ (strings globals : List (List ℕ)) (short : Short (length b) globals) where
    top-short : (top : List ℕ) (p : Program) → font_at b strings globals top ≡ Ok p → ShortBodies (length b) p
    unfolding font_at
    top-short top p h =
        let d = then_gave (dict_of top) _ p h in
        let es = d.0 in
        let u = then_gave (charstring_type_in es) _ p d.2 in
        let c = then_gave (then (needed (offset_in char_strings es)) (λ at. index_got (read_index b at))) _ p u.2 in
        let n = length c.0 in
        let v = then_gave (pick (eqb n 0) (Err Malformed) (Ok tt)) _ p c.2 in
        let i = then_gave (then (or_zero (offset_in charset es)) (ids_at b n)) _ p v.2 in
        let k = then_gave (pick (cid_keyed es) (cid_parts b es n) (name_parts b es n)) _ p i.2 in
        let e : record { top = es; strings = strings; globals = globals; charstrings = c.0; ids = i.0; privates = k.0.privates; fds = k.0.fds; dicts = k.0.dicts; coding = k.0.coding } ≡ p = got_same _ p k.2 in
        subst (ShortBodies (length b)) e
        (record {
          charstrings = offset-short (needed (offset_in char_strings es)) c.0 c.1;
          globals = short;
          locals = parts-short es n k.0 (cid_keyed es) k.1;
        })

    first_short : (tops : List (List ℕ)) (p : Program) → then (fonts_at b strings globals tops) first_of ≡ Ok p → ShortBodies (length b) p
    unfolding fonts_at
    first_short [] p h = absurd (no cc)
    first_short (t ∷ ts) p h =
        let f = then_gave (then (font_at b strings globals t) (λ q. then (fonts_at b strings globals ts) (λ ps. Ok (q ∷ ps)))) first_of p h in
        let q = then_gave (font_at b strings globals t) _ f.0 f.1 in
        let r = then_gave (fonts_at b strings globals ts) _ f.0 q.2 in
        let e : q.0 ∷ r.0 ≡ f.0 = cc in
        let z : Ok q.0 ≡ Ok p = ap first_of e ∙ f.2 in
        top-short t p (q.1 ∙ z)

  set-short : (at : ℕ) (p : Program) → set_at b at ≡ Ok p → ShortBodies (length b) p
  unfolding set_at
  set-short at p h =
      let names = index_gave (read_index b at) _ p h in
      let tops = index_gave (read_index b names.1) _ p names.3 in
      let strings = index_gave (read_index b tops.1) _ p tops.3 in
      let globals = index_gave (read_index b strings.1) _ p strings.3 in
      let t = test-held (eqb (length names.0) (length tops.0)) Malformed _ p globals.3 in
      first_short strings.0 globals.0 (index_short strings.1 globals.0 globals.1 globals.2) tops.0 p t.1

-- no body of a font that was read has more than 67,108,864 bytes
table-bodies : (b : List ℕ) (p : Program) → length b ≤ 67108864 → read_table b ≡ Ok p → ShortBodies 67108864 p
unfolding read_table
table-bodies b p n h =
    let m = test-past (ltb (length b) 4) Truncated _ p h in
    let q = set-short b (get_or b 2 0) p (test-held (eqb (get_or b 0 0) 1) Unsupported _ p m).1 in
    record {
      charstrings = λ i. omega (arith, q.charstrings i, n);
      globals = λ i. omega (arith, q.globals i, n);
      locals = λ f i. omega (arith, q.locals f i, n);
    }

pub font-short : (file : List ℕ) (p : Program) → read_font file ≡ Ok p → ShortBodies 67108864 p
font-short file p h = let w = read-within file p h in table-bodies _ p (within-short file p w) w.is

-- the same by its places
module _ (b : List ℕ) (f : Font) (good : GoodFont b f) (size : length b ≤ 67108864) where
  items_short : (ix : Index) → Good b ix → Short 67108864 (items_of b ix)
  items_short ix h i = omega (arith, item-short (items_of b ix) i, items-total b ix h, size)

  privates_short : (cid : Bool) → f.cid ≡ cid → AllShort b (privates_of b f.cid f.dicts f.private)
  privates_short true e = privates-short b (items_of b f.dicts) (privates_of b f.cid f.dicts f.private) (good.parts.read e)
  privates_short false e =
      subst (λ (c : Bool). AllShort b (privates_of b c f.dicts f.private)) (sym e)
      (short-front b (private_of b f.private) [] (λ i. omega (arith, item-short (items_of b f.private.locals) i, items-total b f.private.locals good.parts.private.locals.good)) (λ f. none-short b))

  pub places-short : ShortBodies 67108864 (program_of b f)
  places-short =
      record {
        charstrings = items_short f.charstrings good.glyphs.held.good;
        globals = items_short f.globals good.begun.globals-held.good;
        locals = λ fd i. omega (arith, privates_short f.cid refl fd i, size);
      }
