-- A name-keyed subset reads back (document 01, 'Layout'; document 02, Wish 4): the font with the strings, ids, encoding and bodies that were written.
use Prim.Native.Nat.{ℕ, zero, suc, ◌+◌, ◌≤◌, ◌<◌}
use Rattle.std.specs.Prelude.{◌≡◌, refl, Bool, false, ltb, eqb, get_or, Result, Ok}
use Rattle.std.proofs.Common.{sym, ◌∙◌, arith, ne_eqb, lit<, length-append}
use Rattle.std.proofs.Math.Path.{ap, subst}
use mathlib.Core.List.{List, [], ◌∷◌, ◌++◌, append-nil}
use Rattle.std.proofs.Math.ListN.{length, drop}
use Rattle.octets.specs.Pick.{pick, pick_ind}
use Rattle.octets.specs.Octets.{bytes_of}
use Rattle.index.specs.Index.{found, read_index}
use Rattle.index.specs.Write.{size_for, index_bytes}
use Rattle.charset.specs.CharsetBytes.{Ids, charset_bytes}
use Rattle.charset.specs.FdSelect.{no_fds}
use Rattle.charset.specs.Encoding.{encoding_at}
use Rattle.charset.specs.Codes.{namings_at}
use Rattle.charset.specs.CodesRound.{supplement_bytes, encoding-passes, encoding-back}
use Rattle.dict.specs.Lookup.{last_from, last_of}
use Rattle.dict.specs.Dict.{Entry, dict_of}
use Rattle.cff.specs.Font.{Coding, standard, expert, custom, coding_refusal, Private, Program, private_data, private_at, ids_at, coding_at, encoding_got, cid_parts, name_parts, font_at, read_font, empty_private}
use Rattle.cff.specs.ReadsLaws.{no}
use Rattle.subset.specs.Kept.{private_of}
use Rattle.subset.specs.Texts.{names_of}
use Rattle.subset.proofs.TextsLaws.{ids-length, names-length}
use Rattle.subset.specs.Pruned.{Bodies}
use Rattle.subset.specs.Codes.{Pair, Coded, none, predefined, pairs, pair_bytes, encoding_bytes, coded_bytes, coded_at}
use Rattle.subset.specs.Subset.{private_dict, private_part, own_by_name, top_by_name, new_ids, one_local_lem, subset_by_name}
use Rattle.faithful.specs.Laid.{GoodProgram, Fitting, ReadsAs}
use Rattle.faithful.specs.CodesLaws.{coding_of, SmallIds}
use Rattle.faithful.specs.LiesLaws.{lies_behind, lies_within, index_back}
use Rattle.faithful.specs.PrivateBack.{private-back}
use Rattle.faithful.specs.TopFitLaws.{new-below}
use Rattle.faithful.specs.TopLaws.{NameTop, name-top-back, name-top-length, single-length}
use Rattle.faithful.specs.SetBack.{set_bytes, rest_at, rest_lies, rest-within, size_small, set_back}
use Rattle.faithful.specs.FontBack.{ids-back, font_of, font-back}
use Rattle.refusal.specs.declared.Refusal.{Refusal}

-- ---- the ids of the names

-- the ids fit two bytes
pub ids-small : (own ts : List (List ℕ)) → length own ≤ 64609 → Ids (new_ids own ts)
unfolding new_ids
ids-small own [] few i = lit< tt
ids-small own (t ∷ ts) few zero = new-below own t few
ids-small own (t ∷ ts) few (suc i) = ids-small own ts few i

-- ---- the encoding

-- the pairs are supplements
pairs-supplied : (ps : List Pair) → pair_bytes ps ≡ supplement_bytes (λ q. q.code) (λ q. q.id) ps
unfolding pair_bytes supplement_bytes
pairs-supplied [] = refl
pairs-supplied (q ∷ ps) = ap (λ (l : List ℕ). q.code ∷ (bytes_of 2 q.id ++ l)) (pairs-supplied ps)

pairs_lie : (bs : List ℕ) (at : ℕ) (ps : List Pair) (post : List ℕ) → drop at bs ≡ encoding_bytes ps ++ post
    → drop at bs ≡ (0x80 ∷ 0x00 ∷ length ps ∷ supplement_bytes (λ q. q.code) (λ q. q.id) ps) ++ post
pairs_lie bs at ps post lies = lies ∙ ap (λ (l : List ℕ). (0x80 ∷ 0x00 ∷ length ps ∷ l) ++ post) (pairs-supplied ps)

-- so that the encoding behind the charset passes its checks; the two predefined ones have none
coded-pass : (bs : List ℕ) (at : ℕ) (coded : Coded) (post : List ℕ) → drop at bs ≡ coded_bytes coded ++ post → coding_refusal bs (coded_at coded at) ≡ Ok tt
coded-pass bs at none post lies = refl
coded-pass bs at predefined post lies = refl
coded-pass bs at (pairs ps) post lies =
    pick_ind (λ (r : Result Unit Refusal). r ≡ Ok tt) (ltb at 2) (Ok tt) (encoding_at bs at) (λ t. refl) (λ t. encoding-passes (λ q. q.code) (λ q. q.id) bs at ps post (pairs_lie bs at ps post lies))

-- and is read as it was written
coded-back : (bs : List ℕ) (at : ℕ) (coded : Coded) (post : List ℕ) → 2 ≤ at → drop at bs ≡ coded_bytes coded ++ post → SmallIds coded
    → coding_at bs (coded_at coded at) ≡ coding_of coded
unfolding coding_at
coded-back bs at none post far lies small = refl
coded-back bs at predefined post far lies small = refl
coded-back bs at (pairs ps) post far lies small =
    let own : Coding = custom (namings_at bs at) in
    ap (λ (t : Bool). pick t standard (pick (eqb at 1) expert own)) (ne_eqb at 0 (λ e. omega arith))
    ∙ ap (λ (t : Bool). pick t expert own) (ne_eqb at 1 (λ e. omega arith))
    ∙ ap custom (encoding-back (λ q. q.code) (λ q. q.id) bs at ps post (pairs_lie bs at ps post lies) small)

-- its offset is within the bytes, and is 0 where it would be 0 elsewhere
pub coded-within : (coded : Coded) (at n : ℕ) → at ≤ n → 0 < n → coded_at coded at ≤ n
coded-within none at n h s = omega arith
coded-within predefined at n h s = s
coded-within (pairs ps) at n h s = h

pub coded_there : (coded : Coded) (at : ℕ) → 0 < at → eqb (coded_at coded at) 0 ≡ eqb (coded_at coded 1) 0
coded_there none at h = refl
coded_there predefined at h = refl
coded_there (pairs ps) at h = ne_eqb at 0 (λ e. omega arith)

-- ---- the one Private DICT

-- what a name-keyed font adds: that Private DICT, and the encoding
name-parts-back : (bs : List ℕ) (es : List Entry) (n at₁ v at₂ size at₃ : ℕ) (q : Private) → NameTop es at₁ v at₂ size at₃ → private_data bs size at₃ ≡ Ok q
    → coding_refusal bs v ≡ Ok tt → name_parts bs es n ≡ Ok (record { privates = q ∷ []; fds = no_fds n; dicts = []; coding = coding_at bs v })
unfolding name_parts private_at encoding_got
name-parts-back bs es n at₁ v at₂ size at₃ q t d c = rw (t.private_at, d, t.encoding_at, c)

-- it is within its part
pub dict-within : (q : Private) (ls : List (List ℕ)) → length (private_dict q ls) ≤ length (private_part q ls)
dict-within q ls = omega (arith, length-append (private_dict q ls) (pick (eqb (length ls) 0) [] (index_bytes ls)))

-- and holds the local subroutines of FD 0
one_local : (es : List Entry) (lss : List (List (List ℕ))) → length lss ≡ 1 → (k : ℕ) → k < length lss
    → (get_or {A = Private} (record { entries = es; locals = get_or lss 0 [] } ∷ []) k empty_private).locals ≡ get_or lss k []
one_local es lss e zero h = refl
one_local es lss e (suc k) h = absurd (no (omega arith))

-- ---- the parts behind the globals, at₁ being the place of the charset

module _ (p : Program) (coded : Coded) (order : List ℕ) (b : Bodies) (at₁ : ℕ) where
  -- the ids, the Private DICT, and the places of the encoding, of the charstrings and of Private
  abbrev ids : List ℕ
  ids = new_ids (own_by_name p order) (names_of p order)

  abbrev dict : List ℕ
  dict = private_dict (private_of p 0) (one_local_lem b)

  abbrev part : List ℕ
  part = private_part (private_of p 0) (one_local_lem b)

  abbrev codes_place : ℕ
  codes_place = at₁ + length (charset_bytes ids)

  abbrev codes_at : ℕ
  codes_at = coded_at coded codes_place

  abbrev glyphs_place : ℕ
  glyphs_place = codes_place + length (coded_bytes coded)

  abbrev private_place : ℕ
  private_place = glyphs_place + length (index_bytes b.charstrings)

  -- all that stands behind the globals
  abbrev behind_globals : List ℕ
  behind_globals = charset_bytes ids ++ (coded_bytes coded ++ (index_bytes b.charstrings ++ part))

  module _ (bs : List ℕ) (within₁ : at₁ ≤ length bs) (lies₁ : drop at₁ bs ≡ behind_globals) where
    -- the encoding stands behind the charset, the charstrings behind it, and Private behind them
    liesᵥ : drop codes_place bs ≡ coded_bytes coded ++ (index_bytes b.charstrings ++ part)
    liesᵥ = lies_behind bs at₁ (charset_bytes ids) _ lies₁

    lies₂ : drop glyphs_place bs ≡ index_bytes b.charstrings ++ part
    lies₂ = lies_behind bs codes_place (coded_bytes coded) _ liesᵥ

    lies₃ : drop private_place bs ≡ part ++ []
    lies₃ = lies_behind bs glyphs_place (index_bytes b.charstrings) part lies₂ ∙ sym (append-nil part)

    -- all within the bytes
    within₃ : private_place ≤ length bs
    within₃ =
        lies_within bs glyphs_place (index_bytes b.charstrings) part lies₂
        (lies_within bs codes_place (coded_bytes coded) _ liesᵥ (lies_within bs at₁ (charset_bytes ids) _ lies₁ within₁))

    size-within : length dict ≤ length bs
    size-within = omega (arith, lies_within bs private_place part [] lies₃ within₃, dict-within (private_of p 0) (one_local_lem b))

    module _ (good : GoodProgram p) (fit : Fitting (length order) (0 ∷ []) b) (short : length bs ≤ 67108864)
        (some : 0 < length order) (count : length order < 65536) (first : get_or ids 0 0 ≡ 0) (few : length (own_by_name p order) ≤ 64609) where
      -- the charset, the charstrings and Private read back
      ids-read : 3 ≤ at₁ → ids_at bs (length b.charstrings) at₁ ≡ Ok ids
      ids-read far =
          let n : length ids ≡ length order = ids-length (own_by_name p order) (names_of p order) ∙ names-length p order in
          ap (λ (k : ℕ). ids_at bs k at₁) (fit.glyphs ∙ sym n) ∙ ids-back bs at₁ ids _ far lies₁ (omega arith) first (ids-small (own_by_name p order) (names_of p order) few)

      glyphs-read : read_index bs glyphs_place ≡ found b.charstrings private_place
      glyphs-read = index_back bs glyphs_place b.charstrings part (omega (arith, fit.glyphs)) short lies₂

      private-read : (es : List Entry) × (private_data bs (length dict) private_place ≡ Ok (record { entries = es; locals = one_local_lem b }))
      private-read = private-back bs private_place (private_of p 0) (one_local_lem b) [] (good.privates 0) (fit.locals 0) short within₃ lies₃

      -- the font that is read, by the entries of its top DICT
      abbrev font_read : List Entry → Program
      font_read es =
          font_of (own_by_name p order) b.globals es b.charstrings ids
          (record { privates = record { entries = private-read.0; locals = one_local_lem b } ∷ []; fds = no_fds (length b.charstrings); dicts = []; coding = coding_at bs codes_at })

      -- it is what its top DICT gives
      font-read : (top : List ℕ) (es : List Entry) → dict_of top ≡ Ok es → NameTop es at₁ codes_at glyphs_place (length dict) private_place → 3 ≤ at₁
          → font_at bs (own_by_name p order) b.globals top ≡ Ok (font_read es)
      font-read top es d t far =
          let n = length b.charstrings in
          font-back bs (own_by_name p order) b.globals top es b.charstrings ids _ d t.charstring_type_none at₁ glyphs_place private_place t.charset_at t.char_strings_at
          glyphs-read (omega (arith, fit.glyphs)) (ids-read far)
          (ap (λ (k : Bool). pick k (cid_parts bs es n) (name_parts bs es n)) t.keying
          ∙ name-parts-back bs es n at₁ codes_at glyphs_place (length dict) private_place _ t private-read.1 (coded-pass bs codes_place coded _ liesᵥ))

-- ---- the whole

module _ (p : Program) (coded : Coded) (name order : List ℕ) (b : Bodies) where
  -- the place of the charset, and the top DICT as it is written
  abbrev top_measured : List ℕ
  top_measured = top_by_name p (own_by_name p order) 0 (coded_at coded 1) 0 0 0

  abbrev charset_place : ℕ
  charset_place = rest_at name top_measured (own_by_name p order) b.globals

  abbrev top_written : List ℕ
  top_written =
      top_by_name p (own_by_name p order) charset_place (codes_at p coded order b charset_place) (glyphs_place p coded order b charset_place)
      (length (dict p coded order b charset_place)) (private_place p coded order b charset_place)

  abbrev size_written : ℕ
  size_written = size_for (private_place p coded order b charset_place + length (part p coded order b charset_place))

  -- the top DICT is as long as with other offsets
  place_is : rest_at name top_written (own_by_name p order) b.globals ≡ charset_place
  place_is =
      let there = coded_there coded (codes_place p coded order b charset_place) (omega arith) in
      let at₂ = glyphs_place p coded order b charset_place in
      let at₃ = private_place p coded order b charset_place in
      let k = single-length top_written top_measured
      (name-top-length p (own_by_name p order) charset_place (codes_at p coded order b charset_place) (coded_at coded 1) at₂ (length (dict p coded order b charset_place)) at₃ there) in
      omega arith

  -- the charset and what follows it stand there
  rest-place : (charset_place ≤ length (subset_by_name p coded name order b))
      × (drop charset_place (subset_by_name p coded name order b) ≡ behind_globals p coded order b charset_place)
  unfolding subset_by_name
  rest-place =
      let rest : List ℕ = behind_globals p coded order b charset_place in
      let bs : List ℕ = set_bytes size_written name top_written (own_by_name p order) b.globals rest in (
        subst (λ (k : ℕ). k ≤ length bs) place_is (rest-within size_written name top_written (own_by_name p order) b.globals rest),
        ap (λ (k : ℕ). drop k bs) (sym place_is) ∙ rest_lies size_written name top_written (own_by_name p order) b.globals rest,
      )

  -- it is read as the font that its top DICT gives
  subset-back : length (own_by_name p order) < 65536 → length b.globals < 65536 → length (subset_by_name p coded name order b) ≤ 67108864 → (font : Program)
      → font_at (subset_by_name p coded name order b) (own_by_name p order) b.globals top_written ≡ Ok font
      → read_font (subset_by_name p coded name order b) ≡ Ok font
  unfolding subset_by_name
  subset-back fewStrings few_globals short font e =
      set_back size_written name top_written (own_by_name p order) b.globals (behind_globals p coded order b charset_place) (size_small (private_place p coded order b charset_place + length (part p coded order b charset_place))) fewStrings few_globals short font e

  -- the offset of its encoding, which reads back
  abbrev pub codes_written : ℕ
  codes_written = codes_at p coded order b charset_place

  pub codes-read : SmallIds coded → coding_at (subset_by_name p coded name order b) codes_written ≡ coding_of coded
  codes-read small =
      let bs = subset_by_name p coded name order b in
      coded-back bs (codes_place p coded order b charset_place) coded _ (omega arith)
      (liesᵥ p coded order b charset_place bs rest-place.0 rest-place.1) small

-- a name-keyed subset reads back
pub by_name : (p : Program) (coded : Coded) (name order : List ℕ) (b : Bodies) → GoodProgram p → Fitting (length order) (0 ∷ []) b
    → 0 < length order → length order < 65536 → get_or (new_ids (own_by_name p order) (names_of p order)) 0 0 ≡ 0
    → length (own_by_name p order) ≤ 64609 → length (subset_by_name p coded name order b) ≤ 67108864
    → ReadsAs false (own_by_name p order) (new_ids (own_by_name p order) (names_of p order)) (no_fds (length order)) []
    (coding_at (subset_by_name p coded name order b) (codes_written p coded name order b)) b (subset_by_name p coded name order b)
unfolding last_of last_from
by_name p coded name order b good fit some count first few short =
    let bs = subset_by_name p coded name order b in
    let at₁ = charset_place p coded name order b in
    let r = rest-place p coded name order b in
    let within = within₃ p coded order b at₁ bs r.0 r.1 in
    let sized = size-within p coded order b at₁ bs r.0 r.1 in
    let codes = coded-within coded (codes_place p coded order b at₁) (length bs) (omega arith) (omega arith) in
    let top = name-top-back p (own_by_name p order) at₁ (codes_at p coded order b at₁) (glyphs_place p coded order b at₁)
    (length (dict p coded order b at₁)) (private_place p coded order b at₁) good few (omega arith) (omega arith) (omega arith) (omega arith) (omega arith) in
    let q = private-read p coded order b at₁ bs r.0 r.1 good fit short some count first few in
    let font = font-read p coded order b at₁ bs r.0 r.1 good fit short some count first few (top_written p coded name order b) top.0 top.1 top.2 (omega arith) in
    record {
      program = font_read p coded order b at₁ bs r.0 r.1 good fit short some count first few top.0;
      reads = subset-back p coded name order b (omega arith) fit.globals short _ font;
      keying = top.2.keying;
      strings = refl;
      globals = refl;
      charstrings = refl;
      ids = refl;
      fds = ap no_fds fit.glyphs;
      codes = refl;
      matrix = λ k. refl;
      locals = one_local q.0 b.locals fit.fds;
    }
