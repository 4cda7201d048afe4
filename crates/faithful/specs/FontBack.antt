-- A font is read as its parts are (TN5176, section 9; document 01, 'Layout'): from the entries of its top DICT, the charstrings, the ids of the
-- glyphs, and what its keying adds.
use Rattle.std.specs.Prelude.{ℕ, ◌≤◌, ◌<◌, ◌≡◌, Bool, true, List, ◌++◌, ltb, length, drop, get_or, Result, Ok, Err, Option, Some}
use Rattle.std.proofs.Common.{ap, ◌∙◌, arith, le-ltb, ne_eqb}
use Rattle.octets.specs.Pick.{pick}
use Rattle.octets.specs.Lists.{all_below}
use Rattle.index.specs.Index.{found, read_index}
use Rattle.dict.specs.Dict.{Entry, dict_of}
use Rattle.dict.specs.Lookup.{offset_in, cid_keyed, charstring_type_in}
use Rattle.charset.specs.Charset.{charset_at, iso_adobe}
use Rattle.charset.specs.CharsetBytes.{Ids, charset_bytes}
use Rattle.charset.specs.CharsetRound.{charset-round}
use Rattle.charset.specs.FdSelect.{fd_select_at}
use Rattle.cff.specs.Font.{charset, char_strings, fd_array, fd_select_lem, then, index_got, not_none, needed, or_zero, Private, standard, Added, privates_at, dicts_at, Program, ids_at, fds_at, cid_parts, name_parts, font_at}
use Rattle.cff.specs.ReadsLaws.{then-got}
use Rattle.refusal.specs.declared.Refusal.{Refusal}
use Rattle.refusal.specs.declared.Refusal.TheVariants.{Malformed, Unsupported}

-- a count that is not 0 passes
pub some-passes : (n : ℕ) → 0 < n → not_none n ≡ Ok tt
some-passes n h = rw (ne_eqb n 0 (λ e. omega arith))

-- the INDEX that an offset of a DICT names
pub named-index : (b : List ℕ) (op : ℕ) (es : List Entry) (at : ℕ) (items : List (List ℕ)) (end : ℕ) → offset_in op es ≡ Ok (Some at) → read_index b at ≡ found items end
    → then (needed (offset_in op es)) (λ at. index_got (read_index b at)) ≡ Ok items
named-index b op es at items end e r =
    ap (λ (o : Result (Option ℕ) Refusal). then (needed o) (λ at. index_got (read_index b at))) e ∙ ap index_got r

-- the ids by a charset that was written
pub ids-back : (b : List ℕ) (at : ℕ) (ids post : List ℕ) → 3 ≤ at → drop at b ≡ charset_bytes ids ++ post → 0 < length ids → get_or ids 0 0 ≡ 0 → Ids ids
    → ids_at b (length ids) at ≡ Ok ids
unfolding ids_at
ids-back b at ids post far lies some first small =
    let answer = charset_at b at (length ids) in
    ap (λ (t : Bool). pick t (Ok (iso_adobe (length ids))) (pick (ltb at 3) (Err Unsupported) answer)) (ne_eqb at 0 (λ e. omega arith))
    ∙ ap (λ (t : Bool). pick t (Err Unsupported) answer) (le-ltb at 3 far)
    ∙ charset-round b at ids post lies some first small

-- the font of these parts
abbrev pub font_of : List (List ℕ) → List (List ℕ) → List Entry → List (List ℕ) → List ℕ → Added → Program
font_of own globals es cs ids added =
    record {
      top = es;
      strings = own;
      globals = globals;
      charstrings = cs;
      ids = ids;
      privates = added.privates;
      fds = added.fds;
      dicts = added.dicts;
      coding = added.coding;
    }

module _ (b : List ℕ) (own globals : List (List ℕ)) (top : List ℕ) (es : List Entry) (cs : List (List ℕ)) (ids : List ℕ) (added : Added)
    (dict : dict_of top ≡ Ok es) (type2 : charstring_type_in es ≡ Ok tt) (at₁ at₂ end : ℕ)
    (ofCharset : offset_in charset es ≡ Ok (Some at₁)) (ofCharStrings : offset_in char_strings es ≡ Ok (Some at₂))
    (read : read_index b at₂ ≡ found cs end) (some : 0 < length cs) (named : ids_at b (length cs) at₁ ≡ Ok ids) where
  -- the ids that the top DICT names
  ids-got : then (or_zero (offset_in charset es)) (ids_at b (length cs)) ≡ Ok ids
  ids-got = ap (λ (o : Result (Option ℕ) Refusal). then (or_zero o) (ids_at b (length cs))) ofCharset ∙ named

  -- a font whose keying adds these parts
  pub font-back : pick (cid_keyed es) (cid_parts b es (length cs)) (name_parts b es (length cs)) ≡ Ok added → font_at b own globals top ≡ Ok (font_of own globals es cs ids added)
  unfolding font_at
  font-back parts =
      then-got _ _ es dict ∙ then-got _ _ tt type2 ∙ then-got _ _ cs (named-index b char_strings es at₂ cs end ofCharStrings read)
      ∙ then-got _ _ tt (some-passes (length cs) some) ∙ then-got _ _ ids ids-got ∙ then-got _ _ added parts

-- what a CID-keyed font adds, by its parts
pub cid_parts-back : (b : List ℕ) (es : List Entry) (n at₁ at₂ end : ℕ) (dicts : List (List ℕ)) (ps : List Private) (fds : List ℕ)
    → offset_in fd_array es ≡ Ok (Some at₁) → offset_in fd_select_lem es ≡ Ok (Some at₂) → read_index b at₁ ≡ found dicts end → privates_at b dicts ≡ Ok ps → 0 < length ps
    → fd_select_at b at₂ n ≡ Ok fds → all_below (length ps) fds ≡ true → cid_parts b es n ≡ Ok (record { privates = ps; fds = fds; dicts = dicts_at dicts; coding = standard })
unfolding cid_parts fds_at
cid_parts-back b es n at₁ at₂ end dicts ps fds ofArray ofSelect read privates some select below =
    let added : Added = record { privates = ps; fds = fds; dicts = dicts_at dicts; coding = standard } in
    then-got _ _ dicts (named-index b fd_array es at₁ dicts end ofArray read) ∙ then-got _ _ ps privates ∙ then-got _ _ tt (some-passes (length ps) some)
    ∙ then-got _ _ fds (ap (fds_at b n) ofSelect ∙ select)
    ∙ ap (λ (t : Bool). pick t (Ok added) (Err Malformed)) below
