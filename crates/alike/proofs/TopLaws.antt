-- What a subset takes from the top DICT, the charset and the Encoding of a font is the same for fonts that are alike: keying, ROS, entries that are copied,
-- strings, the order in which glyphs are written, the FDs in use, whether finding gives the kept glyphs, and codes.
use Prim.Native.Nat.{ℕ, zero, suc, ◌+◌}
use Rattle.std.specs.Prelude.{◌≡◌, Bool, true, ltb, length, None, Option, Some}
use Rattle.std.proofs.Math.Path.{refl, sym, ap}
use Rattle.std.proofs.Common.{◌∙◌, eqb-true}
use Rattle.std.proofs.Math.Bool.{false}
use mathlib.Core.List.{List, [], ◌∷◌, ◌++◌}
use Rattle.std.proofs.Math.Dec.{eqb}
use Rattle.std.proofs.Math.ListN.{get_or}
use Rattle.octets.specs.Pick.{pick, pick_ind}
use Rattle.prune.specs.StepLaws.{zero_one}
use Rattle.dict.specs.Op.{private, font_matrix, paint_type, ros, cid_count, copied_top_entries, copied_top_strings}
use Rattle.dict.specs.Dict.{Entry}
use Rattle.dict.specs.Lookup.{Operands, absent, operands, last_from, last_of, only, is_there, cid_keyed, ros_as, ros_in, count_as, cid_count_in, stroked_as, stroked_in, id_as, id_in}
use Rattle.dict.specs.declared.RosEntry.{RosEntry}
use Rattle.dict_write.specs.Written.{without}
use Rattle.strings.specs.Strings.{string_text}
use Rattle.charset.specs.Codes.{Naming, by_number, by_string}
use Rattle.find.specs.Find.{glyph_with_id, glyph_with_text}
use Rattle.cff.specs.Font.{Coding, standard, expert, custom, Program}
use Rattle.subset.specs.Kept.{is_in, those, sorted_by, written_order, fds_of, used_fds}
use Rattle.subset.specs.Texts.{Named, named_by, named_entries, texts_of, name_of, names_of, own_strings_lem, new_id}
use Rattle.subset.specs.Codes.{code_of, glyph_by, or_else, last_named, Pair, pair_of, pairs_from, Coded, none, pairs, coded_by_lem, coded_if}
use Rattle.subset.specs.Subset.{copied_bytes, ros_texts, named, own_by_name, own_by_cid, matrix_of}
use Rattle.subset.specs.Cut.{is_glyph, is_found, all_found_lem, is_expert, unsupported_in, own_of}
use Rattle.subset.proofs.AlikeLaws.{names-alike}
use Rattle.alike.specs.Alike.{places, without_all, Alike}

-- ---- entries of other operators do not say what the last of one is

neither : (s t : Bool) → pick s true t ≡ false → (s ≡ false) × (t ≡ false)
neither true t e = absurd (zero_one cc)
neither false t e = (refl, e)

module _ (op : ℕ) where
  pub last_other : (x : ℕ) (o : Operands) (es : List Entry) → eqb x op ≡ false → last_from op o (without x es) ≡ last_from op o es
  unfolding last_from without
  last_other x o [] other = refl
  last_other x o (e ∷ es) other =
      pick_ind (λ (l : List Entry). last_from op o l ≡ last_from op (pick (eqb e.op op) (operands e.operands) o) es) (eqb e.op x) (without x es) (e ∷ without x es)
      (λ t. let s : eqb e.op op ≡ false = ap (λ (n : ℕ). eqb n op) (eqb-true e.op x t) ∙ other in
      last_other x o es other ∙ ap (λ (u : Bool). last_from op (pick u (operands e.operands) o) es) (sym s))
      (λ t. last_other x (pick (eqb e.op op) (operands e.operands) o) es other)

  pub last-outside : (xs : List ℕ) (es : List Entry) → is_in op xs ≡ false → last_of op (without_all xs es) ≡ last_of op es
  unfolding without_all is_in last_of
  last-outside [] es outside = refl
  last-outside (x ∷ xs) es outside =
      let e = neither (eqb x op) (is_in op xs) outside in
      last_other x absent (without_all xs es) e.0 ∙ last-outside xs es e.1

-- none of these operators is a place
unfoldable apart : List ℕ → Bool
apart [] = true
apart (op ∷ ops) = pick (is_in op places) false (apart ops)

apart-both : (s t : Bool) → pick s false t ≡ true → (s ≡ false) × (t ≡ true)
apart-both true t e = absurd (zero_one cc)
apart-both false t e = (refl, e)

-- whether finding gives a glyph, by the keying, the strings and the ids
abbrev found_by : ℕ → Bool → List (List ℕ) → List ℕ → Bool
found_by g cid strings ids =
    pick cid (is_glyph g (pick cid (glyph_with_id (get_or ids g 0) 0 ids) None))
    (is_glyph g (pick cid None (glyph_with_text strings (string_text strings (get_or ids g 0)) 0 ids)))

module _ {keep : List ℕ} {global : ℕ → Bool} {local : ℕ → ℕ → Bool} {p q : Program} (a : Alike keep global local p q) where
  -- ---- the top DICT

  last-same : (op : ℕ) → is_in op places ≡ false → last_of op p.top ≡ last_of op q.top
  last-same op outside = sym (last-outside op places p.top outside) ∙ (ap (last_of op) a.top ∙ last-outside op places q.top outside)

  pub keyed-same : cid_keyed p.top ≡ cid_keyed q.top
  unfolding is_in
  keyed-same = ap is_there (last-same ros refl)

  pub ros-same : ros_in p.top ≡ ros_in q.top
  unfolding is_in
  ros-same = ap ros_as (last-same ros refl)

  pub count_same : cid_count_in p.top ≡ cid_count_in q.top
  unfolding is_in
  count_same = ap (λ (o : Operands). count_as (only o)) (last-same cid_count refl)

  stroked_same : stroked_in p.top ≡ stroked_in q.top
  unfolding is_in
  stroked_same = ap (λ (o : Operands). stroked_as (only o)) (last-same paint_type refl)

  pub unsupported-same : (ask : Bool) → unsupported_in ask p ≡ unsupported_in ask q
  unsupported-same ask =
      ap (λ (s : Bool). pick s true (pick ask false (is_expert p.coding))) stroked_same
      ∙ ap (λ (c : Coding). pick (stroked_in q.top) true (pick ask false (is_expert c))) a.coding

  copied-each : (ops : List ℕ) → apart ops ≡ true → copied_bytes p.top ops ≡ copied_bytes q.top ops
  unfolding copied_bytes apart
  copied-each [] t = refl
  copied-each (op ∷ ops) t =
      let e = apart-both (is_in op places) (apart ops) t in
      rw (last-same op e.0, copied-each ops e.1)

  pub copied-same : copied_bytes p.top copied_top_entries ≡ copied_bytes q.top copied_top_entries
  unfolding apart is_in
  copied-same = copied-each copied_top_entries refl

  -- ---- strings

  named-by : (op : ℕ) (i : Option ℕ) (rest : List Named) → named_by p op i rest ≡ named_by q op i rest
  named-by op None rest = refl
  named-by op (Some sid) rest = ap (λ (s : List (List ℕ)). record { op = op; text = string_text s sid } ∷ rest) a.strings

  named-each : (ops : List ℕ) → apart ops ≡ true → named_entries p ops ≡ named_entries q ops
  unfolding named_entries apart
  named-each [] t = refl
  named-each (op ∷ ops) t =
      let e = apart-both (is_in op places) (apart ops) t in
      let i : id_in op p.top ≡ id_in op q.top = ap (λ (o : Operands). id_as (only o)) (last-same op e.0) in
      ap (λ (x : Option ℕ). named_by p op x (named_entries p ops)) i
      ∙ (ap (named_by p op (id_in op q.top)) (named-each ops e.1) ∙ named-by op (id_in op q.top) (named_entries q ops))

  pub named-same : named p ≡ named q
  unfolding apart is_in
  named-same = named-each copied_top_strings refl

  pub id_same : (g : ℕ) → get_or p.ids g 0 ≡ get_or q.ids g 0
  id_same g = ap (λ (l : List ℕ). get_or l g 0) a.ids

  pub names_same : (gs : List ℕ) → names_of p gs ≡ names_of q gs
  names_same gs = names-alike p q a.strings gs (λ g h. id_same g)

  texts-by : (r : Option RosEntry) → ros_texts p r ≡ ros_texts q r
  texts-by None = refl
  texts-by (Some q) = ap (λ (l : List (List ℕ)). string_text l q.registry ∷ string_text l q.ordering ∷ []) a.strings

  pub texts-same : ros_texts p (ros_in p.top) ≡ ros_texts q (ros_in q.top)
  texts-same = ap (ros_texts p) ros-same ∙ texts-by (ros_in q.top)

  pub own_same : (order : List ℕ) → own_of p order ≡ own_of q order
  own_same order =
      let names = ap (λ (ns : List Named). own_strings_lem [] (texts_of ns ++ names_of p order)) named-same
      ∙ ap (λ (ts : List (List ℕ)). own_strings_lem [] (texts_of (named q) ++ ts)) (names_same order) in
      let cids = ap (λ (ts : List (List ℕ)). own_strings_lem [] (ts ++ texts_of (named p))) texts-same
      ∙ ap (λ (ns : List Named). own_strings_lem [] (ros_texts q (ros_in q.top) ++ texts_of ns)) named-same in
      ap (λ (t : Bool). pick t (own_by_cid p) (own_by_name p order)) keyed-same
      ∙ (ap (λ (l : List (List ℕ)). pick (cid_keyed q.top) l (own_by_name p order)) cids
      ∙ ap (λ (l : List (List ℕ)). pick (cid_keyed q.top) (own_by_cid q) l) names)

  -- ---- glyphs

  pub order_alike : (kept : List ℕ) → written_order p kept ≡ written_order q kept
  order_alike kept =
      ap (λ (t : Bool). pick t (sorted_by (λ g. get_or p.ids g 0) kept) kept) keyed-same
      ∙ ap (λ (l : List ℕ). pick (cid_keyed q.top) (sorted_by (λ g. get_or l g 0) kept) kept) a.ids

  fds_each : (gs : List ℕ) → fds_of p gs ≡ fds_of q gs
  unfolding fds_of
  fds_each [] = refl
  fds_each (g ∷ gs) =
      ap (λ (l : List ℕ). get_or l g 0 ∷ fds_of p gs) a.fds ∙ ap (λ (l : List ℕ). get_or q.fds g 0 ∷ l) (fds_each gs)

  pub used-same : (kept : List ℕ) → used_fds p kept ≡ used_fds q kept
  used-same kept =
      ap (λ (l : List ℕ). those (λ f. is_in f l) (length p.privates) 0) (fds_each kept)
      ∙ ap (λ (n : ℕ). those (λ f. is_in f (fds_of q kept)) n 0) a.many_privates

  found-one : (g : ℕ) → is_found p g ≡ is_found q g
  found-one g =
      ap (λ (t : Bool). found_by g t p.strings p.ids) keyed-same
      ∙ (ap (λ (s : List (List ℕ)). found_by g (cid_keyed q.top) s p.ids) a.strings
      ∙ ap (λ (l : List ℕ). found_by g (cid_keyed q.top) q.strings l) a.ids)

  pub found-same : (gs : List ℕ) → all_found_lem p gs ≡ all_found_lem q gs
  unfolding all_found_lem
  found-same [] = refl
  found-same (g ∷ gs) =
      ap (λ (t : Bool). pick t (all_found_lem p gs) false) (found-one g) ∙ ap (λ (t : Bool). pick (is_found q g) t false) (found-same gs)

  -- ---- the Encoding

  glyph-by : (n : Naming) → glyph_by p n ≡ glyph_by q n
  glyph-by (by_number code g) = ap (λ (n : ℕ). pick (ltb g n) (Some g) None) a.charstrings.many
  glyph-by (by_string code sid) =
      ap (λ (s : List (List ℕ)). glyph_with_text s (string_text s sid) 0 p.ids) a.strings
      ∙ ap (λ (l : List ℕ). glyph_with_text q.strings (string_text q.strings sid) 0 l) a.ids

  last-named : (code : ℕ) (f : Option ℕ) (ns : List Naming) → last_named p code f ns ≡ last_named q code f ns
  unfolding last_named
  last-named code f [] = refl
  last-named code f (n ∷ ns) =
      ap (λ (x : Option ℕ). last_named p code (pick (eqb (code_of n) code) (or_else x f) f) ns) (glyph-by n)
      ∙ last-named code (pick (eqb (code_of n) code) (or_else (glyph_by q n) f) f) ns

  name-same : (g : ℕ) → name_of p g ≡ name_of q g
  name-same g = ap (λ (s : List (List ℕ)). string_text s (get_or p.ids g 0)) a.strings ∙ ap (string_text q.strings) (id_same g)

  pair-of : (kept : List ℕ) (own : List (List ℕ)) (code : ℕ) (f : Option ℕ) → pair_of p kept own code f ≡ pair_of q kept own code f
  pair-of kept own code None = refl
  pair-of kept own code (Some g) = ap (λ (t : List ℕ). pick (is_in g kept) (record { code = code; id = new_id own t } ∷ []) []) (name-same g)

  pairs-from : (ns : List Naming) (kept : List ℕ) (own : List (List ℕ)) (n code : ℕ) → pairs_from p ns kept own n code ≡ pairs_from q ns kept own n code
  unfolding pairs_from
  pairs-from ns kept own zero code = refl
  pairs-from ns kept own (suc n) code =
      ap (λ (f : Option ℕ). pair_of p kept own code f ++ pairs_from p ns kept own n (code + 1)) (last-named code None ns)
      ∙ (ap (λ (l : List Pair). l ++ pairs_from p ns kept own n (code + 1)) (pair-of kept own code (last_named q code None ns))
      ∙ ap (λ (l : List Pair). pair_of q kept own code (last_named q code None ns) ++ l) (pairs-from ns kept own n (code + 1)))

  coded_by : (kept : List ℕ) (own : List (List ℕ)) (c : Coding) → coded_by_lem p kept own c ≡ coded_by_lem q kept own c
  unfolding coded_by_lem
  coded_by kept own standard = refl
  coded_by kept own expert = refl
  coded_by kept own (custom ns) = ap pairs (pairs-from ns kept own 256 0)

  pub coded-same : (ask : Bool) (kept : List ℕ) (own : List (List ℕ)) → coded_if ask p kept own ≡ coded_if ask q kept own
  coded-same ask kept own =
      ap (λ (c : Coding). pick ask (coded_by_lem p kept own c) none) a.coding ∙ ap (λ (x : Coded). pick ask x none) (coded_by kept own q.coding)

  -- ---- the FontMatrix of an FD

  pub matrix_same : (f : ℕ) → matrix_of p f ≡ matrix_of q f
  unfolding last_of
  matrix_same f =
      sym (last_other font_matrix private absent (get_or p.dicts f []) refl)
      ∙ (ap (last_of font_matrix) (a.dicts f) ∙ last_other font_matrix private absent (get_or q.dicts f []) refl)
