-- Where the parts of a subset stand (document 01, 'Layout'): the front, header, names, top DICT and strings, and then part behind part. What
-- the top DICT says of places does not change its length.
use Rattle.std.specs.Prelude.{ℕ, ◌+◌, ◌≡◌, refl, length}
use Rattle.std.proofs.Common.{sym, ◌∙◌, arith, length-append}
use Rattle.std.proofs.Math.Path.{ap}
use mathlib.Core.List.{List, [], ◌∷◌, ◌++◌, append_assoc}
use Rattle.index.specs.Write.{size_for, index_bytes}
use Rattle.charset.specs.CharsetBytes.{charset_bytes}
use Rattle.charset.specs.FdSelectBytes.{fd_select_bytes}
use Rattle.cff.specs.Font.{Program}
use Rattle.subset.specs.Kept.{private_of}
use Rattle.subset.specs.Texts.{names_of}
use Rattle.subset.specs.Pruned.{Bodies}
use Rattle.subset.specs.Codes.{Coded, coded_bytes, coded_at}
use Rattle.subset.specs.Subset.{private_dict, private_part, private_parts, font_dicts, own_by_name, own_by_cid, top_by_name, top_by_cid, new_ids, cids_of, new_fds, one_local_lem, subset_by_name, subset_by_cid}
use Rattle.front.specs.Front.{front_bytes}
use Rattle.faithful.specs.ByName.{coded_there}
use Rattle.faithful.specs.TopLaws.{name-top-length, cid_top-length, single-length}

-- its length, which the places in the top DICT do not change
abbrev pub front_len : List ℕ → List ℕ → List (List ℕ) → ℕ
front_len name top own = 4 + length (index_bytes (name ∷ [])) + length (index_bytes (top ∷ [])) + length (index_bytes own)

pub front_length : (name top : List ℕ) (own : List (List ℕ)) (all : ℕ) → length (front_bytes all name top own) ≡ front_len name top own
front_length name top own all = rw (length-append, length-append) (omega arith)

-- lists one behind the other
after_one : (a l : List ℕ) (m n : ℕ) → length a ≡ m → length l ≡ n → length (a ++ l) ≡ m + n
after_one a l m n e f = length-append a l ∙ ap (λ (k : ℕ). k + length l) e ∙ ap (λ (k : ℕ). m + k) f

sums_five : (f g i e c q : ℕ) → f + (g + (i + (e + (c + q)))) ≡ f + g + i + e + c + q
sums_five f g i e c q = omega arith

sums_six : (f g i s c d q : ℕ) → f + (g + (i + (s + (c + (d + q))))) ≡ f + g + i + s + c + d + q
sums_six f g i s c d q = omega arith

-- ---- name-keyed

module _ (p : Program) (coded : Coded) (name order : List ℕ) (b : Bodies) where
  abbrev own : List (List ℕ)
  own = own_by_name p order

  abbrev globals : List ℕ
  globals = index_bytes b.globals

  abbrev ids : List ℕ
  ids = charset_bytes (new_ids own (names_of p order))

  abbrev codes : List ℕ
  codes = coded_bytes coded

  abbrev charstrings : List ℕ
  charstrings = index_bytes b.charstrings

  abbrev private : List ℕ
  private = private_part (private_of p 0) (one_local_lem b)

  -- the top DICT as it is measured; the places of charset, encoding, charstrings and Private, and the length of all
  abbrev measured_top : List ℕ
  measured_top = top_by_name p own 0 (coded_at coded 1) 0 0 0

  abbrev pub named_charset : ℕ
  named_charset = front_len name measured_top own + length globals

  abbrev pub named_codes : ℕ
  named_codes = named_charset + length ids

  abbrev pub named_charstrings : ℕ
  named_charstrings = named_codes + length codes

  abbrev pub named_private : ℕ
  named_private = named_charstrings + length charstrings

  abbrev pub named_end : ℕ
  named_end = named_private + length private

  abbrev pub named_top : List ℕ
  named_top = top_by_name p own named_charset (coded_at coded named_codes) named_charstrings (length (private_dict (private_of p 0) (one_local_lem b))) named_private

  -- the front, and part behind part
  pub named-parts : subset_by_name p coded name order b ≡ front_bytes named_end name named_top own ++ (globals ++ (ids ++ (codes ++ (charstrings ++ private))))
  unfolding subset_by_name
  named-parts =
      ap (λ (l : List ℕ). 1 ∷ 0 ∷ 4 ∷ size_for named_end ∷ l)
      (sym (append_assoc (index_bytes (name ∷ [])) (index_bytes (named_top ∷ []) ++ index_bytes own) (globals ++ (ids ++ (codes ++ (charstrings ++ private))))
      ∙ ap (λ (l : List ℕ). index_bytes (name ∷ []) ++ l) (append_assoc (index_bytes (named_top ∷ [])) (index_bytes own) (globals ++ (ids ++ (codes ++ (charstrings ++ private)))))))

  -- so long in all
  pub named-length : length (subset_by_name p coded name order b) ≡ named_end
  named-length =
      let size = length (private_dict (private_of p 0) (one_local_lem b)) in
      let front : length (front_bytes named_end name named_top own) ≡ front_len name measured_top own
      = front_length name named_top own named_end
      ∙ ap (λ (k : ℕ). 4 + length (index_bytes (name ∷ [])) + k + length (index_bytes own))
      (single-length named_top measured_top
      (name-top-length p own named_charset (coded_at coded named_codes) (coded_at coded 1) named_charstrings size named_private (coded_there coded named_codes (omega arith)))) in
      ap length named-parts
      ∙ after_one (front_bytes named_end name named_top own) (globals ++ (ids ++ (codes ++ (charstrings ++ private)))) _ _ front
      (after_one globals (ids ++ (codes ++ (charstrings ++ private))) _ _ refl
      (after_one ids (codes ++ (charstrings ++ private)) _ _ refl (after_one codes (charstrings ++ private) _ _ refl (length-append charstrings private))))
      ∙ sums_five (front_len name measured_top own) (length globals) (length ids) (length codes) (length charstrings) (length private)

-- ---- CID-keyed

module _ (p : Program) (name used order : List ℕ) (b : Bodies) where
  abbrev cid_own : List (List ℕ)
  cid_own = own_by_cid p

  abbrev cid_globals : List ℕ
  cid_globals = index_bytes b.globals

  abbrev cids : List ℕ
  cids = charset_bytes (cids_of p order)

  abbrev select : List ℕ
  select = fd_select_bytes (new_fds p used order)

  abbrev cid_charstrings : List ℕ
  cid_charstrings = index_bytes b.charstrings

  abbrev dicts : ℕ → List ℕ
  dicts at = index_bytes (font_dicts p at used b.locals)

  abbrev privates : List ℕ
  privates = private_parts p used b.locals

  -- the places of charset, FDSelect, charstrings, the FD INDEX and the Privates, and the length of all
  abbrev pub cid_charset : ℕ
  cid_charset = front_len name (top_by_cid p cid_own 0 0 0 0) cid_own + length cid_globals

  abbrev pub cid_select : ℕ
  cid_select = cid_charset + length cids

  abbrev pub cid_glyphs : ℕ
  cid_glyphs = cid_select + length select

  abbrev pub cid_dicts : ℕ
  cid_dicts = cid_glyphs + length cid_charstrings

  abbrev pub cid_privates : ℕ
  cid_privates = cid_dicts + length (dicts 0)

  abbrev pub cid_end : ℕ
  cid_end = cid_privates + length privates

  abbrev pub cid_top : List ℕ
  cid_top = top_by_cid p cid_own cid_charset cid_select cid_glyphs cid_dicts

  abbrev behind : List ℕ
  behind = cid_globals ++ (cids ++ (select ++ (cid_charstrings ++ (dicts cid_privates ++ privates))))

  -- the front, and part behind part
  pub cid-parts : subset_by_cid p name used order b ≡ front_bytes cid_end name cid_top cid_own ++ behind
  unfolding subset_by_cid
  cid-parts =
      ap (λ (l : List ℕ). 1 ∷ 0 ∷ 4 ∷ size_for cid_end ∷ l)
      (sym (append_assoc (index_bytes (name ∷ [])) (index_bytes (cid_top ∷ []) ++ index_bytes cid_own) behind
      ∙ ap (λ (l : List ℕ). index_bytes (name ∷ []) ++ l) (append_assoc (index_bytes (cid_top ∷ [])) (index_bytes cid_own) behind)))

  -- so long in all, the FD INDEX being as long wherever the Privates stand
  pub cid_length : length (dicts cid_privates) ≡ length (dicts 0) → length (subset_by_cid p name used order b) ≡ cid_end
  cid_length same =
      let front : length (front_bytes cid_end name cid_top cid_own) ≡ front_len name (top_by_cid p cid_own 0 0 0 0) cid_own
      = front_length name cid_top cid_own cid_end
      ∙ ap (λ (k : ℕ). 4 + length (index_bytes (name ∷ [])) + k + length (index_bytes cid_own))
      (single-length cid_top (top_by_cid p cid_own 0 0 0 0) (cid_top-length p cid_own cid_charset cid_select cid_glyphs cid_dicts)) in
      let last = dicts cid_privates ++ privates in
      ap length cid-parts
      ∙ after_one (front_bytes cid_end name cid_top cid_own) behind _ _ front
      (after_one cid_globals (cids ++ (select ++ (cid_charstrings ++ last))) _ _ refl
      (after_one cids (select ++ (cid_charstrings ++ last)) _ _ refl
      (after_one select (cid_charstrings ++ last) _ _ refl
      (after_one cid_charstrings last _ _ refl (after_one (dicts cid_privates) privates _ _ same refl)))))
      ∙ sums_six (front_len name (top_by_cid p cid_own 0 0 0 0) cid_own) (length cid_globals) (length cids) (length select) (length cid_charstrings) (length (dicts 0)) (length privates)
