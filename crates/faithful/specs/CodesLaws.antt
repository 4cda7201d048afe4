-- The codes of a subset (document 02, Wish 4): the encoding that is written gives, when it is read, each code whose glyph is kept the glyph of the same
-- name, and no other code any. By the strings of the two predefined encodings, and by the pairs, whose codes rise.
use Prim.Native.Nat.{ℕ, zero, suc, ◌+◌, ◌≤◌, ◌<◌}
use Rattle.std.specs.Prelude.{◌≡◌, Bool, eqb, length, get_or, None, Option, Some}
use Rattle.std.proofs.Math.Path.{refl, ap}
use Rattle.std.proofs.Common.{sym, ◌∙◌, arith}
use Rattle.std.proofs.Math.Bool.{true, false}
use mathlib.Core.List.{List, [], ◌∷◌, ◌++◌}
use borrow.Author.Tests.{eqb-true, eqb-false, eq-eqb, ne_eqb}
use Rattle.octets.specs.Pick.{pick, pick_ind}
use Rattle.octets.specs.Lists.{all_below}
use Rattle.octets.specs.ListLaws.{below_at}
use Rattle.prune.specs.StepLaws.{zero_one}
use Rattle.strings.specs.Strings.{string_text}
use Rattle.strings.proofs.StringsLaws.{string_standard}
use Rattle.charset.specs.Codes.{Naming}
use Rattle.charset.specs.CodesRound.{supplied, Small, small-none, small-more}
use Rattle.charset.specs.Predefined.{standard_encoding, expert_encoding}
use Rattle.charset.specs.PredefinedLaws.{standard_long, expert_long}
use Rattle.find.specs.Find.{glyph_with_text}
use Rattle.dict.specs.Lookup.{cid_keyed}
use Rattle.cff.specs.Font.{Coding, standard, expert, custom, Program}
use Rattle.subset.specs.Kept.{is_in, kept_of}
use Rattle.subset.specs.KeptListLaws.{in_at}
use Rattle.subset.specs.Texts.{new_id, name_of, names_of}
use Rattle.subset.specs.Subset.{own_by_name, new_ids}
use Rattle.subset.specs.Codes.{string_glyph, or_else, last_named, glyph_of, Pair, pair_of, pairs_from, Coded, none, predefined, pairs, coded_by_lem, Meant, nothing, named, meant, kept_meant}
use Rattle.subset.specs.Cut.{all_found_lem}
use Rattle.faithful.specs.TopFitLaws.{new-below}
use Rattle.faithful.specs.FoundLaws.{new-names, new-name-at, text-found, kept_there, there_kept}

-- ---- what is written says

-- what the pairs say
abbrev pub said_by : List Pair → List Naming
said_by ps = supplied (λ q. q.code) (λ q. q.id) ps

-- the encoding that is read back
abbrev pub coding_of : Coded → Coding
coding_of none = standard
coding_of predefined = expert
coding_of (pairs ps) = custom (said_by ps)

-- ids of two bytes
abbrev pub SmallIds : Coded → Type 0
SmallIds none = Unit
SmallIds predefined = Unit
SmallIds (pairs ps) = Small (λ q. q.id) ps

-- ---- the new ids are small

module _ (p : Program) (kept : List ℕ) (own : List (List ℕ)) (few : length own ≤ 64609) where
  -- of a pair in front of others
  pair_small : (code : ℕ) (f : Option ℕ) (ps : List Pair) → Small (λ q. q.id) ps → Small (λ q. q.id) (pair_of p kept own code f ++ ps)
  pair_small code None ps s = s
  pair_small code (Some g) ps s =
      pick_ind (λ (l : List Pair). Small (λ q. q.id) (l ++ ps)) (is_in g kept) (record { code = code; id = new_id own (name_of p g) } ∷ []) []
      (λ t. small-more (new-below own (name_of p g) few) s) (λ t. s)

  -- of all
  pairs_small : (ns : List Naming) (n code : ℕ) → Small (λ q. q.id) (pairs_from p ns kept own n code)
  unfolding pairs_from
  pairs_small ns zero code = small-none
  pairs_small ns (suc n) code = pair_small code (last_named p code None ns) (pairs_from p ns kept own n (code + 1)) (pairs_small ns n (code + 1))

  -- so that the encoding of a subset reads back
  pub coded-by-small : (c : Coding) → SmallIds (coded_by_lem p kept own c)
  unfolding coded_by_lem
  coded-by-small standard = tt
  coded-by-small expert = tt
  coded-by-small (custom ns) = pairs_small ns 256 0

-- ---- the codes of the pairs rise

-- the glyph of a pair in the subset
abbrev pair_glyph : Program → List ℕ → List (List ℕ) → Program → Option ℕ → Option ℕ
pair_glyph p kept own q None = None
pair_glyph p kept own q (Some g) = pick (is_in g kept) (string_glyph q (new_id own (name_of p g))) None

-- by the two ways of a test
by-test : {A : Type 0} (t : Bool) → (t ≡ true → A) → (t ≡ false → A) → A
by-test true f g = f refl
by-test false f g = g refl

-- a code below another one
above : (c code : ℕ) → c ≤ code → (c ≡ code → ⊥) → c + 1 ≤ code
above c code h f = omega (arith, f)

module _ (p : Program) (ns : List Naming) (kept : List ℕ) (own : List (List ℕ)) (q : Program) (code : ℕ) where
  -- a pair of another code is passed over
  pair-past : (c : ℕ) → eqb c code ≡ false → (f x : Option ℕ) (ps : List Pair)
      → last_named q code x (said_by (pair_of p kept own c f ++ ps)) ≡ last_named q code x (said_by ps)
  unfolding last_named supplied
  pair-past c e None x ps = refl
  pair-past c e (Some g) x ps =
      let id = new_id own (name_of p g) in
      pick_ind (λ (l : List Pair). last_named q code x (said_by (l ++ ps)) ≡ last_named q code x (said_by ps)) (is_in g kept) (record { code = c; id = id } ∷ []) []
      (λ t. ap (λ (s : Bool). last_named q code (pick s (or_else (string_glyph q id) x) x) (said_by ps)) e)
      (λ t. refl)

  -- all of those behind it
  pairs-past : (n c : ℕ) → code < c → (x : Option ℕ) → last_named q code x (said_by (pairs_from p ns kept own n c)) ≡ x
  unfolding pairs_from last_named supplied
  pairs-past zero c h x = refl
  pairs-past (suc n) c h x =
      pair-past c (ne_eqb c code (λ e. omega arith)) (last_named p c None ns) x (pairs_from p ns kept own n (c + 1))
      ∙ pairs-past n (c + 1) (omega arith) x

  -- no glyph before it
  or_none : (f : Option ℕ) → or_else f None ≡ f
  or_none None = refl
  or_none (Some g) = refl

  -- the code's own, in front of those behind it
  own-kept : (t : Bool) (id : ℕ) (ps : List Pair) → ((x : Option ℕ) → last_named q code x (said_by ps) ≡ x)
      → last_named q code None (said_by (pick t (record { code = code; id = id } ∷ []) [] ++ ps)) ≡ pick t (string_glyph q id) None
  unfolding last_named supplied
  own-kept true id ps past =
      ap (λ (s : Bool). last_named q code (pick s (or_else (string_glyph q id) None) None) (said_by ps)) (eq-eqb code code refl)
      ∙ past (or_else (string_glyph q id) None) ∙ or_none (string_glyph q id)
  own-kept false id ps past = past None

  pair-here : (f : Option ℕ) (ps : List Pair) → ((x : Option ℕ) → last_named q code x (said_by ps) ≡ x)
      → last_named q code None (said_by (pair_of p kept own code f ++ ps)) ≡ pair_glyph p kept own q f
  pair-here None ps past = past None
  pair-here (Some g) ps past = own-kept (is_in g kept) (new_id own (name_of p g)) ps past

  -- so that a code has what its pair names
  pairs-named : (n c : ℕ) → c ≤ code → code < c + n
      → last_named q code None (said_by (pairs_from p ns kept own n c)) ≡ pair_glyph p kept own q (last_named p code None ns)
  unfolding pairs_from
  pairs-named zero c h l = absurd (zero_one (omega arith))
  pairs-named (suc n) c h l =
      by-test (eqb c code)
      (λ e. let same : c ≡ code = eqb-true c code e in
      ap (λ (k : ℕ). last_named q code None (said_by (pair_of p kept own k (last_named p k None ns) ++ pairs_from p ns kept own n (c + 1)))) same
      ∙ pair-here (last_named p code None ns) (pairs_from p ns kept own n (c + 1)) (pairs-past n (c + 1) (omega arith)))
      (λ e. let other : c ≡ code → ⊥ = eqb-false c code e in
      pair-past c e (last_named p c None ns) None (pairs_from p ns kept own n (c + 1)) ∙ pairs-named n (c + 1) (above c code h other) (omega arith))

-- ---- any text

-- the ids of the predefined encodings are standard ones, whose strings every font has
standard-ids : all_below 391 standard_encoding ≡ true
unfolding all_below standard_encoding
standard-ids = refl

expert_ids : all_below 391 expert_encoding ≡ true
unfolding all_below expert_encoding
expert_ids = refl

module _ (p : Program) (n : ℕ) (keep : List ℕ) (keyed : cid_keyed p.top ≡ false) (all : all_found_lem p (kept_of n keep) ≡ true) where
  abbrev kept : List ℕ
  kept = kept_of n keep

  abbrev own : List (List ℕ)
  own = own_by_name p kept

  abbrev ids : List ℕ
  ids = new_ids own (names_of p kept)

  -- a kept glyph, by its name
  kept-named : (g : ℕ) → is_in g kept ≡ true → kept_meant p kept (Some g) ≡ named (name_of p g)
  kept-named g h = ap (λ (t : Bool). pick t (named (name_of p g)) nothing) h

  module _ (q : Program) (strings : q.strings ≡ own) (glyphs : q.ids ≡ ids) where
    -- finding in the subset
    found-new : (t : List ℕ) → glyph_with_text q.strings t 0 q.ids ≡ glyph_with_text own t 0 ids
    found-new t = ap (λ (l : List (List ℕ)). glyph_with_text l t 0 q.ids) strings ∙ ap (glyph_with_text own t 0) glyphs

    name_new : (i : ℕ) → i < length kept → name_of q i ≡ name_of p (get_or kept i 0)
    name_new i h =
        ap (λ (l : List (List ℕ)). string_text l (get_or q.ids i 0)) strings ∙ ap (λ (l : List ℕ). string_text own (get_or l i 0)) glyphs
        ∙ new-name-at p n keep keyed all i h

    -- both ways of finding a text
    both_found : (t : List ℕ) (x y : Option ℕ) → glyph_with_text own t 0 ids ≡ x → glyph_with_text p.strings t 0 p.ids ≡ y → meant q x ≡ kept_meant p kept y
    both_found t None None e f = refl
    both_found t None (Some g) e f =
        pick_ind (λ (m : Meant). nothing ≡ m) (is_in g kept) (named (name_of p g)) nothing
        (λ h. let there = kept_there p n keep keyed all t g f h in
        let z : None ≡ Some there.0 = sym e ∙ there.1 in absurd (zero_one cc))
        (λ h. refl)
    both_found t (Some i) y e f =
        let there = there_kept p n keep keyed all t i e in
        let g = get_or kept i 0 in
        ap named (name_new i there.0) ∙ sym (kept-named g (in_at kept i there.0)) ∙ ap (kept_meant p kept) (sym there.1 ∙ f)

    -- a text whose glyph is kept gives a glyph of the same name, and no other text any
    text-meant : (t : List ℕ) → meant q (glyph_with_text q.strings t 0 q.ids) ≡ kept_meant p kept (glyph_with_text p.strings t 0 p.ids)
    text-meant t = ap (meant q) (found-new t) ∙ both_found t _ _ refl refl

    -- ---- the three encodings

    -- by a standard id
    sid_meant : (sid : ℕ) → sid < 391 → meant q (string_glyph q sid) ≡ kept_meant p kept (string_glyph p sid)
    sid_meant sid h =
        let same : string_text q.strings sid ≡ string_text p.strings sid = string_standard q.strings sid h ∙ sym (string_standard p.strings sid h) in
        ap (λ (t : List ℕ). meant q (glyph_with_text q.strings t 0 q.ids)) same ∙ text-meant (string_text p.strings sid)

    -- by a pair
    pair-meant : (f : Option ℕ) → meant q (pair_glyph p kept own q f) ≡ kept_meant p kept f
    pair-meant None = refl
    pair-meant (Some g) = by-kept (is_in g kept) refl
      where
        by-kept : (t : Bool) → is_in g kept ≡ t → meant q (pick t (string_glyph q (new_id own (name_of p g))) None) ≡ pick t (named (name_of p g)) nothing
        by-kept true h =
            let name : string_text q.strings (new_id own (name_of p g)) ≡ name_of p g =
            ap (λ (l : List (List ℕ)). string_text l (new_id own (name_of p g))) strings ∙ new-names p n keep keyed all g h in
            ap (λ (t : List ℕ). meant q (glyph_with_text q.strings t 0 q.ids)) name ∙ text-meant (name_of p g)
            ∙ ap (kept_meant p kept) (text-found p n keep keyed all g h) ∙ kept-named g h
        by-kept false h = refl

    -- by the encoding that is read
    coding_meant : (c : Coding) (code : ℕ) → code < 256 → meant q (glyph_of q (coding_of (coded_by_lem p kept own c)) code) ≡ kept_meant p kept (glyph_of p c code)
    unfolding glyph_of coded_by_lem
    coding_meant standard code h = sid_meant (get_or standard_encoding code 0) (below_at 391 standard_encoding standard-ids code (omega (arith, standard_long)))
    coding_meant expert code h = sid_meant (get_or expert_encoding code 0) (below_at 391 expert_encoding expert_ids code (omega (arith, expert_long)))
    coding_meant (custom ns) code h =
        ap (meant q) (pairs-named p ns kept own q code 256 0 (omega arith) (omega arith)) ∙ pair-meant (last_named p code None ns)

    pub codes-meant : q.coding ≡ coding_of (coded_by_lem p kept own p.coding) → (code : ℕ) → code < 256
        → meant q (glyph_of q q.coding code) ≡ kept_meant p kept (glyph_of p p.coding code)
    codes-meant e code h = ap (λ (c : Coding). meant q (glyph_of q c code)) e ∙ coding_meant p.coding code h
