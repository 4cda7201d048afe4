-- Laws of one body, by the cases in which the code takes it: the way, and whether a subroutine is reached.
use Rattle.std.specs.Prelude.{ℕ, ◌+◌, ◌*◌, ◌≤◌, ◌<◌, ◌≡◌, Bool, true, false, not, List, [], ◌∷◌, length, get_or, None, Option, Some}
use Rattle.std.proofs.Common.{sym, ap, ◌∙◌, subst, arith, lt-ltb}
use Rattle.octets.specs.Pick.{pick}
use Rattle.octets.specs.Octets.{Octets, bytes_of}
use Rattle.octets.specs.declared.out.Out.{Out}
use Rattle.octets.specs.Out.{Writes}
use Rattle.octets.specs.OutLaws.{writes_as}
use Rattle.bits.specs.Bits.{bit_in}
use Rattle.index.specs.Index.{items_of}
use Rattle.index.specs.IndexLaws.{item-short}
use Rattle.index.specs.declared.Index.{Index}
use Rattle.unfold.specs.Unfold.{Row, Site}
use Rattle.prune.specs.Renumber.{Calls}
use Rattle.subset.specs.Pruned.{renumbered_body}
use Rattle.record.specs.Record.{rows_of}
use Rattle.unfold.specs.Sites.{site_of}
use Rattle.unfold.specs.declared.Site as code
use Rattle.renumber.specs.Ranks.{calls_by, Ranked}
use Rattle.renumber.specs.OperandLaws.{calls-read}
use Rattle.renumber.specs.Turn.{Inputs, sized_of, body_of_lem, is_yes}
use Rattle.renumber.specs.Bodies.{calls_of, Reads}
use Rattle.renumber.specs.declared.Ranks.{Ranks}
use Rattle.renumber.specs.declared.body.Body.{Body}
use Rattle.bodies.specs.Ways.{holds, new_body, body_by, by_way, subr_by, reached_in, is_kept, is_stub, kept_count, site_in, SubrsIn}
use Rattle.bodies.specs.Sizes.{AtMost, len_at}
use Rattle.bodies.specs.SizesLaws.{renumbered-short}
use Rattle.bodies.specs.SubrsLaws.{new-body_is}
use Rattle.reach.specs.declared.Subrs.{Subrs}
use Rattle.subset.specs.Way.{is_renumbered, is_stubbed}
use Rattle.subset.specs.declared.Way.{Way}

-- ---- a body by the way

holds_yes : (m : Option (List ℕ)) → holds m ≡ true → is_yes m ≡ true
holds_yes None e = e
holds_yes (Some bs) e = e

module _ (way : Way) (rows : List Row) (calls : Calls) (site : Site) (s : List ℕ) where
  by-renumbered : is_renumbered way ≡ true → renumbered_body rows calls site s ≡ body_by way rows calls site s
  by-renumbered e = ap (λ (b : Bool). pick b (renumbered_body rows calls site s) (Some s)) (sym e)

  by-copied : is_renumbered way ≡ false → Some s ≡ body_by way rows calls site s
  by-copied e = ap (λ (b : Bool). pick b (renumbered_body rows calls site s) (Some s)) (sym e)

  pub new-renumbered : is_renumbered way ≡ true → body_of_lem (renumbered_body rows calls site s) ≡ new_body way rows calls site s
  new-renumbered e = ap body_of_lem (by-renumbered e) ∙ sym (new-body_is way rows calls site s)

  pub new-copied : is_renumbered way ≡ false → s ≡ new_body way rows calls site s
  new-copied e = ap body_of_lem (by-copied e) ∙ sym (new-body_is way rows calls site s)

  pub copied_len : is_renumbered way ≡ false → (Some (length s) ≡ sized_of (body_by way rows calls site s)) × (length s ≤ 5 * length s)
  copied_len e = (ap sized_of (by-copied e), omega arith)

  pub renumbered-room : is_renumbered way ≡ true → (at n : ℕ) → holds (body_by way rows calls site s) ≡ true → at + length (new_body way rows calls site s) ≤ n
      → (is_yes (renumbered_body rows calls site s) ≡ true) × (at + length (body_of_lem (renumbered_body rows calls site s)) ≤ n)
  renumbered-room e at n h k = (
    holds_yes (renumbered_body rows calls site s) (ap holds (by-renumbered e) ∙ h),
    subst (λ (l : List ℕ). at + length l ≤ n) (sym (new-renumbered e)) k,
  )

  pub copied-room : is_renumbered way ≡ false → (at n : ℕ) → at + length (new_body way rows calls site s) ≤ n → at + length s ≤ n
  copied-room e at n k = subst (λ (l : List ℕ). at + length l ≤ n) (sym (new-copied e)) k

pub renumbered_len : (way : Way) (rows : List Row) (ws : List ℕ) (locals globals : Ranks) (site : Site) (s : List ℕ) → Octets s → Ranked ws locals → Ranked ws globals → is_renumbered way ≡ true
    → (r : Option ℕ) → r ≡ sized_of (renumbered_body rows (calls_by ws locals globals) site s)
    → (r ≡ sized_of (body_by way rows (calls_by ws locals globals) site s)) × AtMost (5 * length s) r
renumbered_len way rows ws locals globals site s b l g e r h = (
  h ∙ ap sized_of (by-renumbered way rows (calls_by ws locals globals) site s e),
  subst (AtMost (5 * length s)) (sym h) (renumbered-short (calls_by ws locals globals) (calls-read ws locals globals l g) s b rows site),
)

-- a body by what it was put together from
module _ (way : Way) {b : Body} {s ws : List ℕ} {locals globals : Ranks} {rows : List ℕ} {rising : Bool} {site : code.Site} (r : Reads b s ws locals globals rows rising site) where
  pub by_way-reads : by_way way b ≡ body_by way (rows_of rows) (calls_by ws locals globals) (site_of site) s
  by_way-reads =
      ap (λ (x : List ℕ). body_by way (rows_of x) (calls_of b) (site_of b.site) b.code.now) r.rows_are
      ∙ ap (λ (x : code.Site). body_by way (rows_of rows) (calls_of b) (site_of x) b.code.now) r.site_is
      ∙ ap (λ (x : List ℕ). body_by way (rows_of rows) (calls_by x b.locals b.globals) (site_of site) b.code.now) r.words_are
      ∙ ap (λ (q : Ranks). body_by way (rows_of rows) (calls_by ws q b.globals) (site_of site) b.code.now) r.locals_are
      ∙ ap (λ (q : Ranks). body_by way (rows_of rows) (calls_by ws locals q) (site_of site) b.code.now) r.globals_are
      ∙ ap (body_by way (rows_of rows) (calls_by ws locals globals) (site_of site)) r.code_is

-- ---- whether a subroutine is reached, written, or a return

pub bit-reached : (ws : List ℕ) (own : Ranks) (k : ℕ) → k < own.count → (t : Bool) → t ≡ bit_in ws own.at k → t ≡ reached_in ws own k
bit-reached ws own k h t e = e ∙ sym (rw (lt-ltb k own.count h))

module _ (way : Way) (set : ℕ → Bool) (k : ℕ) where
  pub kept-reached : is_renumbered way ≡ true → (t : Bool) → t ≡ set k → t ≡ is_kept way set k
  kept-reached e t h = h ∙ ap (λ (b : Bool). pick b (set k) true) (sym e)

  pub kept_any : is_renumbered way ≡ false → true ≡ is_kept way set k
  kept_any e = ap (λ (b : Bool). pick b (set k) true) (sym e)

  pub stub_unreached : is_stubbed way ≡ true → (t : Bool) → t ≡ set k → not t ≡ is_stub way set k
  stub_unreached e t h = ap not h ∙ ap (λ (b : Bool). pick b (not (set k)) false) (sym e)

  pub stub_none : is_stubbed way ≡ false → false ≡ is_stub way set k
  stub_none e = ap (λ (b : Bool). pick b (not (set k)) false) (sym e)

pub count-reached : (way : Way) (reached count : ℕ) → is_renumbered way ≡ true → reached ≡ kept_count way reached count
count-reached way reached count e = ap (λ (b : Bool). pick b reached count) (sym e)

pub count-any : (way : Way) (reached count : ℕ) → is_renumbered way ≡ false → count ≡ kept_count way reached count
count-any way reached count e = ap (λ (b : Bool). pick b reached count) (sym e)

-- ---- an item

-- what renumbering an item asks, by ranks of those that it calls
pub item_inputs : {b ws : List ℕ} {ix : Index} {own locals globals l g : Ranks} {rows : List Row} {rising : Bool} {of : Subrs}
    → SubrsIn b ws ix own locals globals rows rising of → Ranked ws l → Ranked ws g → (k : ℕ) → k < ix.count → (s : List ℕ) → s ≡ get_or (items_of b ix) k [] → Inputs s ws l g
item_inputs {b} {ws} {ix} w p q k h s e =
    record { local_ranks = p; global_ranks = q; size = let n = ap length e in omega (arith, item-short b ix w.good k h, w.size) }

-- ---- a subroutine

module _ (way : Way) (rows : List Row) (set : ℕ → Bool) (calls : Calls) (of : Subrs) (subrs : List (List ℕ)) (k : ℕ) where
  stub_is : is_stub way set k ≡ true → Some (11 ∷ []) ≡ subr_by way rows set calls (site_in of) subrs k
  stub_is e = ap (λ (b : Bool). pick b (Some (11 ∷ [])) (body_by way rows calls (site_in of k) (get_or subrs k []))) (sym e)

  pub stub_len : is_stub way set k ≡ true → (Some 1 ≡ sized_of (subr_by way rows set calls (site_in of) subrs k)) × (1 ≤ 335544320)
  stub_len e = (ap sized_of (stub_is e), omega arith)

  pub stub_room : is_stub way set k ≡ true → (at n : ℕ) → at + length (body_of_lem (subr_by way rows set calls (site_in of) subrs k)) ≤ n → at + 1 ≤ n
  stub_room e at n h = subst (λ (m : Option (List ℕ)). at + length (body_of_lem m) ≤ n) (sym (stub_is e)) h

  pub stub_writes : is_stub way set k ≡ true → {old new : Out} → Writes old (bytes_of 1 11) new
      → Writes old (body_of_lem (subr_by way rows set calls (site_in of) subrs k)) new
  unfolding bytes_of
  stub_writes e w = writes_as w (ap body_of_lem (stub_is e))

  module _ (site : Site) (s : List ℕ) (f : site ≡ site_in of k) (g : s ≡ get_or subrs k []) (e : is_stub way set k ≡ false) where
    pub body_is : body_by way rows calls site s ≡ subr_by way rows set calls (site_in of) subrs k
    body_is =
        ap (λ (x : Site). body_by way rows calls x s) f ∙ ap (λ (x : List ℕ). body_by way rows calls (site_in of k) x) g
        ∙ ap (λ (b : Bool). pick b (Some (11 ∷ [])) (body_by way rows calls (site_in of k) (get_or subrs k []))) (sym e)

-- how long number k is, by whether it passes
pub len_kept : (test : ℕ → Bool) (f : ℕ → Option (List ℕ)) (k n : ℕ) → test k ≡ true → (r : Option ℕ) → (r ≡ sized_of (f k)) × AtMost n r → (r ≡ len_at test f k) × AtMost n r
len_kept test f k n e r h = (h.0 ∙ ap (λ (b : Bool). pick b (sized_of (f k)) (Some 0)) (sym e), h.1)

pub len_left : (test : ℕ → Bool) (f : ℕ → Option (List ℕ)) (k n : ℕ) → test k ≡ false → (Some 0 ≡ len_at test f k) × (0 ≤ n)
len_left test f k n e = (ap (λ (b : Bool). pick b (sized_of (f k)) (Some 0)) (sym e), omega arith)
