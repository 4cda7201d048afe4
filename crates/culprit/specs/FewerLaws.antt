-- A body whose renumbering fails under some rows fails under fewer of them that have the same masks of it (the Rust's renumber_charstring): its tokens are
-- the same, and a call of a subroutine that is not reached fails where fewer are reached.
use Prim.Native.Nat.{ℕ, zero, suc, ◌-◌, ◌*◌}
use Rattle.std.specs.Prelude.{◌≡◌, Bool, ◌&&◌, not, eqb, ℤ, None, Option, Some}
use Rattle.std.proofs.Math.Path.{refl, ap}
use Rattle.std.proofs.Common.{take, drop, sym, ◌∙◌, subst, eqb-true, eq-eqb}
use Rattle.std.proofs.Math.Bool.{true, false}
use mathlib.Core.List.{List, [], ◌∷◌}
use Rattle.std.proofs.Math.ListN.{length}
use Rattle.std.proofs.lemmas.Bool.{eqb-false}
use Rattle.octets.specs.Pick.{pick}
use Rattle.octets.specs.PickLaws.{not_true}
use Rattle.strings.proofs.TableLaws.{and_left, and_right}
use Rattle.charstring.specs.Token.{Tok, num, op, esc, mask, Lexeme, lost, got_num, got_op, got_esc, got_mask, join, onward, more, token_at, tokens_from, start, tokens_of}
use Rattle.charstring.specs.declared.Cursor.{Cursor}
use Rattle.charstring.specs.declared.MaskLen.{MaskLen}
use Rattle.charstring.specs.declared.MaskLen.TheVariants.{Own, Given}
use Rattle.unfold.specs.Unfold.{Row, Site, glyph, local, global, entered, masked}
use Rattle.prune.specs.StepLaws.{zero_one}
use Rattle.prune.specs.Renumber.{Calls, is_call, before, called, kept, called_after, renumber, renumber_charstring}
use Rattle.prune.specs.RenumberSteps.{new_of, operand_for, written_back, renumbered_tokens}
use Rattle.record.specs.Record.{lists, at_place, given_in, of_body, disagrees, two_lengths_lem}
use Rattle.cff.specs.Font.{Program}
use Rattle.bits.specs.Bits.{count_below}
use Rattle.charstring.specs.Bias.{bias_of, numbered}
use Rattle.subset.specs.Kept.{locals_of}
use Rattle.subset.specs.Pruned.{rank, reached, local_set, global_set, renumbered_body, local_operand, global_operand, calls_in}
use Rattle.faithful.specs.RecordLaws.{row_is, given-listed}
use Rattle.traced.specs.Has.{Has, here, there}
use Rattle.traced.specs.HasLaws.{has_listed, listed_has}

-- ---- the same lengths, the same tokens

module _ (given given' : ℕ → MaskLen) (same : (o : ℕ) → given o ≡ given' o) (s : List ℕ) where
  onward-same : (q : Lexeme) (f g : Cursor → Option (List Tok)) → ((c : Cursor) → f c ≡ g c) → onward s q f ≡ onward s q g
  onward-same lost f g e = refl
  onward-same (got_num z c) f g e = ap (join (num z ∷ [])) (e c)
  onward-same (got_op b c) f g e = ap (join (op b ∷ [])) (e c)
  onward-same (got_esc b c) f g e = ap (join (esc b ∷ [])) (e c)
  onward-same (got_mask at n c) f g e = ap (join (mask (take n (drop at s)) ∷ [])) (e c)

  from-same : (k : ℕ) (c : Cursor) → tokens_from k given s c ≡ tokens_from k given' s c
  unfolding tokens_from
  from-same zero c = refl
  from-same (suc k) c =
      ap (λ (l : MaskLen). pick (more s c) (onward s (token_at s l c) (tokens_from k given s)) (Some [])) (same (c.at - 1))
      ∙ ap (λ (b : Option (List Tok)). pick (more s c) b (Some [])) (onward-same (token_at s (given' (c.at - 1)) c) (tokens_from k given s) (tokens_from k given' s) (from-same k))

  pub tokens-same : tokens_of given s ≡ tokens_of given' s
  unfolding tokens_of
  tokens-same = from-same (2 * length s) start

-- ---- calls that fail

-- each call that fails by the first fails by the second
abbrev pub Fails : Calls → Calls → Type 0
Fails calls calls' = (b : ℕ) (z : ℤ) → calls b z ≡ None → calls' b z ≡ None

before_failed : (t : Tok) (r : Option (List Tok)) → before t r ≡ None → r ≡ None
before_failed t None e = refl
before_failed t (Some ts) e = absurd (zero_one cc)

before-fails : (t : Tok) (r : Option (List Tok)) → r ≡ None → before t r ≡ None
before-fails t r e = ap (before t) e

kept_failed : (w : Option ℤ) (r : Option (List Tok)) → kept w r ≡ None → r ≡ None
kept_failed None r e = e
kept_failed (Some z) r e = before_failed (num z) r e

kept-fails : (w : Option ℤ) (r : Option (List Tok)) → r ≡ None → kept w r ≡ None
kept-fails None r e = e
kept-fails (Some z) r e = before-fails (num z) r e

module _ (calls calls' : Calls) (stay : Fails calls calls') where
  called_more : (b : ℕ) (z : ℤ) (r r' : Option (List Tok)) → (r ≡ None → r' ≡ None) → (x y : Option ℤ) → calls b z ≡ x → calls' b z ≡ y → called b x r ≡ None → called b y r' ≡ None
  called_more b z r r' f x None i j e = refl
  called_more b z r r' f None (Some v) i j e = absurd (zero_one (let k : Some v ≡ None = sym j ∙ stay b z i in cc))
  called_more b z r r' f (Some u) (Some v) i j e =
      before-fails (num v) _ (before-fails (op b) r' (f (before_failed (op b) r (before_failed (num u) _ e))))

  after_more : (b : ℕ) (w : Option ℤ) (r r' : Option (List Tok)) → (r ≡ None → r' ≡ None) → called_after calls b w r ≡ None → called_after calls' b w r' ≡ None
  after_more b None r r' f e = refl
  after_more b (Some z) r r' f e = called_more b z r r' f (calls b z) (calls' b z) refl refl e

  op_more : (t : Bool) (b : ℕ) (w : Option ℤ) (r r' : Option (List Tok)) → (r ≡ None → r' ≡ None)
      → pick t (called_after calls b w r) (kept w (before (op b) r)) ≡ None → pick t (called_after calls' b w r') (kept w (before (op b) r')) ≡ None
  op_more true b w r r' f e = after_more b w r r' f e
  op_more false b w r r' f e = kept-fails w _ (before-fails (op b) r' (f (before_failed (op b) r (kept_failed w _ e))))

  renumber-fails : (w : Option ℤ) (ts : List Tok) → renumber calls w ts ≡ None → renumber calls' w ts ≡ None
  unfolding renumber
  renumber-fails None [] e = absurd (zero_one cc)
  renumber-fails (Some z) [] e = absurd (zero_one cc)
  renumber-fails w (num z ∷ ts) e = kept-fails w _ (renumber-fails (Some z) ts (kept_failed w _ e))
  renumber-fails w (op b ∷ ts) e = op_more (is_call b) b w _ _ (renumber-fails None ts) e
  renumber-fails w (esc b ∷ ts) e = kept-fails w _ (before-fails (esc b) _ (renumber-fails None ts (before_failed (esc b) _ (kept_failed w _ e))))
  renumber-fails w (mask bs ∷ ts) e = kept-fails w _ (before-fails (mask bs) _ (renumber-fails None ts (before_failed (mask bs) _ (kept_failed w _ e))))

  written_failed : (r : Option (List Tok)) → written_back r ≡ None → r ≡ None
  written_failed None e = refl
  written_failed (Some ts) e = absurd (zero_one cc)

  body-fails : (x : Option (List Tok)) → renumbered_tokens calls x ≡ None → renumbered_tokens calls' x ≡ None
  body-fails None e = refl
  body-fails (Some ts) e = ap written_back (renumber-fails None ts (written_failed _ e))

-- ---- fewer rows

-- the operand of a call of a subroutine that is not reached, or of none
operand_fails : (set set' : ℕ → Bool) → ((k : ℕ) → set k ≡ false → set' k ≡ false) → (bias n n' : ℕ) (x : Option ℕ)
    → operand_for n (new_of (rank set) x) ≡ None → operand_for n' (new_of (rank set') x) ≡ None
operand_fails set set' less bias n n' None e = refl
operand_fails set set' less bias n n' (Some i) e = by (set i) refl e
  where
    by : (t : Bool) → set i ≡ t → operand_for n (pick t (Some (count_below set i)) None) ≡ None → operand_for n' (rank set' i) ≡ None
    by true q f = absurd (zero_one cc)
    by false q f = ap (λ (t : Bool). operand_for n' (pick t (Some (count_below set' i)) None)) (less i q)

module _ (rows rows' : List Row) (fewer : (q : Row) → Has Row q rows' → Has Row q rows) where
  lists_fewer : (q : Row) → lists rows q ≡ false → lists rows' q ≡ false
  lists_fewer q e = not_true (lists rows' q) (λ h. zero_one (let f : true ≡ false = sym (has_listed q rows (fewer q (listed_has q rows' h))) ∙ e in cc))

  -- the calls of a glyph or a local subroutine
  pub calls_fewer : (p : Program) (f : ℕ) → Fails (calls_in p rows f) (calls_in p rows' f)
  calls_fewer p f b z = by (eqb b 10)
    where
      by : (t : Bool) → pick t (local_operand p rows f z) (global_operand p rows z) ≡ None → pick t (local_operand p rows' f z) (global_operand p rows' z) ≡ None
      by true e =
          operand_fails (local_set rows f) (local_set rows' f) (λ k. lists_fewer (entered (local f k))) 0 _ (bias_of (reached (local_set rows' f)))
          (numbered (bias_of (length (locals_of p f))) z) e
      by false e =
          operand_fails (global_set rows) (global_set rows') (λ k. lists_fewer (entered (global k))) 0 _ (bias_of (reached (global_set rows')))
          (numbered (bias_of (length p.globals)) z) e

-- ---- the masks of a body

-- a row with another length
abbrev relen : Row → ℕ → Row
relen r l = record { kind = r.kind; fd = r.fd; number = r.number; offset = r.offset; len = l }

relen-masked : (site : Site) (o l m : ℕ) → relen (masked site o l) m ≡ masked site o m
relen-masked (glyph g) o l m = refl
relen-masked (local f k) o l m = refl
relen-masked (global k) o l m = refl

-- rows at one place differ in their lengths alone
place_is : (r q : Row) → at_place r q ≡ true → (r ≡ relen q r.len) × (q ≡ relen r q.len)
place_is r q h =
    let a = eqb r.kind q.kind in
    let b = eqb r.fd q.fd in
    let c = eqb r.number q.number in
    let d = eqb r.offset q.offset in
    let h₃ = and_left (a && b && c) d h in
    let h₂ = and_left (a && b) c h₃ in
    let i = eqb-true r.kind q.kind (and_left a b h₂) in
    let j = eqb-true r.fd q.fd (and_right a b h₂) in
    let k = eqb-true r.number q.number (and_right (a && b) c h₃) in
    let l = eqb-true r.offset q.offset (and_right (a && b && c) d h) in
    (row_is r (relen q r.len) i j k l refl, row_is q (relen r q.len) (sym i) (sym j) (sym k) (sym l) refl)

-- a row at a mask's place is a mask's
place-row : (r : Row) (site : Site) (o : ℕ) → at_place r (masked site o 0) ≡ true → r ≡ masked site o r.len
place-row r site o e = (place_is r (masked site o 0) e).0 ∙ relen-masked site o 0 r.len

-- a length that is given is that of a row
given-from : (rows : List Row) (site : Site) (o l : ℕ) → given_in rows site o ≡ Given l → Has Row (masked site o l) rows
unfolding given_in
given-from [] site o l e = absurd (zero_one cc)
given-from (r ∷ rows) site o l e = by (at_place r (masked site o 0)) refl e (given-from rows site o l)
  where
    by : (t : Bool) → at_place r (masked site o 0) ≡ t → pick t (Given r.len) (given_in rows site o) ≡ Given l → (given_in rows site o ≡ Given l → Has Row (masked site o l) rows) → Has Row (masked site o l) (r ∷ rows)
    by true q h f = let n : r.len ≡ l = cc in here (place-row r site o q ∙ ap (masked site o) n)
    by false q h f = there (f h)

-- a row that is of a body is of a mask there
body-row : (r : Row) (site : Site) → of_body r site ≡ true → at_place r (masked site r.offset 0) ≡ true
body-row r (glyph g) e = rw (e, eq-eqb r.offset r.offset refl)
body-row r (local f k) e = rw (e, eq-eqb r.offset r.offset refl)
body-row r (global k) e = rw (e, eq-eqb r.offset r.offset refl)

-- a row with which another disagrees
disagrees-from : (r : Row) (rows : List Row) → disagrees r rows ≡ true → (q : Row) × Has Row q rows × (at_place r q ≡ true) × (r.len ≡ q.len → ⊥)
unfolding disagrees
disagrees-from r [] e = absurd (zero_one cc)
disagrees-from r (q ∷ rows) e = by (at_place r q && not (eqb r.len q.len)) refl e (disagrees-from r rows)
  where
    other : (t : Bool) → not t ≡ true → t ≡ false
    other true h = absurd (zero_one cc)
    other false h = refl

    by : (t : Bool) → (at_place r q && not (eqb r.len q.len)) ≡ t → pick t true (disagrees r rows) ≡ true
        → (disagrees r rows ≡ true → (q : Row) × Has Row q rows × (at_place r q ≡ true) × (r.len ≡ q.len → ⊥)) → (x : Row) × Has Row x (q ∷ rows) × (at_place r x ≡ true) × (r.len ≡ x.len → ⊥)
    by true a h f =
        (q, here refl, and_left (at_place r q) (not (eqb r.len q.len)) a, eqb-false r.len q.len (other (eqb r.len q.len) (and_right (at_place r q) (not (eqb r.len q.len)) a)))
    by false a h f = let x = f h in (x.0, there x.1, x.2, x.3)

-- two lengths at one offset
record Two (rows : List Row) (site : Site) : Type 0 where
  offset : ℕ
  one : ℕ
  other : ℕ
  has_one : Has Row (masked site offset one) rows
  has_other : Has Row (masked site offset other) rows
  differ : one ≡ other → ⊥

two_from : (rows : List Row) (site : Site) → two_lengths_lem rows site ≡ true → Two rows site
unfolding two_lengths_lem
two_from [] site e = absurd (zero_one cc)
two_from (r ∷ rows) site e = by (of_body r site && disagrees r rows) refl e (two_from rows site)
  where
    beside : (q : Row) → r ≡ masked site r.offset r.len → at_place r q ≡ true → q ≡ masked site r.offset q.len
    beside q i h = (place_is r q h).1 ∙ ap (λ (x : Row). relen x q.len) i ∙ relen-masked site r.offset r.len q.len

    by : (t : Bool) → (of_body r site && disagrees r rows) ≡ t → pick t true (two_lengths_lem rows site) ≡ true → (two_lengths_lem rows site ≡ true → Two rows site) → Two (r ∷ rows) site
    by true a h f =
        let d = disagrees-from r rows (and_right (of_body r site) (disagrees r rows) a) in
        let i : r ≡ masked site r.offset r.len = place-row r site r.offset (body-row r site (and_left (of_body r site) (disagrees r rows) a)) in
        record {
          offset = r.offset;
          one = r.len;
          other = d.0.len;
          has_one = here i;
          has_other = there (subst (λ (x : Row). Has Row x rows) (beside d.0 i d.2) d.1);
          differ = d.3;
        }
    by false a h f = let x = f h in record { offset = x.offset; one = x.one; other = x.other; has_one = there x.has_one; has_other = there x.has_other; differ = x.differ }

-- ---- the law

-- the masks of a body are the same in some rows and in fewer of them
pub record Fewer (rows rows' : List Row) (site : Site) : Type 0 where
  pub fewer : (q : Row) → Has Row q rows' → Has Row q rows
  pub same : (o l : ℕ) → Has Row (masked site o l) rows → Has Row (masked site o l) rows'

module _ (rows rows' : List Row) (site : Site) (few : Fewer rows rows' site) where
  -- two lengths stay
  two_stay : two_lengths_lem rows site ≡ true → two_lengths_lem rows' site ≡ false → ⊥
  two_stay e n =
      let t = two_from rows site e in
      let a = given-listed rows' site t.offset t.one n (has_listed _ rows' (few.same t.offset t.one t.has_one)) in
      let b = given-listed rows' site t.offset t.other n (has_listed _ rows' (few.same t.offset t.other t.has_other)) in
      t.differ (let c : Given t.one ≡ Given t.other = sym a ∙ b in cc)

  -- without them the same lengths are given
  given-same : two_lengths_lem rows site ≡ false → two_lengths_lem rows' site ≡ false → (o : ℕ) → given_in rows site o ≡ given_in rows' site o
  given-same n n' o = by (given_in rows site o) refl (given_in rows' site o) refl
    where
      by : (x : MaskLen) → given_in rows site o ≡ x → (y : MaskLen) → given_in rows' site o ≡ y → x ≡ y
      by (Given l) a y b = sym (given-listed rows' site o l n' (has_listed _ rows' (few.same o l (given-from rows site o l a)))) ∙ b
      by Own a Own b = refl
      by Own a (Given l) b = sym a ∙ given-listed rows site o l n (has_listed _ rows (few.fewer _ (given-from rows' site o l b)))

  -- a body whose renumbering fails
  pub body_fewer : (calls calls' : Calls) → Fails calls calls' → (s : List ℕ) → renumbered_body rows calls site s ≡ None → renumbered_body rows' calls' site s ≡ None
  unfolding renumbered_body renumber_charstring
  body_fewer calls calls' stay s e = by (two_lengths_lem rows site) refl (two_lengths_lem rows' site) refl e
    where
      by : (t : Bool) → two_lengths_lem rows site ≡ t → (u : Bool) → two_lengths_lem rows' site ≡ u → pick t None (renumbered_tokens calls (tokens_of (given_in rows site) s)) ≡ None
          → pick u None (renumbered_tokens calls' (tokens_of (given_in rows' site) s)) ≡ None
      by t a true b h = refl
      by true a false b h = absurd (two_stay a b)
      by false a false b h =
          (body-fails calls calls' stay (tokens_of (given_in rows' site) s)
          (ap (renumbered_tokens calls) (sym (tokens-same (given_in rows site) (given_in rows' site) (given-same a b) s)) ∙ h))
