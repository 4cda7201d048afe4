-- A list of tokens that is renumbered, by its first token: what the renumbered list begins with, and what becomes of the rest.
use Rattle.std.specs.Prelude.{ℕ, ◌≡◌, refl, true, false, List, ◌∷◌, ℤ, None, Option, Some}
use Rattle.std.proofs.Common.{ap, ◌∙◌}
use Rattle.charstring.specs.Token.{Tok, num, op, esc, mask, tokens_of}
use Rattle.charstring.specs.Encode.{encode}
use Rattle.charstring.specs.declared.MaskLen.{MaskLen}
use Rattle.prune.specs.Renumber.{Calls, is_call, before, called, kept, renumber, renumber_charstring}
use Rattle.prune.specs.RenumberSteps.{written_back, renumbered_tokens}
use Rattle.prune.specs.StepLaws.{zero_one}

-- the tokens with the number that waited before them
abbrev pub kept_before : Option ℤ → List Tok → List Tok
kept_before None ts = ts
kept_before (Some z) ts = num z ∷ ts

before_done : (t : Tok) (r : Option (List Tok)) (us : List Tok) → before t r ≡ Some us → (vs : List Tok) × (r ≡ Some vs) × (us ≡ t ∷ vs)
before_done t None us e = absurd (zero_one cc)
before_done t (Some vs) us e = (vs, refl, cc)

kept_done : (w : Option ℤ) (r : Option (List Tok)) (us : List Tok) → kept w r ≡ Some us → (vs : List Tok) × (r ≡ Some vs) × (us ≡ kept_before w vs)
kept_done None r us e = (us, e, refl)
kept_done (Some z) r us e = before_done (num z) r us e

called_done : (b : ℕ) (o : Option ℤ) (r : Option (List Tok)) (us : List Tok) → called b o r ≡ Some us
    → (y : ℤ) × (vs : List Tok) × (o ≡ Some y) × (r ≡ Some vs) × (us ≡ num y ∷ op b ∷ vs)
called_done b None r us e = absurd (zero_one cc)
called_done b (Some y) r us e =
    let p = before_done (num y) (before (op b) r) us e in
    let q = before_done (op b) r p.0 p.1 in
    (y, q.0, refl, q.1, p.2 ∙ ap (λ (l : List Tok). num y ∷ l) q.2)

module _ (calls : Calls) (w : Option ℤ) (ts us : List Tok) where
  pub renumber-num : (z : ℤ) → renumber calls w (num z ∷ ts) ≡ Some us → (vs : List Tok) × (renumber calls (Some z) ts ≡ Some vs) × (us ≡ kept_before w vs)
  unfolding renumber
  renumber-num z e = kept_done w (renumber calls (Some z) ts) us e

  -- a token that is no number and no call
  kept-token : (t : Tok) → kept w (before t (renumber calls None ts)) ≡ Some us → (vs : List Tok) × (renumber calls None ts ≡ Some vs) × (us ≡ kept_before w (t ∷ vs))
  kept-token t e =
      let p = kept_done w (before t (renumber calls None ts)) us e in
      let q = before_done t (renumber calls None ts) p.0 p.1 in
      (q.0, q.1, p.2 ∙ ap (kept_before w) q.2)

  pub renumber_op : (b : ℕ) → is_call b ≡ false → renumber calls w (op b ∷ ts) ≡ Some us
      → (vs : List Tok) × (renumber calls None ts ≡ Some vs) × (us ≡ kept_before w (op b ∷ vs))
  unfolding renumber
  renumber_op b n e = kept-token (op b) (rw n at e)

  pub renumber-esc : (b : ℕ) → renumber calls w (esc b ∷ ts) ≡ Some us → (vs : List Tok) × (renumber calls None ts ≡ Some vs) × (us ≡ kept_before w (esc b ∷ vs))
  unfolding renumber
  renumber-esc b e = kept-token (esc b) e

  pub renumber-mask : (bs : List ℕ) → renumber calls w (mask bs ∷ ts) ≡ Some us
      → (vs : List Tok) × (renumber calls None ts ≡ Some vs) × (us ≡ kept_before w (mask bs ∷ vs))
  unfolding renumber
  renumber-mask bs e = kept-token (mask bs) e

pub renumber_call : (calls : Calls) (z : ℤ) (b : ℕ) (ts us : List Tok) → is_call b ≡ true → renumber calls (Some z) (op b ∷ ts) ≡ Some us
    → (y : ℤ) × (vs : List Tok) × (calls b z ≡ Some y) × (renumber calls None ts ≡ Some vs) × (us ≡ num y ∷ op b ∷ vs)
unfolding renumber
renumber_call calls z b ts us c e = called_done b (calls b z) (renumber calls None ts) us (rw c at e)

-- a body that is renumbered: its tokens, what they become, and their bytes
pub record Whole (calls : Calls) (given : ℕ → MaskLen) (s s' : List ℕ) : Type 0 where
  pub old : List Tok
  pub new : List Tok
  pub reads : tokens_of given s ≡ Some old
  pub turns : renumber calls None old ≡ Some new
  pub writes : s' ≡ encode new

whole_done : (calls : Calls) (given : ℕ → MaskLen) (s s' : List ℕ) (ts : List Tok) → tokens_of given s ≡ Some ts
    → (r : Option (List Tok)) → renumber calls None ts ≡ r → written_back r ≡ Some s' → Whole calls given s s'
whole_done calls given s s' ts f None g h = absurd (zero_one cc)
whole_done calls given s s' ts f (Some us) g h = record { old = ts; new = us; reads = f; turns = g; writes = cc }

whole-tokens : (calls : Calls) (given : ℕ → MaskLen) (s s' : List ℕ) (x : Option (List Tok)) → tokens_of given s ≡ x → renumbered_tokens calls x ≡ Some s' → Whole calls given s s'
whole-tokens calls given s s' None f h = absurd (zero_one cc)
whole-tokens calls given s s' (Some ts) f h = whole_done calls given s s' ts f (renumber calls None ts) refl h

pub renumbered-whole : (calls : Calls) (given : ℕ → MaskLen) (s s' : List ℕ) → renumber_charstring calls given s ≡ Some s' → Whole calls given s s'
unfolding renumber_charstring
renumbered-whole calls given s s' e = whole-tokens calls given s s' (tokens_of given s) refl e
