-- What the definition of short charstrings says of tokens: the unfolding of one is its tokens, the last of them endchar, and no other is.
use Rattle.std.specs.Prelude.{ℕ, zero, suc, ◌+◌, ◌-◌, ◌/◌, ◌≡◌, Bool, true, false, List, [], ◌∷◌, ◌++◌, ltb, eqb, ℤ, length, take, drop, get_or, None, Option, Some}
use Rattle.std.proofs.Math.Path.{refl}
use Rattle.std.proofs.Common.{sym, ap, ◌∙◌, subst, arith, le-ltb}
use Rattle.octets.specs.Pick.{pick, pick_ind}
use Rattle.octets.specs.Steps.{and}
use Rattle.octets.specs.StepsLaws.{and_ind}
use Rattle.octets.specs.PickLaws.{both_hold, other_holds}
use Rattle.octets.specs.Lists.{all_below}
use Rattle.type2_number.specs.Number.{Read, cut, operator, number as a_number, number_at}
use Rattle.charstring.specs.Bias.{bias_of, numbered}
use Rattle.charstring.specs.Token.{is_mask}
use Rattle.unfold.specs.Unfold.{Tok, num, op, esc, mask, Row, Site, glyph, State, Run, broken, returned, ended, target_of, leave, is_stem, is_path, meeting, masked, call_to, stem_at, mask_at, escape_at, operator_at, step_at, walk, run_body, plain, glyph_of, fresh, unfold_glyph}
use Rattle.short_charstrings.specs.Short.{alone, is_plain, ends, is_short}
use Rattle.short_charstrings.specs.NextLaws.{never}

abbrev pub is_end : Tok → Bool
is_end (num z) = false
is_end (op b) = eqb b 14
is_end (esc e) = false
is_end (mask b bs) = false

-- whether endchar is among tokens
unfoldable pub has_end : List Tok → Bool
has_end [] = false
has_end (t ∷ ts) = pick (is_end t) true (has_end ts)

-- endchar is the last of them, and no other is
abbrev pub OneEnd : List Tok → Type 0
OneEnd out = (ts : List Tok) × (out ≡ ts ++ (op 14 ∷ [])) × (has_end ts ≡ false)

-- ---- a run with no subroutines

one_more : (ts : List Tok) (t : Tok) → has_end ts ≡ false → is_end t ≡ false → has_end (ts ++ (t ∷ [])) ≡ false
unfolding has_end
one_more [] t h e = rw e
one_more (u ∷ us) t h e = by (is_end u) h (λ d. one_more us t d e)
  where
    by : (b : Bool) → pick b true (has_end us) ≡ false → (has_end us ≡ false → has_end (us ++ (t ∷ [])) ≡ false) → pick b true (has_end (us ++ (t ∷ []))) ≡ false
    by true d on = d
    by false d on = on d

no_target : (l : Option ℤ) → target_of 0 l ≡ None
unfolding target_of
no_target l = and_ind (λ (o : Option ℕ). o ≡ None) (and l (numbered (bias_of 0))) _ refl (λ i. rw (le-ltb i 0 (omega arith)))

-- how it may end: with one endchar left
abbrev Fine : Run → Type 0
Fine broken = Unit
Fine (returned st) = Unit
Fine (ended st) = OneEnd st.out

abbrev On : Type 0
On = ℕ → Option ℤ → State → Run

left : (t : Tok) (args stems : ℕ) (st : State) (go : State → Run) → ((y : State) → y.out ≡ st.out ++ (t ∷ []) → Fine (go y)) → Fine (leave t args stems st go)
unfolding leave
left t args stems st go h = pick_ind Fine (ltb st.spent 65536) _ broken (λ e. h _ refl) (λ e. tt)

module _ (enter : Site → List ℕ → State → Run) (s : List ℕ) (on : On) (ons : (n : ℕ) (l : Option ℤ) (x : State) → has_end x.out ≡ false → Fine (on n l x))
    (at : ℕ) (l : Option ℤ) (st : State) (h : has_end st.out ≡ false) where
  goes : (t : Tok) (args stems n : ℕ) (m : Option ℤ) (x : State) → x.out ≡ st.out → is_end t ≡ false → Fine (leave t args stems x (on n m))
  goes t args stems n m x q e =
      left t args stems x (on n m) (λ y f. ons n m y (ap has_end (f ∙ ap (λ (o : List Tok). o ++ (t ∷ [])) q) ∙ one_more st.out t h e))

  calls : (which : ℕ → Site) → Fine (call_to enter on which [] (at + 1) st (target_of 0 l))
  calls which = subst (λ (q : Option ℕ). Fine (call_to enter on which [] (at + 1) st q)) (sym (no_target l)) tt

  escapes : Fine (escape_at on s at st)
  escapes =
      let e = get_or s (at + 1) 0 in
      pick_ind Fine (ltb (length s - at) 2) broken _ (λ a. tt)
      (λ a. pick_ind Fine (ltb e 34) broken _ (λ b. tt) (λ b. pick_ind Fine (ltb 37 e) broken _ (λ c. tt) (λ c. goes (esc e) 0 st.stems (at + 2) None st refl refl)))

  masks : (b n : ℕ) → Fine (mask_at on (glyph 0) s b at n st)
  masks b n =
      pick_ind Fine (ltb 96 n) broken _ (λ a. tt)
      (λ a. pick_ind Fine (ltb (length s - (at + 1)) ((n + 7) / 8)) broken _ (λ c. tt)
      (λ c. goes (mask b (take ((n + 7) / 8) (drop (at + 1) s))) 0 n (at + 1 + (n + 7) / 8) None (meeting (masked (glyph 0) at ((n + 7) / 8)) st) refl refl))

  stems_of : (b n : ℕ) → eqb b 14 ≡ false → Fine (stem_at on b at n st)
  stems_of b n e = pick_ind Fine (ltb 96 n) broken _ (λ a. tt) (λ a. goes (op b) 0 n (at + 1) None st refl e)

  ends_so : Fine (pick (ltb 1 st.args) broken (leave (op 14) 0 st.stems st ended))
  ends_so = pick_ind Fine (ltb 1 st.args) broken _ (λ a. tt) (λ a. left (op 14) 0 st.stems st ended (λ y e. (st.out, e, h)))

  operators : (b : ℕ) → Fine (operator_at [] [] 0 enter on (glyph 0) s at l st b)
  unfolding operator_at
  operators b =
      pick_ind Fine (eqb b 10) _ _ (λ a. calls (Site.local 0))
      (λ a. pick_ind Fine (eqb b 29) _ _ (λ c. calls Site.global)
      (λ c. pick_ind Fine (eqb b 11) _ _ (λ d. tt)
      (λ d. pick_ind Fine (eqb b 14) _ _ (λ e. ends_so)
      (λ e. pick_ind Fine (eqb b 12) _ _ (λ f. escapes)
      (λ f. pick_ind Fine (is_mask b) _ _ (λ g. masks b (st.stems + st.args / 2))
      (λ g. pick_ind Fine (is_stem b) _ _ (λ i. stems_of b (st.stems + st.args / 2) e)
      (λ i. pick_ind Fine (is_path b) _ broken (λ j. goes (op b) 0 st.stems (at + 1) None st refl e) (λ j. tt))))))))

  steps : (r : Read) → Fine (step_at [] [] 0 enter on (glyph 0) s at l st r)
  unfolding step_at
  steps cut = tt
  steps (a_number z n) = pick_ind Fine (ltb st.args 48) _ broken (λ a. goes (num z) (st.args + 1) st.stems n (Some z) st refl refl) (λ a. tt)
  steps operator = operators (get_or s at 0)

walks : (enter : Site → List ℕ → State → Run) (k : ℕ) (s : List ℕ) (at : ℕ) (l : Option ℤ) (st : State) → has_end st.out ≡ false
    → Fine (walk [] [] 0 enter k (glyph 0) s at l st)
unfolding walk
walks enter zero s at l st h = tt
walks enter (suc k) s at l st h =
    pick_ind Fine (ltb at (length s)) _ broken
    (λ e. steps enter s (λ n m x. walk [] [] 0 enter k (glyph 0) s n m x) (λ n m x i. walks enter k s n m x i) at l st h (number_at s at)) (λ e. tt)

-- ---- THE LAW: where an endchar runs, it is the last token, and the only one that is endchar

abbrev pub EndsOnce : List ℕ → Type 0
EndsOnce s = (out : List Tok) × (rows : List Row) × (alone s ≡ plain out rows) × OneEnd out

ended_once : (s : List ℕ) (r : Run) → alone s ≡ glyph_of r → Fine r → is_plain (glyph_of r) ≡ true → EndsOnce s
ended_once s broken e f p = absurd (never (sym p))
ended_once s (returned st) e f p = absurd (never (sym p))
ended_once s (ended st) e f p = (st.out, st.met, e, f)

pub ends-tokens : (s : List ℕ) → ends s ≡ true → EndsOnce s
unfolding ends unfold_glyph run_body has_end
ends-tokens [] e = absurd (never (sym e))
ends-tokens (b ∷ bs) e =
    ended_once (b ∷ bs) (run_body [] [] 0 10 (glyph 0) (b ∷ bs) fresh) refl (walks (run_body [] [] 0 9) (length (b ∷ bs)) (b ∷ bs) 0 None fresh refl)
    (sym (rw (le-ltb (length (b ∷ bs)) 1 (omega arith))) ∙ e)

pub short-tokens : (s : List ℕ) → is_short s ≡ true → EndsOnce s
unfolding is_short
short-tokens s e =
    let a = (both_hold (all_below 256 s) _ e).1 in
    let b = (other_holds (ltb (length s) 1) _ a).1 in
    let c = (other_holds (ltb 4 (length s)) _ b).1 in
    let d = (both_hold (eqb (get_or s (length s - 1) 0) 14) _ c).1 in
    ends-tokens s (both_hold (ends s) _ d).0
