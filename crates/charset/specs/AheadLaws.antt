-- Laws of a pass over the glyphs: it begins with the ids of all, and each step gives the first that is left.
use Rattle.std.specs.Prelude.{ℕ, zero, suc, ◌+◌, ◌-◌, ◌≤◌, ◌<◌, ◌≡◌, refl, List, [], ◌∷◌, length, take, drop, get_or, Ok}
use Rattle.std.proofs.Common.{sym, ap, ◌∙◌, subst, not-suc-le-zero, arith, add-one, sub-one, drop-cons, length-drop}
use borrow.Author.Tests.{le-ltb}
use Rattle.octets.specs.Octets.{num_at}
use Rattle.charset.specs.Listed.{onward, numbers_of}
use Rattle.charset.specs.Charset.{ids_from}
use Rattle.charset.specs.CharsetPlaces.{ids_of, GoodCharset, charset_start, next_id, StandsId, ReadyId}
use Rattle.charset.specs.CharsetLaws.{range-met}
use Rattle.charset.specs.IdCursorLaws.{id_on, id_met, ready, step_id, step-next}
use Rattle.charset.specs.CharsetFound.{ids-length}
use Rattle.charset.specs.Ahead.{ids_ahead, Ahead, Passed}
use Rattle.charset.specs.declared.Charset.{Charset}
use Rattle.charset.specs.declared.CharsetCursor.{CharsetCursor}
use Rattle.charset.specs.declared.IdStep.{IdStep}

-- ---- before glyph 0

module _ (b : List ℕ) (c : Charset) (n : ℕ) where
  pub ahead_all : ids_ahead b (charset_start c) n ≡ ids_of b c n
  unfolding ids_ahead ids_of
  ahead_all = refl

  pub ahead-start : GoodCharset b c n → Ahead b (charset_start c) n
  ahead-start g = record { narrow = g.narrow; sound = g.sound ∙ ap Ok (sym ahead_all) }

-- ---- of the first glyphs alone

ids-front : (w k m i left : ℕ) (bs l : List ℕ) → ids_from w k i left bs ≡ Ok l → m ≤ k → ids_from w m i left bs ≡ Ok (take m l)
unfolding ids_from
ids-front w k zero i left bs l h f = refl
ids-front w zero (suc m) i left bs l h f = absurd (not-suc-le-zero f)
ids-front w (suc k) (suc m) i (suc left) bs l h f =
    let o = id_on w k i left bs l h in
    let r = ids-front w k m (i + 1) left bs (drop 1 l) o.2 (omega arith) in
    let n : i ≤ 65535 = omega (arith, o.0) in
    simp (le-ltb 65535 i n) (ap (onward i) r ∙ ap Ok (sym (ap (take (suc m)) o.1)))
ids-front w (suc k) (suc m) i zero bs l h f =
    let o = id_met bs 0 w k i l h in
    let r = ids-front w k m (num_at bs 0 2 + 1) (num_at bs (0 + 2) w) (drop (0 + 2 + w) bs) (drop 1 l) o.2 (omega arith) in
    let s = rw sub-one at (range-met bs 0 w (suc m) i (omega arith) o.0) in
    s ∙ ap (onward (num_at bs 0 2)) r ∙ ap Ok (sym (ap (take (suc m)) o.1))

module _ (b : List ℕ) (c : Charset) (n m : ℕ) (g : GoodCharset b c n) (few : m ≤ n) where
  front : ids_from c.width m 0 c.own (drop c.at b) ≡ Ok (take m (ids_of b c n))
  front = ids-front c.width n m 0 c.own (drop c.at b) (ids_of b c n) g.sound few

  pub front-ids : ids_of b c m ≡ take m (ids_of b c n)
  unfolding ids_of
  front-ids = ap numbers_of front

  pub front-good : GoodCharset b c m
  front-good = record { narrow = g.narrow; few = omega (arith, g.few); sound = front ∙ ap Ok (sym front-ids) }

-- ---- from any cursor

pub ahead_length : (b : List ℕ) (u : CharsetCursor) (n : ℕ) → Ahead b u n → length (ids_ahead b u n) ≡ n
ahead_length b u n a = ids-length u.width n u.id u.left (drop u.at b) (ids_ahead b u n) a.sound

pub ahead_none : (b : List ℕ) (u : CharsetCursor) (n : ℕ) → n ≡ 0 → ids_ahead b u n ≡ []
unfolding ids_ahead ids_from
ahead_none b u n e = rw e refl

stands : (b : List ℕ) (u : CharsetCursor) (n : ℕ) → Ahead b u n → StandsId b u (ids_ahead b u n)
stands b u n a =
    record {
      narrow = a.narrow;
      gives = subst (λ (k : ℕ). ids_from u.width k u.id u.left (drop u.at b) ≡ Ok (ids_ahead b u n)) (sym (ahead_length b u n a)) a.sound;
    }

split : (l : List ℕ) (n : ℕ) → length l ≡ suc n → (x : ℕ) × (t : List ℕ) × (l ≡ x ∷ t) × (length t ≡ n)
split [] n e = absurd (omega arith)
split (x ∷ t) n e = let k : length t ≡ n = omega arith in (x, t, refl, k)

-- what is left behind a cursor that stands before a list
listed : (b : List ℕ) (u : CharsetCursor) (t : List ℕ) (n : ℕ) → StandsId b u t → length t ≡ n → Ahead b u n × (ids_ahead b u n ≡ t)
unfolding ids_ahead
listed b u t n s e =
    let g : ids_from u.width n u.id u.left (drop u.at b) ≡ Ok t = subst (λ (k : ℕ). ids_from u.width k u.id u.left (drop u.at b) ≡ Ok t) e s.gives in
    let is : numbers_of (ids_from u.width n u.id u.left (drop u.at b)) ≡ t = ap numbers_of g in
    (record { narrow = s.narrow; sound = g ∙ ap Ok (sym is) }, is)

taken : (b : List ℕ) (u : CharsetCursor) (n : ℕ) → Ahead b u (suc n)
    → ReadyId b u × Ahead b (next_id b u).next n × (ids_ahead b u (suc n) ≡ (next_id b u).id ∷ ids_ahead b (next_id b u).next n)
taken b u n a =
    let p = split (ids_ahead b u (suc n)) n (ahead_length b u (suc n) a) in
    let s = subst (StandsId b u) p.2 (stands b u (suc n) a) in
    let r = listed b (next_id b u).next p.1 n (step-next b u p.0 p.1 s) p.3 in
    (ready b u p.0 p.1 s, r.0, p.2 ∙ ap (λ (x : ℕ). x ∷ p.1) (sym (step_id b u p.0 p.1 s)) ∙ ap (λ (t : List ℕ). (next_id b u).id ∷ t) (sym r.1))

module _ (b : List ℕ) (u : CharsetCursor) (n : ℕ) (a : Ahead b u n) (h : 0 < n) where
  more : n ≡ suc (n - 1)
  more = omega arith

  pub ahead_ready : ReadyId b u
  ahead_ready = (taken b u (n - 1) (subst (Ahead b u) more a)).0

  module _ (s : IdStep) (e : s ≡ next_id b u) where
    pub ahead-next : Ahead b s.next (n - 1)
    ahead-next = subst (λ (x : IdStep). Ahead b x.next (n - 1)) (sym e) (taken b u (n - 1) (subst (Ahead b u) more a)).1

    pub ahead-more : ids_ahead b u n ≡ s.id ∷ ids_ahead b s.next (n - 1)
    ahead-more =
        ap (ids_ahead b u) more ∙ (taken b u (n - 1) (subst (Ahead b u) more a)).2
        ∙ ap (λ (x : IdStep). x.id ∷ ids_ahead b x.next (n - 1)) (sym e)

-- ---- glyph after glyph

pub passed-start : (ids left : List ℕ) → left ≡ ids → Passed ids left 0
passed-start ids left e = record { within = omega arith; rest = e }

pub passed_all : (ids left : List ℕ) (g : ℕ) → Passed ids left g → left ≡ [] → length ids ≤ g
passed_all ids left g p e = let l = ap length (sym e ∙ p.rest) ∙ length-drop g ids in omega (arith, l)

module _ (ids left : List ℕ) (g : ℕ) (p : Passed ids left g) (x : ℕ) (t : List ℕ) (more : left ≡ x ∷ t) where
  pub passed_inside : g < length ids
  passed_inside = let l = ap length (sym more ∙ p.rest) ∙ length-drop g ids in omega (arith, l)

  is : x ∷ t ≡ get_or ids g 0 ∷ drop (g + 1) ids
  is = sym more ∙ p.rest ∙ drop-cons ids g 0 passed_inside ∙ ap (λ (k : ℕ). get_or ids g 0 ∷ drop k ids) (sym (add-one g))

  pub passed_id : x ≡ get_or ids g 0
  passed_id = let e = is in cc

  pub passed-next : Passed ids t (g + 1)
  passed-next = let e = is in record { within = omega (arith, passed_inside); rest = cc }
