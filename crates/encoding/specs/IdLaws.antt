-- Laws of new ids: a number above all glyphs with a code, the places of a glyph's codes filled, and what they hold once all kept glyphs came by.
use Rattle.std.specs.Prelude.{ℕ, ◌+◌, ◌≤◌, ◌<◌, ◌≡◌, refl, Bool, true, false, eqb, length, take, drop, get_or, set, replicate, None, Option, Some}
use Rattle.std.proofs.Math.Path.{sym, ap}
use Rattle.std.proofs.Common.{◌∙◌, arith, eq-eqb, ne_eqb, eqb-true, length-set, drop_of_length-le, get_or-set_same, get_or-set_other, get_or-take}
use Rattle.std.proofs.Math.ListN.{get_or-append}
use mathlib.Core.List.{List, [], ◌∷◌, ◌++◌}
use Rattle.std.proofs.lemmas.Bool.{eqb-false}
use Rattle.std.proofs.lemmas.List.{get_or-replicate}
use Rattle.octets.specs.Pick.{pick, pick_ind}
use Rattle.cff.specs.Font.{Program}
use Rattle.subset.specs.Kept.{is_in}
use Rattle.subset.specs.Texts.{name_of, new_id}
use Rattle.kept.specs.MarkLaws.{ahead}
use Rattle.encoding.specs.Encoded.{has_glyph, Past, Puts, held_after, Renames}

-- ---- above all glyphs with a code

pub past_none : (named : List (Option ℕ)) (past : ℕ) → Past named 0 past
past_none named past = record { each = λ c g h e. absurd (omega arith) }

module _ (named : List (Option ℕ)) (code past : ℕ) (l : Past named code past) where
  pub past_next : (held : Option ℕ) → held ≡ get_or named code None → (r : ℕ) → past ≤ r → ((g : ℕ) → held ≡ Some g → g < r) → Past named (code + 1) r
  past_next held is r more low = record { each = λ c g h e. go c g h e (eqb c code) refl }
    where
      go : (c g : ℕ) → c < code + 1 → get_or named c None ≡ Some g → (t : Bool) → eqb c code ≡ t → g < r
      go c g h e true t = low g (is ∙ ap (λ (x : ℕ). get_or named x None) (sym (eqb-true c code t)) ∙ e)
      go c g h e false t = let d = eqb-false c code t in let b : g < past = l.each c g (omega arith) e in omega arith

-- ---- those of a glyph's codes filled

-- those below a code are done, and the others are as they were
pub record Putting (named old : List (Option ℕ)) (glyph id code : ℕ) (new : List (Option ℕ)) : Type 0 where
  pub size : length new ≡ length old
  pub done : (c : ℕ) → c < code → get_or new c None ≡ pick (has_glyph (get_or named c None) glyph) (Some id) (get_or old c None)
  pub left : (c : ℕ) → code ≤ c → get_or new c None ≡ get_or old c None

pub putting_start : (named old : List (Option ℕ)) (glyph id : ℕ) → Putting named old glyph id 0 old
putting_start named old glyph id = record { size = refl; done = λ c h. absurd (omega arith); left = λ c h. refl }

module _ (named old : List (Option ℕ)) (glyph id code : ℕ) (new : List (Option ℕ)) (m : Putting named old glyph id code new) where
  module _ (h : code < length old) (held : Option ℕ) (is : held ≡ pick (has_glyph (get_or named code None) glyph) (Some id) (get_or new code None)) where
    held_is : held ≡ pick (has_glyph (get_or named code None) glyph) (Some id) (get_or old code None)
    held_is = is ∙ ap (pick (has_glyph (get_or named code None) glyph) (Some id)) (m.left code (omega arith))

    done_each : (c : ℕ) → c < code + 1 → (t : Bool) → eqb c code ≡ t
        → get_or (set new code held) c None ≡ pick (has_glyph (get_or named c None) glyph) (Some id) (get_or old c None)
    done_each c l true t =
        let s = eqb-true c code t in
        ap (λ (x : ℕ). get_or (set new code held) x None) s ∙ get_or-set_same new code held None (omega (arith, m.size)) ∙ held_is
        ∙ ap (λ (x : ℕ). pick (has_glyph (get_or named x None) glyph) (Some id) (get_or old x None)) (sym s)
    done_each c l false t = let d = eqb-false c code t in get_or-set_other new code c held None d ∙ m.done c (omega arith)

    pub putting_next : Putting named old glyph id (code + 1) (set new code held)
    putting_next =
        record {
          size = length-set new code held ∙ m.size;
          done = λ c l. done_each c l (eqb c code) refl;
          left = λ c l. get_or-set_other new code c held None (λ e. let z : ⊥ = omega (arith, e) in z) ∙ m.left c (omega arith);
        }

  pub putting_done : 256 ≤ code → Puts named old glyph id new
  putting_done h = record { each = λ c l. m.done c (omega arith) }

-- a glyph that is not below such a number is no code's
pub puts_none : (named table : List (Option ℕ)) (past glyph id : ℕ) → Past named 256 past → past ≤ glyph → Puts named table glyph id table
puts_none named table past glyph id high h = record { each = λ c l. none c (get_or named c None) (λ g e. high.each c g l e) }
  where
    none : (c : ℕ) (o : Option ℕ) → ((g : ℕ) → o ≡ Some g → g < past) → get_or table c None ≡ pick (has_glyph o glyph) (Some id) (get_or table c None)
    none c None f = refl
    none c (Some x) f =
        let b = f x refl in
        sym (ap (λ (t : Bool). pick t (Some id) (get_or table c None)) (ne_eqb x glyph (λ e. let z : ⊥ = omega (arith, e) in z)))

-- ---- numbers above all that a table holds

pub past_empty : (past : ℕ) → Past (replicate 256 None) 256 past
past_empty past = record { each = λ c x h e. let n : None ≡ Some x = sym (get_or-replicate {A = Option ℕ} 256 c None None h) ∙ e in let z : ◌≡◌ {A = ℕ} 0 1 = cc in absurd (omega arith) }

pub past_puts : (named old new : List (Option ℕ)) (glyph id past : ℕ) → Puts named old glyph id new → id < past → Past old 256 past → Past new 256 past
past_puts named old new glyph id past w less l =
    record {
      each = λ c x h e.
          pick_ind (λ (o : Option ℕ). o ≡ Some x → x < past) (has_glyph (get_or named c None) glyph) (Some id) (get_or old c None)
          (λ t d. let k : id ≡ x = cc in omega (arith, less))
          (λ t d. l.each c x h d)
          (sym (w.each c h) ∙ e);
    }

-- in front of more
pub past_front : (first rest : List (Option ℕ)) (past : ℕ) → length first ≡ 256 → Past first 256 past → Past (first ++ rest) 256 past
past_front first rest past n l = record { each = λ c x h e. l.each c x h (sym (get_or-append first rest None c (omega (arith, n))) ∙ e) }

pub past_first : (table first : List (Option ℕ)) (past : ℕ) → first ≡ take 256 table → Past table 256 past → Past first 256 past
past_first table first past is l =
    record { each = λ c x h e. l.each c x h (sym (ap (λ (t : List (Option ℕ)). get_or t c None) is ∙ get_or-take 256 table c None h) ∙ e) }

-- ---- all glyphs, one after the other

module _ (p : Program) (own : List (List ℕ)) (gs : List ℕ) (named : List (Option ℕ)) where
  -- those from place i on still come by
  pub record Renaming (table : List (Option ℕ)) (i : ℕ) : Type 0 where
    pub each : (c : ℕ) → c < 256 → held_after p own (drop i gs) (get_or named c None) (get_or table c None) ≡ held_after p own gs (get_or named c None) None

  pub renaming_start : Renaming (replicate 256 None) 0
  renaming_start = record { each = λ c h. ap (held_after p own gs (get_or named c None)) (get_or-replicate {A = Option ℕ} 256 c None None h) }

  module _ (table : List (Option ℕ)) (i : ℕ) (r : Renaming table i) where
    pub renaming_next : i < length gs → (glyph id : ℕ) → glyph ≡ get_or gs i 0 → id ≡ new_id own (name_of p (get_or gs i 0)) → (new : List (Option ℕ))
        → Puts named table glyph id new → Renaming new (i + 1)
    unfolding held_after
    renaming_next h glyph id g e new w =
        record {
          each = λ c l.
              ap (held_after p own (drop (i + 1) gs) (get_or named c None))
              (w.each c l ∙ ap (λ (x : ℕ). pick (has_glyph (get_or named c None) x) (Some id) (get_or table c None)) g
              ∙ ap (λ (x : ℕ). pick (has_glyph (get_or named c None) (get_or gs i 0)) (Some x) (get_or table c None)) e)
              ∙ sym (ap (λ (l : List ℕ). held_after p own l (get_or named c None) (get_or table c None)) (ahead gs i h)) ∙ r.each c l;
        }

    pub renaming_done : length gs ≤ i → Renames p own gs named table
    unfolding held_after
    renaming_done h =
        record { each = λ c l. sym (ap (λ (l : List ℕ). held_after p own l (get_or named c None) (get_or table c None)) (drop_of_length-le gs h)) ∙ r.each c l }

-- ---- by what is kept

-- a code without a glyph
pub after_none : (p : Program) (own : List (List ℕ)) (gs : List ℕ) (held : Option ℕ) → held_after p own gs None held ≡ held
unfolding held_after
after_none p own [] held = refl
after_none p own (g ∷ gs) held = after_none p own gs held

-- one with a glyph
pub after_kept : (p : Program) (own : List (List ℕ)) (gs : List ℕ) (g : ℕ) (held : Option ℕ)
    → held_after p own gs (Some g) held ≡ pick (is_in g gs) (Some (new_id own (name_of p g))) held
unfolding held_after is_in
after_kept p own [] g held = refl
after_kept p own (x ∷ gs) g held = after_kept p own gs g _ ∙ go (eqb x g) refl
  where
    both : (t : Bool) (v : Option ℕ) → pick t v v ≡ v
    both true v = refl
    both false v = refl

    go : (t : Bool) → eqb x g ≡ t
        → pick (is_in g gs) (Some (new_id own (name_of p g))) (pick (eqb g x) (Some (new_id own (name_of p x))) held)
        ≡ pick (pick t true (is_in g gs)) (Some (new_id own (name_of p g))) held
    go true t =
        let s : x ≡ g = eqb-true x g t in
        ap (λ (t : Bool). pick (is_in g gs) (Some (new_id own (name_of p g))) (pick t (Some (new_id own (name_of p x))) held)) (eq-eqb g x (sym s))
        ∙ ap (λ (y : ℕ). pick (is_in g gs) (Some (new_id own (name_of p g))) (Some (new_id own (name_of p y)))) s ∙ both (is_in g gs) (Some (new_id own (name_of p g)))
    go false t =
        let d = eqb-false x g t in
        ap (λ (t : Bool). pick (is_in g gs) (Some (new_id own (name_of p g))) (pick t (Some (new_id own (name_of p x))) held)) (ne_eqb g x (λ z. d (sym z)))
