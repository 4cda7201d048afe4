-- What moving the window of kept glyphs leaves as it is, and what follows of their order.
use Rattle.std.specs.Prelude.{ℕ, ◌%◌, ◌/◌, ◌≤◌, ◌<◌, ◌≡◌, refl, List, length, get_or}
use Rattle.std.proofs.Common.{sym, ap, ◌∙◌, subst, arith}
use Rattle.cff.specs.Reads.{program_of}
use Rattle.cff.specs.declared.font.Font.{Font}
use Rattle.order.specs.Walks.{many_in, order_in}
use Rattle.order_window.specs.declared.window.Kept.{Kept}
use Rattle.order_window.specs.Window.{glyphs_of, Steady, HoldsAll, Gathered}
use Rattle.order_window.specs.GatheredLaws.{steady-again, read_glyph, read_below, read_id}

-- the words of the order, and its glyphs
abbrev pub order_of : Kept → List ℕ
order_of k = order_in k.font.now k.o.f k.words.now

abbrev pub kept_glyphs : Kept → List ℕ
kept_glyphs k = glyphs_of k.font.now k.o.f k.words.now

-- all but what the window holds, and that too where it holds all kept glyphs; the window is the same reference, so that who lent it knows what it holds at the end
pub record Stays (old new : Kept) : Type 0 where
  pub font : new.font.now ≡ old.font.now
  pub words : new.words.now ≡ old.words.now
  pub f : new.o.f ≡ old.o.f
  pub count : new.o.count ≡ old.o.count
  pub size : length new.window.now ≡ length old.window.now
  pub same : new.window.ghost_name ≡ old.window.ghost_name
  pub whole : HoldsAll old.o → (new.o ≡ old.o) × (new.window.now ≡ old.window.now)

-- a window that holds a place stays as it is where that place is asked for
abbrev pub StaysAt : ℕ → Kept → Kept → Type 0
StaysAt i old new = old.o.held.from ≤ i → i < old.o.held.walk.done → (new.o ≡ old.o) × (new.window.now ≡ old.window.now)

pub stays-refl : (k : Kept) → Stays k k
stays-refl k = record { font = refl; words = refl; f = refl; count = refl; size = refl; same = refl; whole = λ h. (refl, refl) }

pub stays-then : (a b c : Kept) → Stays a b → Stays b c → Stays a c
stays-then a b c s t =
    record {
      font = t.font ∙ s.font;
      words = t.words ∙ s.words;
      f = t.f ∙ s.f;
      count = t.count ∙ s.count;
      size = t.size ∙ s.size;
      same = t.same ∙ s.same;
      whole = λ h. let e = s.whole h in
          let d = t.whole (subst HoldsAll (sym e.0) h) in
          (d.0 ∙ e.0, d.1 ∙ e.1);
    }

-- what is read of the font and of the words alone
pub stays-of : {A : Type 0} (g : List ℕ → Font → List ℕ → A) (a b : Kept) → Stays a b → g b.font.now b.o.f b.words.now ≡ g a.font.now a.o.f a.words.now
stays-of g a b s = λ i. g (s.font i) (s.f i) (s.words i)

pub stays-order : (a b : Kept) → Stays a b → order_of b ≡ order_of a
stays-order = stays-of order_in

pub stays-glyphs : (a b : Kept) → Stays a b → kept_glyphs b ≡ kept_glyphs a
stays-glyphs = stays-of glyphs_of

-- where no loop had begun, the kept glyphs are again as they were gathered, whatever the window holds by then
pub stays-steady : (old now : Kept) → Stays old now → Steady old.font.now old.o.f old.words.now old.window.now old.o.held
    → Gathered old.font.now old.words.now now.window.now old.o × Steady old.font.now old.o.f old.words.now now.window.now old.o.held
stays-steady old now s steady =
    steady-again old.font.now old.words.now old.window.now now.window.now old.o old.gathered steady
    (omega (arith, s.size, old.gathered.some)) (λ h. (s.whole h).1)

-- what `word` gives after the window was moved
module _ (old now : Kept) (s : Stays old now) (i : ℕ) (inside : i < old.o.count) (w : ℕ) (is : w ≡ get_or (order_of now) i 0) where
  pub stays-word : w ≡ get_or (order_of old) i 0
  stays-word = is ∙ ap (λ (l : List ℕ). get_or l i 0) (stays-order old now s)

  more : i < length (order_of old)
  more = omega (arith, old.gathered.many)

  pub stays-glyph : w % 65536 ≡ get_or (kept_glyphs old) i 0
  stays-glyph = read_glyph old.font.now old.o.f old.words.now i old.gathered.good.glyphs.held.few more w stays-word

  pub stays-below : w % 65536 < many_in old.o.f
  stays-below = read_below old.font.now old.o.f old.words.now i old.gathered.good.glyphs.held.few more w stays-word

  pub stays-id : w / 65536 ≡ get_or (program_of old.font.now old.o.f).ids (get_or (kept_glyphs old) i 0) 0
  stays-id = read_id old.font.now old.o.f old.words.now i old.gathered.good.glyphs.held.few more w stays-word
