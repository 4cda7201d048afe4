-- Laws of a loop over the order: how it begins, goes on and ends, what it reads, and that it reads the bits of the glyphs alone.
use Rattle.std.specs.Prelude.{ℕ, ◌+◌, ◌-◌, ◌/◌, ◌%◌, ◌≤◌, ◌<◌, ◌≡◌, refl, List, length, take, drop, get_or}
use Rattle.std.proofs.Common.{sym, ap, ◌∙◌, subst, inl, ⊎_elim, arith}
use Rattle.bits.specs.Bits.{words_for}
use Rattle.cff.specs.Reads.{program_of, GoodFont}
use Rattle.cff.specs.declared.font.Font.{Font}
use Rattle.order.specs.Walks.{many_in, order_in}
use Rattle.order_window.specs.declared.Held.{Held}
use Rattle.order_window.specs.declared.Order.{Order}
use Rattle.order_window.specs.Window.{glyphs_of, Holds, Steady, Gathered}
use Rattle.order_window.specs.WindowLaws.{held_word}
use Rattle.order_window.specs.GatheredLaws.{same-gathered, same-steady, read_glyph as glyph_at, read_below as below_at, read_id as id_at}

-- the kept glyphs of a font, and the window, where no loop is under way
pub record Ordered (b ws window : List ℕ) (o : Order) : Type 0 where
  pub good : GoodFont b o.f
  pub bits : words_for (many_in o.f) ≤ length ws
  pub some : 0 < length window
  pub steady : Steady b o.f ws window o.held
  pub many : o.count ≡ length (order_in b o.f ws)
  pub one : 0 < o.count
  pub few : o.count < 65536

-- it is what `begin` and `gather` leave
pub ordered-gathered : {b ws window : List ℕ} {o : Order} → (Gathered b ws window o) × Steady b o.f ws window o.held → Ordered b ws window o
ordered-gathered h = record { good = h.0.good; bits = h.0.bits; some = h.0.some; steady = h.1; many = h.0.many; one = h.0.one; few = h.0.few }

pub gathered-ordered : {b ws window : List ℕ} {o : Order} → Ordered b ws window o → (Gathered b ws window o) × Steady b o.f ws window o.held
gathered-ordered s = (
  record { good = s.good; bits = s.bits; some = s.some; holds = s.steady.holds; many = s.many; one = s.one; few = s.few },
  s.steady,
)

-- a loop under way that comes to place i: all words stay where the window held them all
pub record Looping (b : List ℕ) (f : Font) (ws old : List ℕ) (h : Held) (window : List ℕ) (u : Held) (i : ℕ) : Type 0 where
  pub size : length window ≡ length old
  pub holds : Holds b f ws window u
  pub low : u.from ≤ i
  pub high : i ≤ u.walk.done
  pub stays : h.walk.done ≡ length (order_in b f ws) → (u ≡ h) × (window ≡ old)

-- ---- a loop begins, goes on and ends

module _ (b : List ℕ) (f : Font) (ws : List ℕ) where
  pub loop_start : (window : List ℕ) (h : Held) → Steady b f ws window h → Looping b f ws window h window h 0
  loop_start window h s = record { size = refl; holds = s.holds; low = omega (arith, s.front); high = omega arith; stays = λ e. (refl, refl) }

  module _ (old : List ℕ) (h : Held) (window : List ℕ) (u : Held) (i : ℕ) (l : Looping b f ws old h window u i) where
    -- the window moved, where it was moved
    pub loop_next : (window' : List ℕ) (v : Held) → i < length (order_in b f ws) → length window' ≡ length window → Holds b f ws window' v → v.from ≤ i → i < v.walk.done
        → (u.from ≤ i → i < u.walk.done → (v ≡ u) × (window' ≡ window)) → Looping b f ws old h window' v (i + 1)
    loop_next window' v more size holds low high same =
        record {
          size = size ∙ l.size;
          holds = holds;
          low = omega (arith, low);
          high = omega (arith, high);
          stays = λ e.
              let q = l.stays e in
              let d : u.walk.done ≡ length (order_in b f ws) = ap (λ (x : Held). x.walk.done) q.0 ∙ e in
              let r = same l.low (omega (arith, d)) in
              (r.0 ∙ q.0, r.1 ∙ q.1);
        }

    -- one that holds nothing holds nothing of any window
    none_steady : Steady b f ws old h → h.walk.done ≡ 0 → Steady b f ws window h
    none_steady s z =
        let k : h.walk.done - h.from ≡ 0 = omega arith in
        record {
          holds = record {
            stands = s.holds.stands;
            first = s.holds.first;
            ordered = s.holds.ordered;
            fits = omega (arith, k);
            words = ap (λ (n : ℕ). take n window) k ∙ sym (ap (λ (n : ℕ). take n (drop h.from (order_in b f ws))) k);
          };
          front = s.front;
          whole = inl z;
        }

    pub loop_end : Steady b f ws old h → Steady b f ws window h
    loop_end s = ⊎_elim (λ z. none_steady s z) (λ e. subst (λ (w : List ℕ). Steady b f ws w h) (sym (l.stays e).1) s) s.whole

-- the same of the kept glyphs of a font
module _ (b ws old : List ℕ) (o : Order) (s : Ordered b ws old o) where
  pub order-start : Looping b o.f ws old o.held old o.held 0
  order-start = loop_start b o.f ws old o.held s.steady

  module _ (window : List ℕ) (u : Held) (i : ℕ) (l : Looping b o.f ws old o.held window u i) where
    -- what a move of the window to the next place asks
    pub order_asks : i < o.count
        → (GoodFont b o.f) × (words_for (many_in o.f) ≤ length ws) × (0 < length window) × (Holds b o.f ws window u)
        × (i < length (order_in b o.f ws)) × (0 < i → (u.from ≤ i) × (i ≤ u.walk.done))
    order_asks h = (s.good, s.bits, omega (arith, s.some, l.size), l.holds, omega (arith, s.many), λ z. (l.low, l.high))

    pub order_end : Ordered b ws window o
    order_end =
        record {
          good = s.good;
          bits = s.bits;
          some = omega (arith, s.some, l.size);
          steady = loop_end b o.f ws old o.held window u i l s.steady;
          many = s.many;
          one = s.one;
          few = s.few;
        }

-- ---- what is read at a place

pub read_word : (b : List ℕ) (f : Font) (ws window : List ℕ) (u : Held) → Holds b f ws window u → (i : ℕ) → u.from ≤ i → i < u.walk.done
    → (w : ℕ) → w ≡ get_or window (i - u.from) 0 → w ≡ get_or (order_in b f ws) i 0
read_word b f ws window u s i low high w is = is ∙ held_word b f ws window u s i low high

-- what the word says that a window holds
module _ (b : List ℕ) (f : Font) (ws window : List ℕ) (u : Held) (s : Holds b f ws window u) (i : ℕ) (low : u.from ≤ i) (high : i < u.walk.done)
    (few : many_in f < 65536) (more : i < length (order_in b f ws)) (w : ℕ) (is : w ≡ get_or window (i - u.from) 0) where
  word : w ≡ get_or (order_in b f ws) i 0
  word = read_word b f ws window u s i low high w is

  pub read_glyph : w % 65536 ≡ get_or (glyphs_of b f ws) i 0
  read_glyph = glyph_at b f ws i few more w word

  pub read_below : w % 65536 < many_in f
  read_below = below_at b f ws i few more w word

  pub read_id : w / 65536 ≡ get_or (program_of b f).ids (get_or (glyphs_of b f ws) i 0) 0
  read_id = id_at b f ws i few more w word

-- ---- words whose bits of the glyphs are the same

-- the kept glyphs go by these bits alone
pub same-ordered : (b old new window : List ℕ) (o : Order) → take (words_for (many_in o.f)) new ≡ take (words_for (many_in o.f)) old → length new ≡ length old
    → Ordered b old window o → Ordered b new window o
same-ordered b old new window o same size s =
    let g = gathered-ordered s in
    ordered-gathered (same-gathered b old new window o same size g.0, same-steady b old new window o same g.1)
