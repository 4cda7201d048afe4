-- Laws of the kept glyphs and their window: how they are gathered, what a place of the order reads, and that all goes by the bits of the glyphs alone.
use Rattle.std.specs.Prelude.{ℕ, ◌+◌, ◌-◌, ◌*◌, ◌/◌, ◌%◌, ◌^◌, ◌≤◌, ◌<◌, ◌≡◌, ◌⊎◌, Bool, true, List, eqb, length, take, drop, get_or}
use Rattle.std.proofs.Common.{refl, sym, ap, ◌∙◌, subst, inl, inr, arith, get_or-take}
use Rattle.octets.specs.Octets.{put}
use Rattle.bits.specs.Bits.{words_for, bit_in, bits_of}
use Rattle.cff.specs.Reads.{program_of, GoodFont}
use Rattle.cff.specs.declared.font.Font.{Font}
use Rattle.subset.specs.Kept.{keeps, kept_of, written_order}
use Rattle.subset.specs.Cut.{all_found_lem}
use Rattle.faithful.specs.KeptLaws.{kept-some}
use Rattle.order.specs.BitLaws.{kept-by_bits}
use Rattle.subset.specs.KeptListLaws.{those-same}
use Rattle.subset.specs.EachLaws.{length-mapped}
use Rattle.kept.specs.Packed.{packed, Apart, slot_words}
use Rattle.order.specs.declared.Coming.{Coming}
use Rattle.order.specs.declared.Coming.TheVariants.{Glyph, Cid}
use Rattle.order.specs.declared.Walk.{Walk}
use Rattle.order.specs.Order.{kept_in, slots_of}
use Rattle.order.specs.Walks.{many_in, order_in, start_of, seeks, ToCome, Stands, Next}
use Rattle.order.specs.WalkLaws.{order-few, start-seeks}
use Rattle.order_window.specs.declared.Held.{Held}
use Rattle.order_window.specs.declared.Order.{Order}
use Rattle.order_window.specs.Window.{glyphs_of, Holds, Marked, Steady, HoldsAll, Gathered}
use Rattle.order_window.specs.WindowLaws.{moved_holds, none-held, started_none}
use Rattle.order_window.specs.OrderLaws.{marked-words, none-past, order_many, order_below, order_glyph, order_id}

-- as many words as glyphs
pub glyphs_many : (b : List ℕ) (f : Font) (ws : List ℕ) → length (order_in b f ws) ≡ length (glyphs_of b f ws)
glyphs_many b f ws = length-mapped (λ (x : ℕ). get_or (program_of b f).ids x 0 * 65536 + x) (glyphs_of b f ws)

-- ---- the kept glyphs, where no loop has begun

module _ (b : List ℕ) (f : Font) (ws : List ℕ) (m : Marked b f ws) (count : ℕ) (many : count ≡ length (kept_in (many_in f) ws)) (first : Walk) (search : Bool)
    (is : first ≡ start_of f search) (s : Stands b f ws (start_of f search)) where
  none_done : first.done ≡ 0
  none_done = started_none first f search is

  -- and from there it can be begun again
  first_again : Stands b f ws (start_of f (seeks first.next))
  first_again = subst (λ (t : Bool). Stands b f ws (start_of f t)) (sym (ap (λ (x : Walk). seeks x.next) is ∙ start-seeks f search)) s

  first_stands : Stands b f ws first
  first_stands = subst (Stands b f ws) (sym is) s

  -- what `next` asks
  pub begin_asks : (window : List ℕ) → 0 < length window
      → (words_for (many_in f) ≤ length ws) × (0 < length window) × (Stands b f ws first) × (first.done < length (order_in b f ws))
  begin_asks window h = (m.bits, h, first_stands, omega (arith, none_done, order_many b f ws, m.one))

  gathered-by : (window : List ℕ) (h : Held) → 0 < length window → Steady b f ws window h
      → Gathered b ws window (record { f = f; count = count; held = h }) × Steady b f ws window h
  gathered-by window h some steady = (
    record {
      good = m.good;
      bits = m.bits;
      some = some;
      holds = steady.holds;
      many = many ∙ sym (order_many b f ws);
      one = omega (arith, many, m.one);
      few = omega (arith, many, order_many b f ws, order-few b f ws, m.good.glyphs.held.few);
    },
    steady,
  )

  -- the first window has all words
  pub begun_whole : (window : List ℕ) → 0 < length window → (v : Walk) → Next b f ws first window v → v.done ≡ count
      → Gathered b ws window (record { f = f; count = count; held = record { walk = v; from = 0 } }) × Steady b f ws window (record { walk = v; from = 0 })
  begun_whole window some v n e =
      gathered-by window (record { walk = v; from = 0 }) some
      (record {
        holds = subst (λ (k : ℕ). Holds b f ws window (record { walk = v; from = k })) none_done
            (moved_holds b f ws first window v (first_again) n);
        front = refl;
        whole = inr (e ∙ many ∙ sym (order_many b f ws));
      })

  -- it has not
  pub begun_none : (window : List ℕ) → 0 < length window
      → Gathered b ws window (record { f = f; count = count; held = record { walk = first; from = 0 } }) × Steady b f ws window (record { walk = first; from = 0 })
  begun_none window some =
      gathered-by window (record { walk = first; from = 0 }) some
      (record { holds = none-held b f ws window first search is s; front = refl; whole = inl none_done })

-- where no loop had begun, the window may hold anything by now, unless it held all words: it still does
pub steady-again : (b ws old new : List ℕ) (o : Order) → Gathered b ws old o → Steady b o.f ws old o.held → 0 < length new → (HoldsAll o → new ≡ old)
    → Gathered b ws new o × Steady b o.f ws new o.held
steady-again b ws old new o g s some same = with_steady (again s.whole)
  where
    with_steady : Steady b o.f ws new o.held → Gathered b ws new o × Steady b o.f ws new o.held
    with_steady t =
        (record { good = g.good; bits = g.bits; some = some; holds = t.holds; many = g.many; one = g.one; few = g.few }, t)

    again : (o.held.walk.done ≡ 0) ⊎ (o.held.walk.done ≡ length (order_in b o.f ws)) → Steady b o.f ws new o.held
    again (inl z) =
        let e : o.held.walk.done - o.held.from ≡ 0 = omega (arith, z) in
        record {
          holds = record {
            stands = s.holds.stands;
            first = s.holds.first;
            ordered = s.holds.ordered;
            fits = omega (arith, e);
            words = ap (λ (k : ℕ). take k new) e ∙ sym (ap (λ (k : ℕ). take k (drop o.held.from (order_in b o.f ws))) e);
          };
          front = s.front;
          whole = s.whole;
        }
    again (inr a) = subst (λ (w : List ℕ). Steady b o.f ws w o.held) (sym (same (s.front, a ∙ sym g.many))) s

-- what `mark` leaves
module _ (b : List ℕ) (f : Font) (old new keep : List ℕ) (is : new ≡ put old 0 (bits_of (keeps keep) (many_in f))) where
  pub gathered-kept : kept_in (many_in f) new ≡ kept_of (many_in f) keep
  gathered-kept = kept-by_bits (many_in f) keep new (marked-words old new (keeps keep) (many_in f) is)

  pub gathered-marked : GoodFont b f → all_found_lem (program_of b f) (kept_of (many_in f) keep) ≡ true → words_for (many_in f) ≤ length new → Marked b f new
  gathered-marked good found room =
      record {
        good = good;
        bits = room;
        none = none-past new (keeps keep) (many_in f) (marked-words old new (keeps keep) (many_in f) is);
        found = subst (λ (l : List ℕ). all_found_lem (program_of b f) l ≡ true) (sym gathered-kept) found;
        one = omega (arith, ap length gathered-kept, (kept-some (many_in f) keep good.some).0);
      }

-- ---- what is read at a place

module _ (b : List ℕ) (f : Font) (ws : List ℕ) (i : ℕ) (few : many_in f < 65536) (more : i < length (order_in b f ws)) (w : ℕ) (is : w ≡ get_or (order_in b f ws) i 0) where
  pub read_glyph : w % 65536 ≡ get_or (glyphs_of b f ws) i 0
  read_glyph = ap (λ (x : ℕ). x % 65536) is ∙ order_glyph b f ws few i more

  pub read_below : w % 65536 < many_in f
  read_below = omega (arith, read_glyph, order_below b f ws few i more)

  pub read_id : w / 65536 ≡ get_or (program_of b f).ids (get_or (glyphs_of b f ws) i 0) 0
  read_id = ap (λ (x : ℕ). x / 65536) is ∙ order_id b f ws few i more

-- ---- words whose bits of the glyphs are the same

module _ (b : List ℕ) (f : Font) (old new : List ℕ) (same : take (words_for (many_in f)) new ≡ take (words_for (many_in f)) old) where
  same_bit : (i : ℕ) → i < many_in f → bit_in old 0 i ≡ bit_in new 0 i
  same_bit i h =
      let q : 0 + i / 32 < words_for (many_in f) = omega arith in
      ap (λ (x : ℕ). eqb (x / 2 ^ (i % 32) % 2) 1)
      (sym (get_or-take (words_for (many_in f)) old (0 + i / 32) 0 q) ∙ ap (λ (l : List ℕ). get_or l (0 + i / 32) 0) (sym same) ∙ get_or-take (words_for (many_in f)) new (0 + i / 32) 0 q)

  pub same_kept : kept_in (many_in f) old ≡ kept_in (many_in f) new
  same_kept = those-same (bit_in old 0) (bit_in new 0) (many_in f) 0 (λ k h. same_bit k (omega arith))

  pub same-glyphs : glyphs_of b f old ≡ glyphs_of b f new
  same-glyphs = ap (written_order (program_of b f)) same_kept

  pub same-order : order_in b f old ≡ order_in b f new
  same-order = ap (packed (program_of b f)) same-glyphs

  same_ahead : (done : ℕ) (next : Coming) → ToCome b f old done next → ToCome b f new done next
  same_ahead done (Glyph at cursor) g =
      record {
        passing = g.passing;
        rest = ap (drop done) (sym same-order) ∙ g.rest
            ∙ ap (packed (program_of b f)) (those-same (bit_in old 0) (bit_in new 0) (many_in f - at) at (λ k h. same_bit k (omega arith)));
      }
  same_ahead done (Cid at) c =
      record {
        within = c.within;
        apart = subst (λ (x : List ℕ). Apart (packed (program_of b f) x)) same_kept c.apart;
        rest = ap (drop done) (sym same-order) ∙ c.rest
            ∙ ap (λ (x : List ℕ). slot_words (slots_of (packed (program_of b f) x)) (65536 - at) at) same_kept;
      }

  same_stands : (w : Walk) → Stands b f old w → Stands b f new w
  same_stands w s =
      record {
        within = omega (arith, s.within, ap length same-order);
        ahead = same_ahead w.done w.next s.ahead;
      }

  same-holds : (window : List ℕ) (h : Held) → Holds b f old window h → Holds b f new window h
  same-holds window h s =
      record {
        stands = same_stands h.walk s.stands;
        first = same_stands (start_of f (seeks h.walk.next)) s.first;
        ordered = s.ordered;
        fits = s.fits;
        words = s.words ∙ ap (λ (l : List ℕ). take (h.walk.done - h.from) (drop h.from l)) same-order;
      }

-- the kept glyphs go by these bits alone
pub same-gathered : (b old new window : List ℕ) (o : Order) → take (words_for (many_in o.f)) new ≡ take (words_for (many_in o.f)) old → length new ≡ length old
    → Gathered b old window o → Gathered b new window o
same-gathered b old new window o same size s =
    let e = same-order b o.f old new same in
    record {
      good = s.good;
      bits = omega (arith, s.bits);
      some = s.some;
      holds = same-holds b o.f old new same window o.held s.holds;
      many = s.many ∙ ap length e;
      one = s.one;
      few = s.few;
    }

pub same-steady : (b old new window : List ℕ) (o : Order) → take (words_for (many_in o.f)) new ≡ take (words_for (many_in o.f)) old
    → Steady b o.f old window o.held → Steady b o.f new window o.held
same-steady b old new window o same s =
    record {
      holds = same-holds b o.f old new same window o.held s.holds;
      front = s.front;
      whole = subst (λ (n : ℕ). (o.held.walk.done ≡ 0) ⊎ (o.held.walk.done ≡ n)) (ap length (same-order b o.f old new same)) s.whole;
    }
