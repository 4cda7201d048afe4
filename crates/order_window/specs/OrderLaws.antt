-- The order of a walk in the terms of the subset: words that `mark` set, the kept glyphs in the order in which they are written, and each with its id.
use Rattle.std.specs.Prelude.{ℕ, ◌+◌, ◌*◌, ◌/◌, ◌%◌, ◌≤◌, ◌<◌, ◌≡◌, refl, Bool, false, List, length, take, get_or}
use Rattle.std.proofs.Common.{ap, ◌∙◌, arith, le-ltb}
use Rattle.octets.specs.Pick.{pick, pick_ind}
use Rattle.octets.specs.Octets.{put}
use Rattle.octets.specs.PutLaws.{take_put}
use Rattle.bits.specs.Bits.{words_for, bit_in, below, bits_of}
use Rattle.bits.specs.WordsLaws.{held-bit}
use Rattle.dict.specs.Lookup.{cid_keyed}
use Rattle.cff.specs.Font.{Program}
use Rattle.cff.specs.Reads.{program_of}
use Rattle.cff.specs.declared.font.Font.{Font}
use Rattle.subset.specs.Kept.{keeps, kept_of, sorted_by, written_order}
use Rattle.subset.specs.KeptListLaws.{sorted-count}
use Rattle.subset.specs.EachLaws.{length-mapped, mapped_at}
use Rattle.kept.specs.Packed.{packed}
use Rattle.kept.specs.OrderLaws.{sorted-below, those-at}
use Rattle.order.specs.Order.{kept_in}
use Rattle.order.specs.Walks.{many_in, order_in}
use Rattle.order.specs.BitLaws.{bits_many, kept-by_bits}

-- ---- words that `mark` set

pub marked-words : (old new : List ℕ) (set : ℕ → Bool) (n : ℕ) → new ≡ put old 0 (bits_of set n) → take (words_for n) new ≡ bits_of set n
marked-words old new set n e =
    let l : words_for n ≡ 0 + length (bits_of set n) = omega (arith, bits_many set n) in
    ap (take (words_for n)) e ∙ ap (λ (k : ℕ). take k (put old 0 (bits_of set n))) l ∙ take_put old 0 (bits_of set n) (omega arith)

-- bits past the glyphs are 0, which `count` asks
pub none-past : (ws : List ℕ) (set : ℕ → Bool) (n : ℕ) → take (words_for n) ws ≡ bits_of set n → (i : ℕ) → n ≤ i → i < 32 * words_for n → bit_in ws 0 i ≡ false
none-past ws set n e i h k = held-bit ws 0 (below set n) (words_for n) e i k ∙ ap (λ (t : Bool). pick t (set i) false) (le-ltb i n h)

-- ---- the order

-- the kept glyphs as they are written
pub order-kept : (b : List ℕ) (f : Font) (ws keep : List ℕ) → take (words_for (many_in f)) ws ≡ bits_of (keeps keep) (many_in f)
    → order_in b f ws ≡ packed (program_of b f) (written_order (program_of b f) (kept_of (many_in f) keep))
order-kept b f ws keep e = ap (λ (l : List ℕ). packed (program_of b f) (written_order (program_of b f) l)) (kept-by_bits (many_in f) keep ws e)

module _ (b : List ℕ) (f : Font) (ws : List ℕ) where
  abbrev p : Program
  p = program_of b f

  abbrev kept : List ℕ
  kept = kept_in (many_in f) ws

  -- as many as are kept
  written_many : length (written_order p kept) ≡ length kept
  written_many =
      pick_ind (λ (l : List ℕ). length l ≡ length kept) (cid_keyed p.top) (sorted_by (λ g. get_or p.ids g 0) kept) kept
      (λ t. sorted-count (λ g. get_or p.ids g 0) kept) (λ t. refl)

  pub order_many : length (order_in b f ws) ≡ length kept
  order_many = length-mapped (λ (x : ℕ). get_or p.ids x 0 * 65536 + x) (written_order p kept) ∙ written_many

  module _ (few : many_in f < 65536) (i : ℕ) (h : i < length (order_in b f ws)) where
    inside : i < length (written_order p kept)
    inside = omega (arith, length-mapped (λ (x : ℕ). get_or p.ids x 0 * 65536 + x) (written_order p kept))

    -- each is a glyph of the font
    pub order_below : get_or (written_order p kept) i 0 < many_in f
    order_below =
        pick_ind (λ (l : List ℕ). i < length l → get_or l i 0 < many_in f) (cid_keyed p.top) (sorted_by (λ g. get_or p.ids g 0) kept) kept
        (λ t. sorted-below p.ids (many_in f) kept (λ j k. omega (arith, (those-at (bit_in ws 0) (many_in f) 0 j k).1)) i)
        (λ t k. omega (arith, (those-at (bit_in ws 0) (many_in f) 0 i k).1))
        inside

    order-word : get_or (order_in b f ws) i 0 ≡ get_or p.ids (get_or (written_order p kept) i 0) 0 * 65536 + get_or (written_order p kept) i 0
    order-word = mapped_at (λ (x : ℕ). get_or p.ids x 0 * 65536 + x) (written_order p kept) i 0 inside

    -- the glyph of a word, and its id
    pub order_glyph : get_or (order_in b f ws) i 0 % 65536 ≡ get_or (written_order p kept) i 0
    order_glyph = omega (arith, order-word, order_below)

    pub order_id : get_or (order_in b f ws) i 0 / 65536 ≡ get_or p.ids (get_or (written_order p kept) i 0) 0
    order_id = omega (arith, order-word, order_below)
