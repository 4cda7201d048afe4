-- Laws of a window of the order: what it holds at a place, and how many glyphs are kept.
use Rattle.std.specs.Prelude.{ℕ, zero, suc, ◌+◌, ◌*◌, ◌-◌, ◌≤◌, ◌<◌, ◌≡◌, refl, Bool, true, false, List, ◌∷◌, length, drop, get_or}
use Rattle.std.proofs.Common.{sym, ap, ◌∙◌, subst, arith, get_or-take, get_or-drop}
use Rattle.octets.specs.Pick.{pick}
use Rattle.bits.specs.Bits.{count_below, words_for, bit_in, whole_ones_lem}
use Rattle.bits.specs.BitsLaws.{whole_is}
use Rattle.cff.specs.declared.font.Font.{Font}
use Rattle.subset.specs.Kept.{those}
use Rattle.order.specs.declared.Walk.{Walk}
use Rattle.order.specs.Order.{kept_in}
use Rattle.order.specs.Walks.{order_in, start_of, seeks, Stands, Next}
use Rattle.order.specs.WalkLaws.{start-seeks}
use Rattle.order_window.specs.declared.Held.{Held}
use Rattle.order_window.specs.Window.{Holds}

-- ---- how many are kept

-- one number more, which passes or not
one_more : (test : ℕ → Bool) (g c : ℕ) (l : List ℕ) (t : Bool) → test g ≡ t → count_below test (suc g) + length l ≡ c → count_below test g + length (pick t (g ∷ l) l) ≡ c
unfolding count_below
one_more test g c l true e h = let s : count_below test (suc g) ≡ count_below test g + 1 = ap (λ (b : Bool). count_below test g + pick b 1 0) e in omega (arith, h, s)
one_more test g c l false e h = let s : count_below test (suc g) ≡ count_below test g + 0 = ap (λ (b : Bool). count_below test g + pick b 1 0) e in omega (arith, h, s)

-- those that pass a test are as many as are counted
those_many : (test : ℕ → Bool) (n g : ℕ) → count_below test g + length (those test n g) ≡ count_below test (g + n)
unfolding those
those_many test zero g = let e : g + 0 ≡ g = omega arith in let h : count_below test (g + 0) ≡ count_below test g = ap (count_below test) e in omega (arith, h)
those_many test (suc n) g =
    let e : g + 1 ≡ suc g = omega arith in
    let s : g + 1 + n ≡ g + suc n = omega arith in
    let a : count_below test (g + 1) ≡ count_below test (suc g) = ap (count_below test) e in
    let b : count_below test (g + 1 + n) ≡ count_below test (g + suc n) = ap (count_below test) s in
    one_more test g (count_below test (g + suc n)) (those test n (g + 1)) (test g) refl (omega (arith, those_many test n (g + 1), a, b))

none_yet : (test : ℕ → Bool) → count_below test 0 ≡ 0
unfolding count_below
none_yet test = refl

-- numbers that do not pass are not counted
count_stays : (test : ℕ → Bool) (m d : ℕ) → ((i : ℕ) → m ≤ i → i < m + d → test i ≡ false) → count_below test (m + d) ≡ count_below test m
unfolding count_below
count_stays test m zero f = let e : m + 0 ≡ m = omega arith in ap (count_below test) e
count_stays test m (suc d) f =
    let e : m + suc d ≡ suc (m + d) = omega arith in
    let t : test (m + d) ≡ false = f (m + d) (omega arith) (omega arith) in
    let g : count_below test (suc (m + d)) ≡ count_below test (m + d) + 0 = ap (λ (b : Bool). count_below test (m + d) + pick b 1 0) t in
    let h : count_below test (m + suc d) ≡ count_below test (suc (m + d)) = ap (count_below test) e in
    omega (arith, h, g, count_stays test m d (λ i h k. f i h (omega arith)))

pub ones-kept : (ws : List ℕ) → ((i : ℕ) → get_or ws i 0 < 4294967296) → (n q r : ℕ) → q ≡ words_for n → ((i : ℕ) → n ≤ i → i < 32 * words_for n → bit_in ws 0 i ≡ false)
    → r ≡ whole_ones_lem ws 0 q → r ≡ length (kept_in n ws)
ones-kept ws small n q r e none is =
    let test = bit_in ws 0 in
    let s : n + (32 * q - n) ≡ 32 * q = omega arith in
    let a : count_below test (n + (32 * q - n)) ≡ count_below test (32 * q) = ap (count_below test) s in
    let o : 0 + n ≡ n = omega arith in
    let c : count_below test (0 + n) ≡ count_below test n = ap (count_below test) o in
    omega (arith, is, whole_is ws 0 small q, a, count_stays test n (32 * q - n) (λ i h k. none i h (omega arith)), those_many test n 0, none_yet test, c)

-- ---- what a window holds

module _ (b : List ℕ) (f : Font) (ws window : List ℕ) (h : Held) (s : Holds b f ws window h) (i : ℕ) (low : h.from ≤ i) (high : i < h.walk.done) where
  -- its word is the order's
  pub held_word : get_or window (i - h.from) 0 ≡ get_or (order_in b f ws) i 0
  held_word =
      let k = h.walk.done - h.from in
      let j = i - h.from in
      let l : j < k = omega arith in
      let e : h.from + j ≡ i = omega arith in
      sym (get_or-take k window j 0 l) ∙ ap (λ (x : List ℕ). get_or x j 0) s.words ∙ get_or-take k (drop h.from (order_in b f ws)) j 0 l
      ∙ get_or-drop h.from (order_in b f ws) j 0 ∙ ap (λ (x : ℕ). get_or (order_in b f ws) x 0) e

-- a window that was moved
pub moved_holds : (b : List ℕ) (f : Font) (ws : List ℕ) (w : Walk) (window : List ℕ) (v : Walk) → Stands b f ws (start_of f (seeks w.next)) → Next b f ws w window v
    → Holds b f ws window (record { walk = v; from = w.done })
moved_holds b f ws w window v first n =
    record {
      stands = n.stands;
      first = subst (λ (x : Bool). Stands b f ws (start_of f x)) (sym n.same) first;
      ordered = omega (arith, n.more);
      fits = omega (arith, n.fits);
      words = n.words;
    }

-- one that holds nothing
pub none-held : (b : List ℕ) (f : Font) (ws window : List ℕ) (w : Walk) (search : Bool) → w ≡ start_of f search → Stands b f ws (start_of f search)
    → Holds b f ws window (record { walk = w; from = 0 })
none-held b f ws window w search is s =
    subst (λ (x : Walk). Holds b f ws window (record { walk = x; from = 0 })) (sym is)
    (record {
      stands = s;
      first = subst (λ (t : Bool). Stands b f ws (start_of f t)) (sym (start-seeks f search)) s;
      ordered = omega arith;
      fits = omega arith;
      words = refl;
    })

pub started_none : (w : Walk) (f : Font) (search : Bool) → w ≡ start_of f search → w.done ≡ 0
started_none w f search e = ap (λ (x : Walk). x.done) e
