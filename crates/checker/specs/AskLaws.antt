-- Laws of windows one behind the other, each looked up in a record: what is left gives what the whole gives.
use Rattle.std.specs.Prelude.{ℕ, ◌+◌, ◌-◌, ◌≤◌, ◌<◌, ◌≡◌, refl, Bool, true, false, List, [], ◌∷◌, ◌++◌, length, take, get_or}
use Rattle.std.proofs.Common.{sym, ap, ◌∙◌, subst, arith, length-append, length-take-le, get_or-take}
use Rattle.octets.specs.Pick.{pick}
use Rattle.kept.specs.Packed.{all_of}
use Rattle.row_window.specs.Window.{gathered, within, in_range, Below, none, one, Gathers}
use Rattle.row_window.specs.NextLaws.{within_all, gathered-below, below_at, front-inside, window-whole, window-next}
use Rattle.row_window.specs.MergeLaws.{gathers-few}
use Rattle.tracer.specs.Tracing.{top}
use Rattle.listed.specs.Listed.{all_in}
use Rattle.checker.specs.Checking.{Asks}

-- ---- parts of a list

all_both : (q : ℕ → Bool) (a b : List ℕ) → all_of q (a ++ b) ≡ pick (all_of q a) (all_of q b) false
unfolding all_of
all_both q [] b = refl
all_both q (x ∷ a) b = by (q x) (all_both q a b)
  where
    by : (t : Bool) → all_of q (a ++ b) ≡ pick (all_of q a) (all_of q b) false → pick t (all_of q (a ++ b)) false ≡ pick (pick t (all_of q a) false) (all_of q b) false
    by true e = e
    by false e = refl

below-within : (low high mid : ℕ) (ks : List ℕ) → Below mid ks → Below mid (within low high ks)
unfolding within
below-within low high mid [] none = none
below-within low high mid (k ∷ ks) (one h b) = by (in_range low high k) (below-within low high mid ks b)
  where
    by : (t : Bool) → Below mid (within low high ks) → Below mid (pick t (k ∷ within low high ks) (within low high ks))
    by true b = one h b
    by false b = b

-- ---- windows

-- the window that filling leaves
pub asks_filled : (ks keys keys' : List ℕ) (n low : ℕ) → length keys ≡ 65536 → Gathers (within low top ks) keys keys' n → Asks ks keys' n low
asks_filled ks keys keys' n low e g =
    record {
      size = g.room ∙ e;
      window = g.window;
      fits = omega (arith, e, gathers-few g);
      holds = g.holds ∙ ap (λ (m : ℕ). take (m - 1024) (gathered [] (within low top ks))) e;
    }

module _ (ks rows : List ℕ) where
  abbrev rest : ℕ → List ℕ
  rest low = gathered [] (within low top ks)

  -- where the loop stands: the windows before this one were listed
  pub record Asking (keys : List ℕ) (n low : ℕ) : Type 0 where
    pub asks : Asks ks keys n low
    pub whole : all_in rows (rest low) ≡ all_in rows (gathered [] ks)

  pub ask_start : Below top ks → (keys : List ℕ) (n : ℕ) → Asks ks keys n 0 → Asking keys n 0
  ask_start h keys n a = record { asks = a; whole = ap (λ (l : List ℕ). all_in rows (gathered [] l)) (within_all top ks h) }

  module _ (keys : List ℕ) (n low : ℕ) (s : Asking keys n low) where
    pub ask_fits : length (take n keys) ≤ 65536
    ask_fits = omega (arith, s.asks.fits, length-take-le n keys s.asks.window.fits)

    -- one that is not full is the last
    pub ask_last : (n ≡ 64512 → ⊥) → all_in rows (take n keys) ≡ all_in rows (gathered [] ks)
    ask_last h =
        ap (all_in rows) (window-whole 64512 n keys (rest low) s.asks.window.fits (omega (arith, s.asks.fits, h)) s.asks.holds) ∙ s.whole

    -- behind a full one
    module _ (full : n ≡ 64512) where
      abbrev next : ℕ
      next = get_or keys 64511 0 + 1

      holds-full : take 64512 keys ≡ take 64512 (rest low)
      holds-full = subst (λ (m : ℕ). take m keys ≡ take 64512 (rest low)) full s.asks.holds

      long : length (take 64512 keys) ≡ 64512
      long = length-take-le 64512 keys (omega (arith, s.asks.size))

      split : rest low ≡ take 64512 keys ++ rest next
      split = window-next low top 64512 keys ks (omega arith) (omega (arith, s.asks.size)) holds-full

      parts : (t : Bool) → all_in rows (take n keys) ≡ t → pick t (all_in rows (rest next)) false ≡ all_in rows (gathered [] ks)
      parts t e =
          ap (λ (u : Bool). pick u (all_in rows (rest next)) false) (sym e ∙ ap (λ (m : ℕ). all_in rows (take m keys)) full)
          ∙ sym (all_both _ (take 64512 keys) (rest next)) ∙ ap (all_in rows) (sym split) ∙ s.whole

      pub ask_stops : all_in rows (take n keys) ≡ false → false ≡ all_in rows (gathered [] ks)
      ask_stops e = parts false e

      pub ask_key : Below top ks → get_or keys 64511 0 < top
      ask_key h =
          let m : 64512 ≤ length (rest low) = front-inside 64512 (rest low) (sym (ap length holds-full) ∙ long) in
          let e : get_or keys 64511 0 ≡ get_or (rest low) 64511 0 =
          sym (get_or-take 64512 keys 64511 0 (omega arith)) ∙ ap (λ (l : List ℕ). get_or l 64511 0) holds-full ∙ get_or-take 64512 (rest low) 64511 0 (omega arith) in
          let b = below_at top (rest low) (gathered-below top [] (within low top ks) none (below-within low top top ks h)) 64511 (omega (arith, m)) in
          omega (arith, e, b)

      pub ask_less : length (rest next) < length (rest low)
      ask_less = omega (arith, ap length split, length-append (take 64512 keys) (rest next), long)

      pub ask_next : all_in rows (take n keys) ≡ true → (keys' : List ℕ) (m : ℕ) → Gathers (within next top ks) keys keys' m → Asking keys' m next
      ask_next e keys' m g = record { asks = asks_filled ks keys keys' m next s.asks.size g; whole = parts true e }
