-- Laws of inputs that ask something of a font, by the code's ways out.
use Rattle.std.specs.Prelude.{ℕ, ◌+◌, ◌-◌, ◌≤◌, ◌<◌, ◌≡◌, List, length, take, drop, None, Some}
use Rattle.std.proofs.Common.{ap, ◌∙◌, arith, lt-ltb, le-ltb, length-drop, take_all}
use Rattle.octets.specs.Octets.{num_at}
use Rattle.cases.specs.Inputs.{font_input}

module _ (s : List ℕ) where
  pub input_short : length s < 2 → None ≡ font_input s
  unfolding font_input
  input_short h = rw (lt-ltb (length s) 2 h)

  module _ (h : 2 ≤ length s) (n : ℕ) (e : n ≡ num_at s 0 2) where
    pub input_cut : length s < 2 + n → None ≡ font_input s
    unfolding font_input
    input_cut l =
        let k : length s < 2 + num_at s 0 2 = omega (arith, e) in
        rw (le-ltb (length s) 2 h, lt-ltb (length s) (2 + num_at s 0 2) k)

    -- the font and what is asked, as the code lends them
    pub input_parts : 2 + n ≤ length s → Some (take (2 + n - 2) (drop 2 s), take (length s - (2 + n)) (drop (2 + n) s)) ≡ font_input s
    unfolding font_input
    input_parts l =
        let k : 2 + num_at s 0 2 ≤ length s = omega (arith, e) in
        let d : 2 + n - 2 ≡ n = omega arith in
        let r : take (length s - (2 + n)) (drop (2 + n) s) ≡ drop (2 + n) s = take_all (length s - (2 + n)) (drop (2 + n) s) (rw length-drop (omega arith)) in
        rw (le-ltb (length s) 2 h, le-ltb (length s) (2 + num_at s 0 2) k)
        (ap (λ (l : List ℕ). Some (take (2 + n - 2) (drop 2 s), l)) r
        ∙ ap (λ (m : ℕ). Some (take m (drop 2 s), drop (2 + n) s)) d
        ∙ ap (λ (m : ℕ). Some (take m (drop 2 s), drop (2 + m) s)) e)
