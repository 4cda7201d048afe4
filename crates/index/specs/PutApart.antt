-- Two writes into parts that lie apart may be done in either order.
use Rattle.std.specs.Prelude.{ℕ, ◌+◌, ◌-◌, ◌≤◌, ◌≡◌}
use Rattle.std.proofs.Common.{sym, ◌∙◌, arith, drop_at, drop-drop, take-add}
use Rattle.std.proofs.Math.Path.{ap}
use mathlib.Core.List.{List, ◌++◌, append_assoc}
use Rattle.std.proofs.Math.ListN.{length, take, drop}
use Rattle.std.proofs.Math.Seq.{take-append-le, drop-append-le, take-take, length-take-le}
use Rattle.octets.specs.Octets.{put}
use Rattle.octets.specs.PutLaws.{put_is, take_put, drop-put}

module _ (old : List ℕ) (p : ℕ) (xs : List ℕ) (q : ℕ) (ys : List ℕ) (apart : p + length xs ≤ q) (within : q ≤ length old) where
  -- what lies between the two
  abbrev gap : List ℕ
  gap = take (q - (p + length xs)) (drop (p + length xs) old)

  abbrev back : List ℕ
  back = drop (q + length ys) old

  -- up to q, whatever stands behind low there
  split : (l : List ℕ) → take q l ≡ take (p + length xs) l ++ take (q - (p + length xs)) (drop (p + length xs) l)
  split l =
      let e : p + length xs + (q - (p + length xs)) ≡ q = omega arith in
      ap (λ (n : ℕ). take n l) (sym e) ∙ take-add (p + length xs) (q - (p + length xs)) l

  -- the lower one first
  lower : put (put old p xs) q ys ≡ take p old ++ (xs ++ (gap ++ (ys ++ back)))
  lower =
      let h : p ≤ length old = omega arith in
      let e : p + length xs + (q - (p + length xs) + length ys) ≡ q + length ys = omega arith in
      let f : take q (put old p xs) ≡ (take p old ++ xs) ++ gap = split (put old p xs) ∙ rw (take_put old p xs h, drop-put old p xs h) in
      let g : drop (q + length ys) (put old p xs) ≡ back
      = ap (λ (n : ℕ). drop n (put old p xs)) (sym e) ∙ sym (drop-drop (q - (p + length xs) + length ys) (p + length xs) (put old p xs)) ∙ rw (drop-put old p xs h, drop-drop, e) in
      put_is (put old p xs) q ys ((take p old ++ xs) ++ gap) back f g ∙ simp append_assoc

  -- the upper one first
  upper : put (put old q ys) p xs ≡ take p old ++ (xs ++ (gap ++ (ys ++ back)))
  unfolding put
  upper =
      let n : length (take q old) ≡ q = length-take-le q old within in
      let m : length (take (p + length xs) old) ≡ p + length xs = length-take-le (p + length xs) old (omega arith) in
      let f : take p (put old q ys) ≡ take p old = take-append-le p (take q old) (ys ++ back) (omega arith) ∙ take-take p q old (omega arith) in
      let d : drop (p + length xs) (take q old) ≡ gap = rw (split old) (drop_at (take (p + length xs) old) gap (p + length xs) m) in
      let g : drop (p + length xs) (put old q ys) ≡ gap ++ (ys ++ back)
      = drop-append-le (p + length xs) (take q old) (ys ++ back) (omega arith) ∙ ap (λ (l : List ℕ). l ++ (ys ++ back)) d in
      put_is (put old q ys) p xs (take p old) (gap ++ (ys ++ back)) f g

  pub put-apart : put (put old p xs) q ys ≡ put (put old q ys) p xs
  put-apart = lower ∙ sym upper
