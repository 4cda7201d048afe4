-- An FDSelect that was read (TN5176, section 19): its FDs are those of the table, and a glyph's lookup and a cursor are at home in it.
use Rattle.std.specs.Prelude.{ℕ, zero, suc, ◌+◌, ◌-◌, ◌≤◌, ◌<◌, ◌≡◌, refl, Bool, true, false, List, [], ◌∷◌, length, take, drop, get_or, ltb, eqb, Result, Ok, Err}
use Rattle.std.proofs.Common.{sym, ap, ◌∙◌, subst, add-one, sub-one, arith, ltb-false, length-drop, drop-cons, drop-drop, length-take-le, get_or-take, get_or-drop, ext_get_or}
use Rattle.octets.specs.Pick.{pick, pick_ind}
use Rattle.octets.specs.Octets.{Octets, be, num_at}
use Rattle.charset.specs.Listed.{numbers_of, list_of}
use Rattle.charset.specs.ListedLaws.{list_length, list_at, list_same, list_below}
use Rattle.charset.specs.FdSelect.{range_end, fd_in, ranges_refusal, judged, range_fds, fd_select_at, no_fds}
use Rattle.charset.specs.FdPlaces.{no_select, each_at_lem, ranges_at, select_at, select_answer, fd_of, fds_of, GoodSelect}
use Rattle.charset.specs.FdLaws.{end_one, range-on, fd-none}
use Rattle.charset.specs.FdSearchLaws.{each_at}
use Rattle.charset.specs.IdCursorLaws.{test-passed}
use Rattle.charset.specs.declared.fd_select.FdSelect.{FdSelect}
use Rattle.refusal.specs.declared.Refusal.{Refusal}
use Rattle.refusal.specs.declared.Refusal.TheVariants.{Truncated, Malformed}

-- a glyph's FD in the list of all
pub fd-at : (b : List ℕ) (s : FdSelect) (n g : ℕ) → g < n → get_or (fds_of b s n) g 0 ≡ fd_of b s g
fd-at b s n g h = let e : 0 + g ≡ g = omega arith in list_at (fd_of b s) 0 n g h ∙ ap (fd_of b s) e

none_sound : (first : ℕ) (bs : List ℕ) → ranges_refusal 0 0 first bs ≡ Ok tt
unfolding ranges_refusal
none_sound first bs = refl

-- ---- format 0

each_sound : (b : List ℕ) (q k first : ℕ) → q + k ≤ length b → ranges_refusal 0 k first (drop q b) ≡ Ok tt
each_sound b q zero first h = none_sound first (drop q b)
each_sound b q (suc k) first h =
    let e = sym (end_one 0 first (drop q b) refl) in
    let a : q + 1 + 0 ≡ q + 1 = omega arith in
    range-on b q 0 first (omega arith) (suc k) (omega arith) (omega arith) ∙ rw (sub-one, a) (each_sound b (q + 1) k (range_end 0 first (drop q b)) (omega arith))

each_same : (b : List ℕ) (q n : ℕ) → q + n ≤ length b → take n (drop q b) ≡ fds_of b (each_at_lem n q) n
unfolding fd_of
each_same b q n h =
    let m : n ≤ length (drop q b) = rw length-drop (omega arith) in
    let a = length-take-le n (drop q b) m in
    ext_get_or 0 (take n (drop q b)) (fds_of b (each_at_lem n q) n) (a ∙ sym (list_length (fd_of b (each_at_lem n q)) 0 n))
    (λ i z. let k : i < n = omega (arith, a) in
    get_or-take n (drop q b) i 0 k ∙ get_or-drop q b i 0 ∙ (each_at b q n 0 i k (each_sound b q n 0 h)).1 ∙ sym (list_at (fd_of b (each_at_lem n q)) 0 n i k))

each_fds : (b : List ℕ) (q n : ℕ) (l : List ℕ) → q ≤ length b → pick (ltb (length (drop q b)) n) (Err Truncated) (Ok (take n (drop q b))) ≡ Ok l
    → GoodSelect b (each_at_lem n q) × (l ≡ fds_of b (each_at_lem n q) n)
each_fds b q n l there h =
    let t = test-passed (ltb (length (drop q b)) n) _ _ l h in
    let m : n ≤ length (drop q b) = ltb-false (length (drop q b)) n t.0 in
    let k : n ≤ length b - q = rw length-drop at m in
    let e : l ≡ take n (drop q b) = cc in
    let r : q + n ≤ length b = omega arith in
    (record { narrow = omega arith; even = λ z. omega arith; sound = each_sound b q n 0 r }, e ∙ each_same b q n r)

-- ---- format 3

judged-listed : (r : Result Unit Refusal) (m l : List ℕ) → judged r m ≡ Ok l → (r ≡ Ok tt) × (l ≡ m)
judged-listed (Ok u) m l h = (refl, cc)
judged-listed (Err e) m l h = cc

range-fds : (b : List ℕ) (q n : ℕ) (l : List ℕ) → range_fds n (drop q b) ≡ Ok l → GoodSelect b (ranges_at b q) × (l ≡ fds_of b (ranges_at b q) n)
unfolding range_fds fd_of num_at
range-fds b q n l h =
    let t = test-passed (ltb (length (drop q b)) 4) _ _ l h in
    let bs = drop q b in
    let count = be 0 (take 2 bs) in
    let first = be 0 (take 2 (drop 2 bs)) in
    let j = simp drop-drop at (judged-listed (ranges_refusal 2 count first (drop 4 bs)) (list_of (fd_in 2 count first (drop 4 bs)) 0 n) l t.1) in
    (record { narrow = omega arith; even = λ z. omega arith; sound = j.0 }, j.1)

-- ---- what reading found

either-three : (t : Bool) (r : Result (List ℕ) Refusal) (l : List ℕ) → pick t r (Err Malformed) ≡ Ok l → r ≡ Ok l
either-three true r l h = h
either-three false r l h = cc

format_there : (b : List ℕ) (at n : ℕ) (l : List ℕ) → fd_select_at b at n ≡ Ok l → at < length b
unfolding fd_select_at
format_there [] zero n l h = cc
format_there [] (suc at) n l h = cc
format_there (x ∷ b) zero n l h = omega arith
format_there (x ∷ b) (suc at) n l h = omega (arith, format_there b at n l h)

by-format : (b : List ℕ) (at n : ℕ) (l : List ℕ) (three : Bool) → at < length b → (each : Bool)
    → pick each (pick (ltb (length (drop (at + 1) b)) n) (Err Truncated) (Ok (take n (drop (at + 1) b)))) (pick three (range_fds n (drop (at + 1) b)) (Err Malformed)) ≡ Ok l
    → GoodSelect b (pick each (each_at_lem n (at + 1)) (ranges_at b (at + 1))) × (l ≡ fds_of b (pick each (each_at_lem n (at + 1)) (ranges_at b (at + 1))) n)
by-format b at n l three there true h = each_fds b (at + 1) n l (omega arith) h
by-format b at n l three there false h = range-fds b (at + 1) n l (either-three three (range_fds n (drop (at + 1) b)) l h)

table_fds : (b : List ℕ) (at n : ℕ) (l : List ℕ) → fd_select_at b at n ≡ Ok l → GoodSelect b (select_at b at n) × (l ≡ fds_of b (select_at b at n) n)
unfolding fd_select_at
table_fds b at n l h =
    let there = format_there b at n l h in
    by-format b at n l (eqb (get_or b at 0) 3) there (eqb (get_or b at 0) 0) (rw add-one (rw (drop-cons b at 0 there) at h))

found-listed : (s d : FdSelect) (r : Result (List ℕ) Refusal) → select_answer s r ≡ Ok d → (s ≡ d) × (r ≡ Ok (numbers_of r))
found-listed s d (Err e) h = cc
found-listed s d (Ok l) h = (cc, refl)

pub refused_is : (s : FdSelect) (r : Result (List ℕ) Refusal) (e : Refusal) → select_answer s r ≡ Err e → r ≡ Err e
refused_is s (Err d) e h = cc
refused_is s (Ok l) e h = cc

module _ (b : List ℕ) (at n : ℕ) (s : FdSelect) (found : select_answer (select_at b at n) (fd_select_at b at n) ≡ Ok s) where
  is : (select_at b at n ≡ s) × (fd_select_at b at n ≡ Ok (numbers_of (fd_select_at b at n)))
  is = found-listed (select_at b at n) s (fd_select_at b at n) found

  -- the FDSelect serves to look FDs up
  pub found-good : GoodSelect b s
  found-good = subst (GoodSelect b) is.0 (table_fds b at n _ is.1).0

  -- and its FDs are those of the table
  pub found_fds : fd_select_at b at n ≡ Ok (fds_of b s n)
  found_fds = is.1 ∙ ap Ok (table_fds b at n _ is.1).1 ∙ ap (λ (d : FdSelect). Ok (fds_of b d n)) is.0

-- ---- no FDSelect

pub no_select-good : (b : List ℕ) → GoodSelect b no_select
unfolding ranges_refusal
no_select-good b = record { narrow = omega arith; even = λ h. omega arith; sound = refl }

pub no_select_fds : (b : List ℕ) (n : ℕ) → fds_of b no_select n ≡ no_fds n
unfolding fd_of
no_select_fds b n = list_same (fd_of b no_select) (λ g. 0) 0 n (λ i. fd-none 0 0 b i)

-- ---- the FDs themselves

-- FDs fit a byte
fd-small : (b : List ℕ) → Octets b → (w k first q g : ℕ) → fd_in w k first (drop q b) g < 256
unfolding fd_in
fd-small b o w zero first q g = omega arith
fd-small b o w (suc k) first q g =
    let end = range_end w first (drop q b) in
    pick_ind (λ (x : ℕ). x < 256) (ltb g first) _ _ (λ t. omega arith)
    (λ t. pick_ind (λ (x : ℕ). x < 256) (ltb g end) _ _ (λ u. omega (arith, get_or-drop q b 0 0, o (q + 0)))
    (λ u. rw drop-drop (fd-small b o w k end (q + (1 + w)) g)))

pub fds_small : (b : List ℕ) (s : FdSelect) (n : ℕ) → Octets b → Octets (fds_of b s n)
unfolding fd_of
fds_small b s n o i = list_below (fd_of b s) 256 0 n i (omega arith) (fd-small b o s.wide s.count s.first s.at)
