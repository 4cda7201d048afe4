-- Laws of marking the FDs in use and of their new numbers (document 01, 'Layout').
use Rattle.std.specs.Prelude.{ℕ, ◌+◌, ◌-◌, ◌≤◌, ◌<◌, ◌≡◌, refl, Bool, true, false, eqb, length, take, drop, get_or, set, replicate}
use Rattle.std.proofs.Math.Path.{sym, ap}
use Rattle.std.proofs.Common.{◌∙◌, arith, eqb-true, drop_of_length-le, get_or-set_same, get_or-set_other}
use mathlib.Core.List.{List, [], ◌∷◌, ◌++◌}
use Rattle.std.proofs.lemmas.Bool.{eqb-false}
use Rattle.std.proofs.Math.ListN.{length-set}
use Rattle.std.proofs.lemmas.List.{length-replicate, get_or-replicate}
use Rattle.octets.specs.Octets.{put}
use Rattle.octets.specs.Pick.{pick}
use Rattle.subset.specs.Kept.{is_in}
use Rattle.bits.specs.Bits.{count_below}
use Rattle.kept.specs.MarkLaws.{ahead}
use Rattle.reach.specs.Reach.{ranks_of}
use Rattle.reach.specs.Ranks.{ranked, counted}
use Rattle.reach.specs.CountLaws.{Marks, ranked-ranks, length-ranks}
use Rattle.glyph_tables.specs.Tables.{marked_fds}

-- ---- marks

-- the FDs of g glyphs are marked
pub record FdsMarked (fds old marks : List ℕ) (g : ℕ) : Type 0 where
  pub size : length marks ≡ length old
  pub same : marked_fds (drop g fds) marks ≡ marked_fds fds old

-- none is marked
pub marked_start : (fds old : List ℕ) → FdsMarked fds old old 0
marked_start fds old = record { size = refl; same = refl }

module _ (fds old marks : List ℕ) (g : ℕ) (m : FdsMarked fds old marks g) where
  -- one more is marked
  pub marked_next : (f : ℕ) → g < length fds → f ≡ get_or fds g 0 → FdsMarked fds old (set marks f 1) (g + 1)
  unfolding marked_fds
  marked_next f h e =
      record {
        size = simp length-set m.size;
        same = ap (λ (x : ℕ). marked_fds (drop (g + 1) fds) (set marks x 1)) e
            ∙ sym (ap (λ (l : List ℕ). marked_fds l marks) (ahead fds g h)) ∙ m.same;
      }

  -- all are marked
  pub marked_done : length fds ≤ g → marks ≡ marked_fds fds old
  unfolding marked_fds
  marked_done h = sym (ap (λ (l : List ℕ). marked_fds l marks) (drop_of_length-le fds h)) ∙ m.same

-- marking leaves the count of words
pub length_marked : (fds ws : List ℕ) → length (marked_fds fds ws) ≡ length ws
unfolding marked_fds
length_marked [] ws = refl
length_marked (f ∷ fds) ws = length_marked fds (set ws f 1) ∙ length-set ws f 1

-- a mark is 1 whichever FD sets it
both_one : (t : Bool) → ◌≡◌ {A = ℕ} (pick t 1 1) 1
both_one true = refl
both_one false = refl

-- the word of an FD after some others
pub marked-at : (fds ws : List ℕ) (f : ℕ) → f < length ws → get_or (marked_fds fds ws) f 0 ≡ pick (is_in f fds) 1 (get_or ws f 0)
unfolding marked_fds is_in
marked-at [] ws f h = refl
marked-at (x ∷ fds) ws f h = marked-at fds (set ws x 1) f (rw length-set h) ∙ go (eqb x f) refl
  where
    go : (t : Bool) → eqb x f ≡ t → pick (is_in f fds) 1 (get_or (set ws x 1) f 0) ≡ pick (pick t true (is_in f fds)) 1 (get_or ws f 0)
    go true t =
        let e : get_or (set ws x 1) f 0 ≡ 1 = rw (eqb-true x f t) (get_or-set_same ws f 1 0 h) in
        ap (pick (is_in f fds) 1) e ∙ both_one (is_in f fds)
    go false t = ap (pick (is_in f fds) 1) (get_or-set_other ws x f 1 0 (λ e. eqb-false x f t (sym e)))

-- ---- new numbers

-- words that were cleared and marked are marks of a set
pub fds_marks : (fds : List ℕ) (n : ℕ) → Marks (λ f. is_in f fds) 0 (marked_fds fds (replicate n 0))
unfolding Marks
fds_marks fds n j h =
    let l = length_marked fds (replicate n 0) ∙ length-replicate n 0 in
    let k : j < n = omega (arith, l) in
    let e : 0 + j ≡ j = omega arith in
    marked-at fds (replicate n 0) j (rw length-replicate k) ∙ rw (get_or-replicate {A = ℕ} n j 0 0 k, e)

-- words cleared, marked and counted
pub ranked_fds : (fds old clear marks ranks : List ℕ) (r : ℕ) → length old ≡ 256 → clear ≡ replicate (length old) 0 → marks ≡ marked_fds fds clear
    → (ranks ≡ ranked 0 marks) × (r ≡ counted 0 marks) → (ranks ≡ ranks_of (λ f. is_in f fds) 0 256) × (r ≡ count_below (λ f. is_in f fds) 256)
unfolding count_below
ranked_fds fds old clear marks ranks r h c m q =
    let s : ℕ → Bool = λ f. is_in f fds in
    let ws = marked_fds fds (replicate 256 0) in
    let w : marks ≡ ws = m ∙ ap (marked_fds fds) (c ∙ ap (λ (n : ℕ). replicate n 0) h) in
    let l : length ws ≡ 256 = length_marked fds (replicate 256 0) ∙ length-replicate {A = ℕ} 256 0 in
    let i = ranked-ranks s 0 ws (fds_marks fds 256) in
    let f : 0 + length ws ≡ 256 = omega (arith, l) in
    (q.0 ∙ ap (ranked 0) w ∙ i.0 ∙ ap (ranks_of s 0) l, q.1 ∙ ap (counted 0) w ∙ i.1 ∙ ap (count_below s) f)

-- the first 256 words of a table
pub ranked-table : (table new : List ℕ) (s : ℕ → Bool) → new ≡ ranks_of s 0 256
    → take 0 table ++ (new ++ drop (256 - 0) (drop 0 table)) ≡ put table 0 (ranks_of s 0 256)
unfolding put
ranked-table table new s e =
    let m : 0 + length (ranks_of s 0 256) ≡ 256 = omega (arith, length-ranks s 0 256) in
    rw (e, m)
