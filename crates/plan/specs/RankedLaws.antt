-- Laws of ranking all subroutines: first the globals, then the locals of the FDs in use.
use Rattle.std.specs.Prelude.{ℕ, zero, suc, ◌+◌, ◌-◌, ◌≤◌, ◌<◌, ◌≡◌, Bool, true, false, eqb, length, take, drop}
use Rattle.std.proofs.Math.Path.{refl, sym, ap}
use Rattle.std.proofs.Common.{◌∙◌, arith, length-append, take_at, drop_at, drop-drop}
use mathlib.Core.List.{List, [], ◌∷◌, ◌++◌, append-nil, append_assoc}
use Rattle.octets.specs.Octets.{put}
use Rattle.octets.specs.Pick.{pick}
use Rattle.octets.specs.PutLaws.{put-length, put-put, drop-put-at}
use Rattle.unfold.specs.Unfold.{Row}
use Rattle.cff.specs.Font.{Program}
use Rattle.cff.specs.Find.{locals_words}
use Rattle.subset.specs.Kept.{locals_of}
use Rattle.bits.specs.Bits.{count_below, words_for, below, bits_of, low_sums, high_sums}
use Rattle.bits.specs.WordsLaws.{words-length}
use Rattle.subset.specs.Pruned.{reached, local_set, global_set}
use Rattle.reach.specs.Reach.{ranked_of}
use Rattle.reach.specs.declared.ranks.Ranked as code
use Rattle.renumber.specs.declared.Ranks.{Ranks}
use Rattle.bodies.specs.Ways.{ranks_in}
use Rattle.fds.specs.Locals.{in_use_lem, used_below, fds_in, locals_for, fd_bits, bits_for, RanksLocals}
use Rattle.fds.specs.LocalsLaws.{ranks_by}
use Rattle.fds.specs.UsedLaws.{used-next, unused_next, bits_last, bits_length, locals-few, locals-within}
use Rattle.plan.specs.Ranked.{Stands, all_bits, globals_numbered, RanksAll}
use Rattle.plan.specs.declared.RankedAll.{RankedAll}

-- ---- the FDs in use, of which one is taken

-- those below a number stand in front of those below a larger one
used-front : (used : List ℕ) (n d : ℕ) → (rest : List ℕ) × (used_below used (n + d) ≡ used_below used n ++ rest)
used-front used n zero = ([], ap (used_below used) (let e : n + 0 ≡ n = omega arith in e) ∙ sym (append-nil (used_below used n)))
used-front used n (suc d) = go (in_use_lem used (n + d)) refl (used-front used n d)
  where
    e : n + suc d ≡ n + d + 1
    e = omega arith

    go : (t : Bool) → in_use_lem used (n + d) ≡ t → (rest : List ℕ) × (used_below used (n + d) ≡ used_below used n ++ rest)
        → (rest : List ℕ) × (used_below used (n + suc d) ≡ used_below used n ++ rest)
    go true u i = (
      i.0 ++ ((n + d) ∷ []),
      ap (used_below used) e ∙ used-next used (n + d) u ∙ ap (λ (l : List ℕ). l ++ ((n + d) ∷ [])) i.1 ∙ append_assoc (used_below used n) i.0 ((n + d) ∷ []),
    )
    go false u i = (i.0, ap (used_below used) e ∙ unused_next used (n + d) u ∙ i.1)

module _ (p : Program) (rows : List Row) where
  bits_append : (fs gs : List ℕ) → bits_for p rows (fs ++ gs) ≡ bits_for p rows fs ++ bits_for p rows gs
  unfolding bits_for
  bits_append [] gs = refl
  bits_append (f ∷ fs) gs =
      ap (λ (l : List ℕ). fd_bits p rows f ++ l) (bits_append fs gs) ∙ sym (append_assoc (fd_bits p rows f) (bits_for p rows fs) (bits_for p rows gs))

  -- the bits of an FD in use stand behind those of the FDs before it
  bits_split : (used : List ℕ) (f : ℕ) → f < 256 → in_use_lem used f ≡ true
      → (rest : List ℕ) × (bits_for p rows (fds_in used) ≡ bits_for p rows (used_below used f) ++ (fd_bits p rows f ++ rest))
  bits_split used f h u =
      let s = used-front used (f + 1) (256 - (f + 1)) in
      let e : f + 1 + (256 - (f + 1)) ≡ 256 = omega arith in
      let a : fds_in used ≡ used_below used (f + 1) ++ s.0 = ap (used_below used) (sym e) ∙ s.1 in (
        bits_for p rows s.0,
        ap (bits_for p rows) a ∙ bits_append (used_below used (f + 1)) s.0
            ∙ ap (λ (l : List ℕ). l ++ bits_for p rows s.0) (ap (bits_for p rows) (used-next used f u) ∙ bits_last p rows (used_below used f) f)
            ∙ append_assoc (bits_for p rows (used_below used f)) (fd_bits p rows f) (bits_for p rows s.0),
      )

-- ---- a part of what was put

-- what stands behind a first part
pub part-behind : (old : List ℕ) (at : ℕ) (xs ys zs : List ℕ) (place count : ℕ) → at ≤ length old → place ≡ at + length xs → length ys ≡ count
    → take count (drop place (put old at (xs ++ (ys ++ zs)))) ≡ ys
part-behind old at xs ys zs place count h e n =
    let back = drop (at + length (xs ++ (ys ++ zs))) old in
    ap (λ (i : ℕ). take count (drop i (put old at (xs ++ (ys ++ zs))))) e
    ∙ ap (take count) (sym (drop-drop (length xs) at (put old at (xs ++ (ys ++ zs)))))
    ∙ ap (λ (l : List ℕ). take count (drop (length xs) l)) (drop-put-at old at (xs ++ (ys ++ zs)) h ∙ append_assoc xs (ys ++ zs) back)
    ∙ ap (take count) (drop_at xs ((ys ++ zs) ++ back) (length xs) refl ∙ append_assoc ys zs back)
    ∙ take_at ys (zs ++ back) count n

-- ---- what ranking leaves

abbrev pub answer : Ranks → Bool → RankedAll
answer q t = record { globals = q; all = t }

bits_long : (set : ℕ → Bool) (count : ℕ) → length (bits_of set count) ≡ words_for count
bits_long set count = words-length (below set count) 0 (words_for count)

-- there is room for the locals behind the globals
pub locals-room : (rows : List Row) (old mid : List ℕ) (at count n more : ℕ) → n ≡ words_for count → at + words_for count + more ≤ length old
    → mid ≡ put old at (bits_of (global_set rows) count) → at + n + more ≤ length mid
locals-room rows old mid at count n more e h w =
    let l = bits_long (global_set rows) count in
    let k : at + length (bits_of (global_set rows) count) ≤ length old = omega arith in
    omega (arith, ap length w, put-length old at (bits_of (global_set rows) count) k)

module _ (p : Program) (rows : List Row) (used old mid new : List ℕ) (table : List Ranks) (n count words : ℕ) (glyphs : n ≡ words_for (length p.charstrings))
    (many : count ≡ length p.globals) (wide : words ≡ words_for count) (room : n + words_for count + locals_words p.privates ≤ length old)
    (r : code.Ranked) (w : mid ≡ put old n (bits_of (global_set rows) count)) (is : r ≡ ranked_of (global_set rows) count) where
  module _ (all both : Bool) (h : RanksLocals p rows used (n + words) mid new table all) (b : both ≡ pick r.all all false) where
    abbrev g : List ℕ
    g = bits_of (global_set rows) count

    long : length g ≡ words_for count
    long = bits_long (global_set rows) count

    whole : new ≡ put old n (g ++ bits_for p rows (fds_in used))
    whole =
        let e : n + words ≡ n + length g = omega (arith, long) in
        h.words ∙ ap (λ (ws : List ℕ). put ws (n + words) (bits_for p rows (fds_in used))) w
        ∙ ap (λ (i : ℕ). put (put old n g) i (bits_for p rows (fds_in used))) e
        ∙ put-put old n g (bits_for p rows (fds_in used)) (omega arith)

    new-length : length new ≡ length old
    new-length =
        let k : n + length (g ++ bits_for p rows (fds_in used)) ≤ length old
        = omega (arith, length-append g (bits_for p rows (fds_in used)), long, bits_length p rows (fds_in used), locals-few p used 256) in
        ap length whole ∙ put-length old n (g ++ bits_for p rows (fds_in used)) k

    globals_stand : Stands new (ranks_by n count r) (global_set rows) (length p.globals)
    globals_stand =
        record {
          many = many;
          inside = omega (arith, new-length);
          words = ap (λ (ws : List ℕ). take (words_for count) (drop n ws)) whole
              ∙ part-behind old n [] g (bits_for p rows (fds_in used)) n (words_for count) (omega arith) (omega arith) long;
          reaches = ap (λ (x : code.Ranked). x.reached) is;
          low = ap (λ (x : code.Ranked). x.low) is;
          high = ap (λ (x : code.Ranked). x.high) is;
        }

    locals_stand : (f : ℕ) → f < 256 → in_use_lem used f ≡ true → Stands new (ranks_in table f) (local_set rows f) (length (locals_of p f))
    locals_stand f k u =
        let t = h.tables f k u in
        let place : (ranks_in table f).at ≡ n + words + locals_for p (used_below used f) = ap (λ (q : Ranks). q.at) t in
        let c : (ranks_in table f).count ≡ length (locals_of p f) = ap (λ (q : Ranks). q.count) t in
        let v : words_for (ranks_in table f).count ≡ words_for (length (locals_of p f)) = ap words_for c in
        let s = bits_split p rows used f k u in
        let front = bits_for p rows (used_below used f) in
        let e : new ≡ put old n ((g ++ front) ++ (fd_bits p rows f ++ s.0))
        = whole ∙ ap (λ (l : List ℕ). put old n (g ++ l)) s.1 ∙ ap (put old n) (sym (append_assoc g front (fd_bits p rows f ++ s.0))) in
        let at : (ranks_in table f).at ≡ n + length (g ++ front)
        = omega (arith, place, length-append g front, long, bits_length p rows (used_below used f)) in
        let m : length (fd_bits p rows f) ≡ words_for (ranks_in table f).count = bits_long (local_set rows f) (length (locals_of p f)) ∙ sym v in
        record {
          many = c;
          inside = omega (arith, place, v, new-length, locals-within p used f u);
          words = ap (λ (ws : List ℕ). take (words_for (ranks_in table f).count) (drop (ranks_in table f).at ws)) e
              ∙ part-behind old n (g ++ front) (fd_bits p rows f) s.0 (ranks_in table f).at (words_for (ranks_in table f).count) (omega arith) at m
              ∙ ap (bits_of (local_set rows f)) (sym c);
          reaches = ap (λ (q : Ranks). q.reached) t ∙ ap (count_below (local_set rows f)) (sym c);
          low = ap (λ (q : Ranks). q.low) t ∙ ap (low_sums (local_set rows f)) (sym c);
          high = ap (λ (q : Ranks). q.high) t ∙ ap (high_sums (local_set rows f)) (sym c);
        }

    -- all are ranked
    pub ranks-all : RanksAll p rows used old new table (answer (ranks_by n count r) both)
    ranks-all =
        record {
          words = whole ∙ ap (λ (c : ℕ). put old n (bits_of (global_set rows) c ++ bits_for p rows (fds_in used))) many
              ∙ ap (λ (i : ℕ). put old i (all_bits p rows used)) glyphs;
          ranked = record { global_ranks = globals_stand; local_ranks = locals_stand };
          told = b ∙ ap (λ (t : Bool). pick t all false) (ap (λ (x : code.Ranked). x.all) is ∙ ap (λ (c : ℕ). eqb (reached (global_set rows)) (count_below (global_set rows) c)) many)
              ∙ ap (λ (t : Bool). pick (globals_numbered p rows) t false) h.told;
        }
