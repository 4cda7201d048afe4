-- An FDSelect that was written reads back.
use Prim.Native.Nat.{ℕ, zero, suc, ◌+◌, ◌≤◌, ◌<◌}
use Rattle.std.specs.Prelude.{◌≡◌, refl, false, take, get_or, ltb, eqb, Ok, None, Some}
use Rattle.std.proofs.Math.Path.{sym, ap}
use Rattle.std.proofs.Common.{◌∙◌, not-suc-le-zero, add-zero, arith, lt-ltb, le-ltb, eqb-true, ext_get_or, drop-drop}
use mathlib.Core.List.{List, [], ◌∷◌, ◌++◌, append_assoc}
use Rattle.std.proofs.Math.ListN.{length, drop, length-append}
use Rattle.octets.specs.Pick.{pick, pick_ind}
use Rattle.octets.specs.Octets.{be, bytes_of}
use Rattle.octets.specs.OctetsLaws.{length-bytes, be-front, drop-front}
use Rattle.charset.specs.Listed.{list_of}
use Rattle.charset.specs.ListedLaws.{list_length, list_at}
use Rattle.charset.specs.FdSelect.{range_end, fd_in, ranges_refusal, range_fds, fd_select_at}
use Rattle.charset.specs.FdSelectBytes.{changes, fd_ranges, entry_bytes, fd_select_bytes}
use Rattle.charset.specs.FdSelectBytesLaws.{changes-few}

-- what stands behind the FD of a range under way: the ranges that start among glyphs with these FDs, from glyph g on, the count of all
-- glyphs, and what follows the table
abbrev behind : List (ℕ × ℕ) → ℕ → List ℕ → List ℕ
behind rs n post = entry_bytes rs ++ (bytes_of 2 n ++ post)

-- these bytes, read: the range under way, of FD last, ends at glyph g or later, no range falls, and each glyph from g on has its FD
record Back (last g : ℕ) (fds : List ℕ) (count : ℕ) (bs : List ℕ) : Type 0 where
  long : 2 ≤ length bs
  later : g ≤ be 0 (take 2 bs)
  sound : ranges_refusal 2 count (be 0 (take 2 bs)) (drop 2 bs) ≡ Ok tt
  each : (i : ℕ) → i < length fds → pick (ltb (g + i) (be 0 (take 2 bs))) last (fd_in 2 count (be 0 (take 2 bs)) (drop 2 bs) (g + i)) ≡ get_or fds i 0

-- no glyph left
back_none : (last g : ℕ) (post : List ℕ) → g < 65536 → Back last g [] 0 (bytes_of 2 g ++ post)
unfolding ranges_refusal
back_none last g post h =
    record {
      long = rw length-append (omega (arith, length-bytes 2 g));
      later = omega (arith, be-front 2 g post h);
      sound = refl;
      each = λ i z. absurd (not-suc-le-zero z);
    }

-- a glyph of the same FD
back-same : (last g x : ℕ) (fds : List ℕ) (count : ℕ) (bs : List ℕ) → x ≡ last → Back last (g + 1) fds count bs → Back last g (x ∷ fds) count bs
back-same last g x fds count bs e k = record { long = k.long; later = omega (arith, k.later); sound = k.sound; each = each }
  where
    each : (i : ℕ) → i < suc (length fds)
        → pick (ltb (g + i) (be 0 (take 2 bs))) last (fd_in 2 count (be 0 (take 2 bs)) (drop 2 bs) (g + i)) ≡ get_or (x ∷ fds) i 0
    each zero z = simp (lt-ltb (g + 0) (be 0 (take 2 bs)) (omega (arith, k.later))) (sym e)
    each (suc i) z =
        let a : g + 1 + i ≡ g + suc i = omega arith in
        rw a at (k.each i (omega arith))

-- a glyph that starts a range
new-each : (last g x : ℕ) (fds : List ℕ) (count : ℕ) (bs : List ℕ) → Back x (g + 1) fds count bs → (i : ℕ) → i < suc (length fds)
    → pick (ltb (g + i) g) last (fd_in 2 (suc count) g (x ∷ bs) (g + i)) ≡ get_or (x ∷ fds) i 0
unfolding fd_in range_end
new-each last g x fds count bs k zero z =
    simp (le-ltb (g + 0) g (omega arith), lt-ltb (g + 0) (be 0 (take 2 bs)) (omega (arith, k.later)))
new-each last g x fds count bs k (suc i) z =
    let a : g + 1 + i ≡ g + suc i = omega arith in
    simp (le-ltb (g + suc i) g (omega arith)) (rw a at (k.each i (omega arith)))

back-new : (last g x : ℕ) (fds : List ℕ) (count : ℕ) (bs : List ℕ) → g < 65536 → Back x (g + 1) fds count bs
    → Back last g (x ∷ fds) (suc count) (bytes_of 2 g ++ (x ∷ bs))
unfolding ranges_refusal range_end
back-new last g x fds count bs h k =
    let f : be 0 (take 2 (bytes_of 2 g ++ (x ∷ bs))) ≡ g = be-front 2 g (x ∷ bs) h in
    let d : drop 2 (bytes_of 2 g ++ (x ∷ bs)) ≡ x ∷ bs = drop-front 2 g (x ∷ bs) in
    let n : 3 ≤ length (x ∷ bs) = omega (arith, k.long) in
    record {
      long = rw length-append (omega (arith, length-bytes 2 g));
      later = omega arith;
      sound = rw (f, d) (simp (le-ltb (length (x ∷ bs)) 3 n, le-ltb (be 0 (take 2 bs)) g (omega (arith, k.later))) k.sound);
      each = λ i z. rw (f, d) (new-each last g x fds count bs k i z);
    }

-- the bytes behind the FD of a range under way, whichever glyphs are left
back : (last g : ℕ) (fds post : List ℕ) → g + length fds < 65536
    → Back last g fds (length (changes (Some last) g fds)) (behind (changes (Some last) g fds) (g + length fds) post)
unfolding changes entry_bytes
back last g [] post h = rw (add-zero g) (back_none last g post (omega arith))
back last g (x ∷ fds) post h =
    let e : g + 1 + length fds ≡ g + suc (length fds) = omega arith in
    pick_ind (λ (rs : List (ℕ × ℕ)). Back last g (x ∷ fds) (length rs) (behind rs (g + suc (length fds)) post)) (eqb last x) _ _
    (λ t. back-same last g x fds _ _ (sym (eqb-true last x t)) (rw e at (back last (g + 1) fds post (omega arith))))
    (λ t. rw append_assoc (back-new last g x fds _ _ (omega arith) (rw e at (back x (g + 1) fds post (omega arith)))))

-- ---- the whole table

-- before the first range there is no glyph: whatever FD it had
record Whole (fds : List ℕ) (count : ℕ) (bs : List ℕ) : Type 0 where
  read : Back 0 0 fds count bs
  first : be 0 (take 2 bs) ≡ 0

whole : (fds post : List ℕ) → length fds < 65536 → Whole fds (length (fd_ranges fds)) (behind (fd_ranges fds) (length fds) post)
unfolding changes entry_bytes
whole [] post h = record { read = back_none 0 0 post (omega arith); first = be-front 2 0 post (omega arith) }
whole (x ∷ fds) post h =
    let e : 1 + length fds ≡ suc (length fds) = omega arith in
    let rs = changes (Some x) 1 fds in
    let k : Back x 1 fds (length rs) (behind rs (suc (length fds)) post) = rw e at (back x 1 fds post (omega arith)) in
    rw append_assoc (record { read = back-new 0 0 x fds _ _ (omega arith) k; first = be-front 2 0 (x ∷ behind rs (suc (length fds)) post) (omega arith) })

module _ (fds : List ℕ) (count : ℕ) (bs : List ℕ) (w : Whole fds count bs) where
  fds_are : list_of (fd_in 2 count (be 0 (take 2 bs)) (drop 2 bs)) 0 (length fds) ≡ fds
  fds_are =
      let f = fd_in 2 count (be 0 (take 2 bs)) (drop 2 bs) in
      let n = list_length f 0 (length fds) in
      ext_get_or 0 (list_of f 0 (length fds)) fds n
      (λ i z. let m : i < length fds = omega arith in
      let b : ltb (0 + i) (be 0 (take 2 bs)) ≡ false = le-ltb (0 + i) (be 0 (take 2 bs)) (omega (arith, w.first)) in
      list_at f 0 (length fds) i m ∙ rw b at (w.read.each i m))

  fds_back : count < 65536 → range_fds (length fds) (bytes_of 2 count ++ bs) ≡ Ok fds
  unfolding range_fds
  fds_back h =
      let l : List ℕ = bytes_of 2 count ++ bs in
      let n : 4 ≤ length l = rw length-append (omega (arith, length-bytes 2 count, w.read.long)) in
      let f : be 0 (take 2 l) ≡ count = be-front 2 count bs h in
      let d : drop 2 l ≡ bs = drop-front 2 count bs in
      let e : drop 4 l ≡ drop 2 bs = sym (drop-drop 2 2 l) ∙ ap (drop 2) d in
      simp (le-ltb (length l) 4 n, f, d, e, w.read.sound) (ap Ok fds_are)

pub select-round : (b : List ℕ) (at : ℕ) (fds post : List ℕ) → drop at b ≡ fd_select_bytes fds ++ post → length fds < 65536
    → fd_select_at b at (length fds) ≡ Ok fds
unfolding fd_select_at fd_select_bytes
select-round b at fds post lies h =
    let m : length (fd_ranges fds) < 65536 = omega (arith, changes-few None 0 fds) in
    rw (lies, append_assoc, append_assoc) (fds_back fds (length (fd_ranges fds)) (behind (fd_ranges fds) (length fds) post) (whole fds post h) m)
