-- Laws of an FDSelect written glyph by glyph: what a sink takes is what the whole has, and that what is written around it makes the whole. Then the
-- steps of a writer that goes by the FDs, and that they give the whole.
use Rattle.std.specs.Prelude.{ℕ, ◌+◌, ◌-◌, ◌*◌, ◌/◌, ◌^◌, ◌≤◌, ◌<◌, ◌≡◌, refl, Bool, true, false, length, take, drop, get_or, eqb, None, Option, Some}
use Rattle.std.proofs.Math.Path.{sym, ap}
use Rattle.std.proofs.Common.{◌∙◌, subst, add-zero, add-one, arith, eq-eqb, ne_eqb, eqb-true, length-append, take-append-drop, take-suc, take-take, take_all, length-take-le}
use mathlib.Core.List.{List, [], ◌∷◌, ◌++◌, append_assoc, append-nil}
use Rattle.std.proofs.lemmas.Bool.{eqb-false}
use Rattle.std.proofs.lemmas.List.{take-append-le}
use Rattle.octets.specs.Pick.{pick_ind}
use Rattle.octets.specs.Octets.{bytes_of, put, Wrote}
use Rattle.octets.specs.OctetsLaws.{length-bytes}
use Rattle.octets.specs.PutLaws.{put_is, put-put, drop-put-at, wrote_none, wrote_then, wrote_as, wrote-length}
use Rattle.octets.specs.Out.{Writes}
use Rattle.octets.specs.declared.out.Out.{Out}
use Rattle.charset.specs.FdSelectBytes.{is_last, changes, fd_ranges, entry_bytes, fd_select_bytes}
use Rattle.charset.specs.FdSelectBytesLaws.{entry-append, entry_length, select-length, last_is, last_fd, changes_snoc, changes-few, changes-grow, last-next, same-range, new-range, all-ranges}
use Rattle.charset.specs.FdWriter.{Follows, Counts, Taken, last_pushed, ranges_of, pushed_select, writer_of, pushed, pushed_bytes, CanCount, Pushed, Finished}
use Rattle.charset.specs.declared.fd_writer.Count.{Count}
use Rattle.charset.specs.declared.fd_writer.FdSelectWriter.{FdSelectWriter}

-- ---- the sinks

pub counts_follow : Follows (λ (s : Count) (rs : List (ℕ × ℕ)). s.ranges + length rs < 2 ^ 64) Counts
counts_follow =
    record {
      none = λ s. record { more = omega arith };
      next = λ s t rs more r h v. omega (arith, length-append rs (r ∷ more), v.more);
      both = λ s t u rs more r h v w. record { more = omega (arith, length-append rs (r ∷ []), v.more, w.more) };
    }

-- a range of its own
pub one_entry : (g fd : ℕ) → entry_bytes ((g, fd) ∷ []) ≡ bytes_of 2 g ++ (fd ∷ [])
unfolding entry_bytes
one_entry g fd = refl

pub writes_follow : Follows (λ (s : Out) (rs : List (ℕ × ℕ)). s.at + length (entry_bytes rs) ≤ length s.bytes.now) (λ (s : Out) (rs : List (ℕ × ℕ)) (t : Out). Writes s (entry_bytes rs) t)
unfolding entry_bytes
writes_follow =
    record {
      none = λ s. record { wrote = wrote_none s.bytes.now s.at; same = refl; size = refl };
      next = λ s t rs more r h v.
          omega (arith, entry_length (rs ++ (r ∷ more)), length-append rs (r ∷ more), entry_length rs, entry_length (r ∷ []), v.wrote.behind, v.size);
      both = λ s t u rs more r h v w.
          let l : s.at ≤ length s.bytes.now = omega arith in
          record { wrote = wrote_as (wrote_then l v.wrote w.wrote) (sym (entry-append rs (r ∷ []))); same = w.same ∙ v.same; size = w.size ∙ v.size };
    }

-- ---- glyph by glyph

module _ {S : Type 0} (room : S → List (ℕ × ℕ) → Type 0) (takes : S → List (ℕ × ℕ) → S → Type 0) (follows : Follows room takes) (old : S) (fds : List ℕ) where
  pub taken_none : Taken takes old fds 0 None old
  unfolding changes last_fd
  taken_none = record { before = refl; took = follows.none old }

  module _ (i fd : ℕ) (last : Option ℕ) (new : S) (t : Taken takes old fds i last new) (h : i < length fds) (e : fd ≡ get_or fds i 0) where
    now : (b : Bool) → is_last last fd ≡ b → is_last (last_fd None (take i fds)) (get_or fds i 0) ≡ b
    now b c = rw (sym e, sym t.before) c

    -- a glyph of the last FD
    pub taken_same : is_last last fd ≡ true → Taken takes old fds (i + 1) last new
    taken_same s =
        record {
          before = last_is last fd s ∙ ap Some e ∙ sym (last-next fds i h);
          took = subst (λ (rs : List (ℕ × ℕ)). takes old rs new) (sym (same-range fds i h (now true s))) t.took;
        }

    module _ (d : is_last last fd ≡ false) (fits : room old (fd_ranges fds)) where
      -- all ranges
      all : (more : List (ℕ × ℕ)) × (fd_ranges fds ≡ fd_ranges (take i fds) ++ ((i, fd) ∷ more))
      all = let r = all-ranges fds i h (now false d) in (r.0, r.1 ∙ ap (λ (x : ℕ). fd_ranges (take i fds) ++ ((i, x) ∷ r.0)) (sym e))

      -- a glyph of another: there is room for the range that it starts
      pub taken_room : room new ((i, fd) ∷ [])
      taken_room = follows.next old new (fd_ranges (take i fds)) all.0 (i, fd) (subst (room old) all.1 fits) t.took

      -- which is taken
      pub taken_new : (newer : S) → takes new ((i, fd) ∷ []) newer → Taken takes old fds (i + 1) (Some fd) newer
      taken_new newer v =
          let rs = fd_ranges (take i fds) in
          record {
            before = ap Some e ∙ sym (last-next fds i h);
            took = subst (λ (l : List (ℕ × ℕ)). takes old l newer) (ap (λ (x : ℕ). rs ++ ((i, x) ∷ [])) e ∙ sym (new-range fds i h (now false d)))
                (follows.both old new newer rs all.0 (i, fd) (subst (room old) all.1 fits) t.took v);
          }

  -- all glyphs
  pub taken_all : (i : ℕ) (last : Option ℕ) (new : S) → Taken takes old fds i last new → length fds ≤ i → takes old (fd_ranges fds) new
  taken_all i last new t h = subst (λ (l : List ℕ). takes old (fd_ranges l) new) (take_all i fds h) t.took

-- ---- the whole

whole : (fds : List ℕ) → (3 ∷ bytes_of 2 (length (fd_ranges fds))) ++ (entry_bytes (fd_ranges fds) ++ bytes_of 2 (length fds)) ≡ fd_select_bytes fds
unfolding fd_select_bytes
whole fds = refl

-- a part in front of what was written
take-before : (old : List ℕ) (at p : ℕ) (ys : List ℕ) → at ≤ p → p ≤ length old → take at (put old p ys) ≡ take at old
unfolding put
take-before old at p ys h k =
    let n : at ≤ length (take p old) = omega (arith, length-take-le p old k) in
    take-append-le at (take p old) _ n ∙ take-take at p old h

pub put_front : (old : List ℕ) (at : ℕ) (xs ys : List ℕ) → at + length xs ≤ length old → put (put old (at + length xs) ys) at xs ≡ put old at (xs ++ ys)
put_front old at xs ys h =
    let back = drop (at + length xs + length ys) old in
    let m : take at old ++ (xs ++ (ys ++ back)) ≡ take at old ++ ((xs ++ ys) ++ back) = rw append_assoc in
    let e : at + length (xs ++ ys) ≡ at + length xs + length ys = rw length-append (omega arith) in
    put_is (put old (at + length xs) ys) at xs (take at old) (ys ++ back) (take-before old at (at + length xs) ys (omega arith) h) (drop-put-at old (at + length xs) ys h)
    ∙ m ∙ sym (put_is old at (xs ++ ys) (take at old) back refl (ap (λ (i : ℕ). drop i old) e))

parts : (old : List ℕ) (at : ℕ) (head entries end : List ℕ) (p n : ℕ) → at + length head ≤ length old → p ≡ at + length head → n ≡ at + length head + length entries
    → put (put (put old p entries) at head) n end ≡ put old at (head ++ (entries ++ end))
parts old at head entries end p n h e f =
    let g : n ≡ at + length (head ++ entries) = rw length-append (omega arith) in
    rw (e, put_front old at head entries h, g, put-put old at (head ++ entries) end (omega arith), append_assoc)

-- the ranges were written behind three bytes, where there was room for all
module _ {old mid : List ℕ} (at : ℕ) {next : ℕ} (fds : List ℕ) (w : Wrote old (at + 3) (entry_bytes (fd_ranges fds)) mid next) (room : at + length (fd_select_bytes fds) ≤ length old) where
  -- how many there are
  pub ranges-count : (next - at - 3) / 3 ≡ length (fd_ranges fds)
  ranges-count = omega (arith, w.behind, entry_length (fd_ranges fds))

  -- room for what stands around them
  pub around-room : (at + 3 ≤ length mid) × (next + 2 ≤ length mid)
  around-room =
      let s = select-length fds in
      let e = entry_length (fd_ranges fds) in
      let n = wrote-length w (omega arith) in
      (omega (arith, w.behind), omega (arith, w.behind))

  -- the format, their count, and the count of glyphs make the whole
  pub around : {one two new : List ℕ} {p q r : ℕ} → Wrote mid at (3 ∷ []) one p → Wrote one p (bytes_of 2 (length (fd_ranges fds))) two q
      → Wrote two next (bytes_of 2 (length fds)) new r → Wrote old at (fd_select_bytes fds) new r
  around {one} {two} {new} {p} {q} {r} a b c =
      let head : List ℕ = 3 ∷ bytes_of 2 (length (fd_ranges fds)) in
      let end = bytes_of 2 (length fds) in
      let s = select-length fds in
      let n = length-bytes 2 (length (fd_ranges fds)) in
      let e = entry_length (fd_ranges fds) in
      let front = wrote_then (omega (arith, around-room.0)) a b in
      record {
        is = c.is ∙ ap (λ (l : List ℕ). put l next end) (front.is ∙ ap (λ (l : List ℕ). put l at head) w.is)
            ∙ parts old at head (entry_bytes (fd_ranges fds)) end (at + 3) next (omega arith) (omega arith) (omega (arith, w.behind)) ∙ ap (put old at) (whole fds);
        behind = omega (arith, c.behind, w.behind, length-bytes 2 (length fds));
      }

-- ---- a writer by the FDs: its ranges

pub pushed_snoc : (last : ℕ) (fds : List ℕ) (fd : ℕ) → last_pushed last (fds ++ (fd ∷ [])) ≡ fd
unfolding last_pushed
pushed_snoc last [] fd = refl
pushed_snoc last (x ∷ fds) fd = pushed_snoc x fds fd

pub last_known : (last : ℕ) (fds : List ℕ) → last_fd (Some last) fds ≡ Some (last_pushed last fds)
unfolding last_fd last_pushed
last_known last [] = refl
last_known last (x ∷ fds) = last_known x fds

module _ (fds : List ℕ) (fd : ℕ) where
  tested : is_last (last_fd (Some 256) fds) fd ≡ eqb (last_pushed 256 fds) fd
  tested = ap (λ (l : Option ℕ). is_last l fd) (last_known 256 fds)

  pub pushed-same : fd ≡ last_pushed 256 fds → ranges_of (fds ++ (fd ∷ [])) ≡ ranges_of fds
  pushed-same h =
      let t : is_last (last_fd (Some 256) fds) fd ≡ true = tested ∙ eq-eqb (last_pushed 256 fds) fd (sym h) in
      changes_snoc (Some 256) 0 fds fd ∙ rw t (append-nil (ranges_of fds))

  pub pushed-new : (fd ≡ last_pushed 256 fds → ⊥) → ranges_of (fds ++ (fd ∷ [])) ≡ ranges_of fds ++ ((length fds, fd) ∷ [])
  pushed-new h =
      let t : is_last (last_fd (Some 256) fds) fd ≡ false = tested ∙ ne_eqb (last_pushed 256 fds) fd (λ e. h (sym e)) in
      let e : 0 + length fds ≡ length fds = omega arith in
      changes_snoc (Some 256) 0 fds fd ∙ rw (t, e) refl

pub pushed-length : (fds : List ℕ) → length (pushed_select fds) ≡ 5 + 3 * length (ranges_of fds)
unfolding pushed_select
pushed-length fds =
    rw (length-append, length-append)
    (omega (arith, length-bytes 2 (length (ranges_of fds)), entry_length (ranges_of fds), length-bytes 2 (length fds)))

whole_pushed : (fds : List ℕ) → (3 ∷ bytes_of 2 (length (ranges_of fds))) ++ (entry_bytes (ranges_of fds) ++ bytes_of 2 (length fds)) ≡ pushed_select fds
unfolding pushed_select
whole_pushed fds = refl

-- of FDs they are all ranges, and it is the whole: 256 is no FD
pub ranges_alike : (fds : List ℕ) → get_or fds 0 0 < 256 → ranges_of fds ≡ fd_ranges fds
unfolding changes
ranges_alike [] h = refl
ranges_alike (fd ∷ fds) h = rw (ne_eqb 256 fd (λ e. absurd (omega (arith, h, e)))) refl

pub select_alike : (fds : List ℕ) → get_or fds 0 0 < 256 → pushed_select fds ≡ fd_select_bytes fds
unfolding pushed_select fd_select_bytes
select_alike fds h = ap (λ (rs : List (ℕ × ℕ)). 3 ∷ (bytes_of 2 (length rs) ++ (entry_bytes rs ++ bytes_of 2 (length fds)))) (ranges_alike fds h)

-- ---- the steps of the code

pub begun : (at : ℕ) → record { start = at; last = 256; ranges = 0; next = at + 3; glyphs = 0 } ≡ writer_of at []
unfolding last_pushed changes
begun at = rw (add-zero (at + 3))

module _ (w : FdSelectWriter) (fd : ℕ) where
  module _ (same : fd ≡ w.last) where
    pub same-state : record { start = w.start; last = w.last; ranges = w.ranges; next = w.next; glyphs = w.glyphs + 1 } ≡ pushed w fd
    unfolding pushed
    same-state = simp (eq-eqb fd w.last same)

    pub same-wrote : {old : List ℕ} {r : FdSelectWriter} → r ≡ pushed w fd → Wrote old w.next (pushed_bytes w fd) old r.next
    unfolding pushed_bytes
    same-wrote {old} {r} e =
        let n : w.next ≡ r.next = ap (λ (v : FdSelectWriter). v.next) (same-state ∙ sym e) in
        simp (eq-eqb fd w.last same) (subst (Wrote old w.next [] old) n (wrote_none old w.next))

  module _ (new : fd ≡ w.last → ⊥) where
    pub new-state : (last : ℕ) → last ≡ fd
        → record { start = w.start; last = last; ranges = w.ranges + 1; next = w.next + 3; glyphs = w.glyphs + 1 } ≡ pushed w fd
    unfolding pushed
    new-state last e = rw e (simp (ne_eqb fd w.last new))

    pub new-bytes : bytes_of 2 w.glyphs ++ (fd ∷ []) ≡ pushed_bytes w fd
    unfolding pushed_bytes
    new-bytes = simp (ne_eqb fd w.last new)

    pub new-length : length (pushed_bytes w fd) ≡ 3
    new-length = ap length (sym new-bytes) ∙ length-append (bytes_of 2 w.glyphs) (fd ∷ []) ∙ omega (arith, length-bytes 2 w.glyphs)

    pub new_wrote : {old mid out : List ℕ} {p q : ℕ} {r : FdSelectWriter} → w.next ≤ length old → r ≡ pushed w fd
        → Wrote old w.next (bytes_of 2 w.glyphs) mid p → Wrote mid p (fd ∷ []) out q → Wrote old w.next (pushed_bytes w fd) out r.next
    new_wrote {old} {mid} {out} {p} {q} {r} h e u v =
        let n : w.next + 3 ≡ r.next = ap (λ (x : FdSelectWriter). x.next) (new-state fd refl ∙ sym e) in
        record { is = (wrote_as (wrote_then h u v) new-bytes).is; behind = omega (arith, new-length) }

pub finished : {old mid half new : List ℕ} {p q r : ℕ} (w : FdSelectWriter) → w.start ≤ length old
    → Wrote old w.start (3 ∷ []) mid p → Wrote mid p (bytes_of 2 w.ranges) half q → Wrote half w.next (bytes_of 2 w.glyphs) new r
    → Finished old w new r
finished {old} {mid} {half} {new} {p} {q} {r} w h a b c =
    let head = wrote_then h a b in
    record {
      is = c.is ∙ ap (λ (l : List ℕ). put l w.next (bytes_of 2 w.glyphs)) head.is;
      behind = omega (arith, c.behind, length-bytes 2 w.glyphs);
    }

-- ---- what a writer holds

alike : (start last ranges next glyphs l r n g : ℕ) → last ≡ l → ranges ≡ r → next ≡ n → glyphs ≡ g
    → ◌≡◌ {A = FdSelectWriter} (record { start = start; last = last; ranges = ranges; next = next; glyphs = glyphs })
    (record { start = start; last = l; ranges = r; next = n; glyphs = g })
alike start last ranges next glyphs l r n g a b c d = rw (a, b, c, d)

-- one FD more
pub writer-push : (at : ℕ) (fds : List ℕ) (fd : ℕ) → pushed (writer_of at fds) fd ≡ writer_of at (fds ++ (fd ∷ []))
unfolding pushed
writer-push at fds fd =
    let z = pushed_snoc 256 fds fd in
    let g = length-append fds (fd ∷ []) in
    pick_ind (λ (w : FdSelectWriter). w ≡ writer_of at (fds ++ (fd ∷ []))) (eqb fd (last_pushed 256 fds)) _ _
    (λ t. let h = eqb-true fd (last_pushed 256 fds) t in
    let r = ap length (pushed-same fds fd h) in
    alike at _ _ _ _ _ _ _ _ (sym h ∙ sym z) (sym r) (omega arith) (omega arith))
    (λ t. let h = eqb-false fd (last_pushed 256 fds) t in
    let r = ap length (pushed-new fds fd h) ∙ length-append (ranges_of fds) ((length fds, fd) ∷ []) in
    alike at _ _ _ _ _ _ _ _ (sym z) (omega arith) (omega arith) (omega arith))

pub writer_counts : (at : ℕ) (fds : List ℕ) (w : FdSelectWriter) → w ≡ writer_of at fds → length fds < 65536 → at < 4294000000 → CanCount w
writer_counts at fds w e h k =
    let r = changes-few (Some 256) 0 fds in
    subst CanCount (sym e) (record { few = h; fewer = omega arith; near = omega arith })

-- the length that it measures
pub writer-length : (at : ℕ) (fds : List ℕ) (w : FdSelectWriter) → w ≡ writer_of at fds → 5 + 3 * w.ranges ≡ length (pushed_select fds)
writer-length at fds w e = ap (λ (v : FdSelectWriter). 5 + 3 * v.ranges) e ∙ sym (pushed-length fds)

-- glyph by glyph of a list: begun, one more
pub count-more : (at : ℕ) (fds : List ℕ) (k fd : ℕ) (w r : FdSelectWriter) → k < length fds → fd ≡ get_or fds k 0 → w ≡ writer_of at (take k fds) → r ≡ pushed w fd
    → r ≡ writer_of at (take (k + 1) fds)
count-more at fds k fd w r h f e n =
    n ∙ rw (e, f, add-one, take-suc fds k 0 h) (writer-push at (take k fds) (get_or fds k 0))

-- ---- what is written

pushed-entries : (at : ℕ) (fds : List ℕ) (fd : ℕ) → entry_bytes (ranges_of fds) ++ pushed_bytes (writer_of at fds) fd ≡ entry_bytes (ranges_of (fds ++ (fd ∷ [])))
unfolding pushed_bytes
pushed-entries at fds fd =
    pick_ind (λ (l : List ℕ). entry_bytes (ranges_of fds) ++ l ≡ entry_bytes (ranges_of (fds ++ (fd ∷ [])))) (eqb fd (last_pushed 256 fds)) _ _
    (λ t. append-nil (entry_bytes (ranges_of fds)) ∙ ap entry_bytes (sym (pushed-same fds fd (eqb-true fd (last_pushed 256 fds) t))))
    (λ t. sym (ap entry_bytes (pushed-new fds fd (eqb-false fd (last_pushed 256 fds) t)) ∙ entry-append (ranges_of fds) ((length fds, fd) ∷ [])
    ∙ ap (λ (l : List ℕ). entry_bytes (ranges_of fds) ++ l) (one_entry (length fds) fd)))

-- glyph by glyph of a list: begun, room for one more, one more, finished
pub push_begun : (old : List ℕ) (at : ℕ) (fds : List ℕ) (w : FdSelectWriter) → w ≡ writer_of at [] → Pushed old at (take 0 fds) old w
unfolding entry_bytes changes
push_begun old at fds w e =
    let n : w.next ≡ at + 3 + 3 * 0 = ap (λ (v : FdSelectWriter). v.next) e in
    record { state = e; wrote = subst (Wrote old (at + 3) [] old) (omega arith) (wrote_none old (at + 3)) }

module _ {old mid : List ℕ} {at : ℕ} {w : FdSelectWriter} (fds : List ℕ) (k fd : ℕ) (h : k < length fds) (f : fd ≡ get_or fds k 0) (p : Pushed old at (take k fds) mid w)
    (room : at + length (pushed_select fds) ≤ length old) where
  bytes : entry_bytes (ranges_of (take k fds)) ++ pushed_bytes w fd ≡ entry_bytes (ranges_of (take (k + 1) fds))
  bytes =
      ap (λ (v : FdSelectWriter). entry_bytes (ranges_of (take k fds)) ++ pushed_bytes v fd) p.state ∙ pushed-entries at (take k fds) fd
      ∙ rw (f, add-one, take-suc fds k 0 h)

  -- the ranges so far are among all
  few : length (ranges_of (take (k + 1) fds)) ≤ length (ranges_of fds)
  few = subst (λ (m : List ℕ). length (ranges_of (take (k + 1) fds)) ≤ length (ranges_of m)) (take-append-drop (k + 1) fds) (changes-grow (Some 256) 0 (take (k + 1) fds) (drop (k + 1) fds))

  pub push-room : w.next + length (pushed_bytes w fd) ≤ length mid
  push-room =
      let a = ap length bytes in
      let b = length-append (entry_bytes (ranges_of (take k fds))) (pushed_bytes w fd) in
      let n = entry_length (ranges_of (take (k + 1) fds)) in
      let s = pushed-length fds in
      let m : at + 3 + length (entry_bytes (ranges_of (take k fds))) ≤ length old = omega (arith, few) in
      omega (arith, few, p.wrote.behind, wrote-length p.wrote m)

  pub push-more : {new : List ℕ} {r : FdSelectWriter} → r ≡ pushed w fd → Wrote mid w.next (pushed_bytes w fd) new r.next → Pushed old at (take (k + 1) fds) new r
  push-more {new} {r} e v =
      record {
        state = count-more at fds k fd w r h f p.state e;
        wrote = wrote_as (wrote_then (omega (arith, pushed-length fds)) p.wrote v) bytes;
      }

pub push-finished : {old mid new : List ℕ} {at r : ℕ} {w : FdSelectWriter} (fds : List ℕ) → Pushed old at fds mid w → at + length (pushed_select fds) ≤ length old
    → Finished mid w new r → Wrote old at (pushed_select fds) new r
push-finished {old} {mid} {new} {at} {r} {w} fds p room f =
    let v = writer_of at fds in
    let head : List ℕ = 3 ∷ bytes_of 2 (length (ranges_of fds)) in
    let end = bytes_of 2 (length fds) in
    let s = pushed-length fds in
    let n = length-bytes 2 (length (ranges_of fds)) in
    let e = entry_length (ranges_of fds) in
    record {
      is = f.is ∙ ap (λ (x : FdSelectWriter). put (put mid x.start (3 ∷ bytes_of 2 x.ranges)) x.next (bytes_of 2 x.glyphs)) p.state
          ∙ ap (λ (l : List ℕ). put (put l at head) v.next end) p.wrote.is
          ∙ parts old at head (entry_bytes (ranges_of fds)) end (at + 3) v.next (omega arith) (omega arith) (omega arith) ∙ ap (put old at) (whole_pushed fds);
      behind = omega (arith, f.behind, ap (λ (x : FdSelectWriter). x.next) p.state);
    }

-- there is room to finish
pub finish-room : {old mid : List ℕ} {at : ℕ} {w : FdSelectWriter} (fds : List ℕ) → Pushed old at fds mid w → at + length (pushed_select fds) ≤ length old
    → (w.start + 3 ≤ length mid) × (w.next + 2 ≤ length mid)
finish-room {old} {mid} {at} {w} fds p room =
    let s = pushed-length fds in
    let e = entry_length (ranges_of fds) in
    let m : at + 3 + length (entry_bytes (ranges_of fds)) ≤ length old = omega arith in
    let n = wrote-length p.wrote m in
    let a = ap (λ (x : FdSelectWriter). x.start) p.state in
    let b = ap (λ (x : FdSelectWriter). x.next) p.state in
    (omega arith, omega arith)
