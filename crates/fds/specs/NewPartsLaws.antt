-- Laws of the Private parts with their new local subroutines, written FD by FD.
use Rattle.std.specs.Prelude.{ℕ, zero, suc, ◌+◌, ◌-◌, ◌≤◌, ◌<◌, ◌≡◌, Bool, true, false, eqb, length, get_or}
use Rattle.std.proofs.Math.Path.{refl, sym, ap}
use Rattle.std.proofs.Common.{◌∙◌, subst, arith, eq-eqb, ne_eqb, length-append}
use mathlib.Core.List.{List, [], ◌∷◌, ◌++◌, append-nil, append_assoc}
use Rattle.octets.specs.Pick.{pick}
use Rattle.octets.specs.Octets.{Wrote}
use Rattle.octets.specs.PutLaws.{wrote_then, wrote_as, wrote-length}
use Rattle.index.specs.Index.{items_of}
use Rattle.index.specs.Write.{total, index_bytes}
use Rattle.index.specs.WriteLaws.{total-within}
use Rattle.unfold.specs.Unfold.{Row, local}
use Rattle.prune.specs.StepLaws.{zero_one}
use Rattle.cff.specs.Font.{Private, Program}
use Rattle.cff.specs.Reads.{GoodPrivate}
use Rattle.cff.specs.Reads as reads
use Rattle.cff.specs.declared.private.PrivateAt.{PrivateAt}
use Rattle.subset.specs.Kept.{those, locals_of, private_of}
use Rattle.bits.specs.Bits.{count_below}
use Rattle.subset.specs.Pruned.{mapped}
use Rattle.subset.specs.Subset.{private_part, private_parts}
use Rattle.renumber.specs.Ranks.{calls_by}
use Rattle.renumber.specs.declared.Ranks.{Ranks}
use Rattle.private_dicts.specs.Privates.{private_dict_by}
use Rattle.private_dicts.specs.PrivatesLaws.{private-dict_is}
use Rattle.bodies.specs.Ways.{many_of, holds, new_subrs, subrs_by, reached_in, ranks_in, site_in, kept_count, Room}
use Rattle.bodies.specs.Pruning.{all_hold}
use Rattle.bodies.specs.SubrsLaws.{new-subrs_is, new-subrs_many}
use Rattle.reach.specs.declared.Subrs.TheVariants.{Local}
use Rattle.fds.specs.Locals.{in_use_lem, used_below, fds_in}
use Rattle.fds.specs.UsedLaws.{used-next, unused_next}
use Rattle.fds.specs.NewLocals.{new_with, FdIn, locals_by, new_locals}
use Rattle.fds.specs.NewLocalsLaws.{subrs_in, items_are, hold_fails}
use Rattle.fds.specs.NewParts.{part_with, PartRoom, parts_for, PartsRoom}
use Rattle.subset.specs.declared.Way.{Way}

-- ---- the bytes of a part

module _ (x : Private) (ls : List (List ℕ)) (left : ℕ) (many : left ≡ length ls) where
  part_bytes : private_dict_by x.entries left ++ pick (eqb left 0) [] (index_bytes ls) ≡ private_part x ls
  part_bytes =
      ap (λ (n : ℕ). private_dict_by x.entries n ++ pick (eqb n 0) [] (index_bytes ls)) many
      ∙ ap (λ (l : List ℕ). l ++ pick (eqb (length ls) 0) [] (index_bytes ls)) (sym (private-dict_is x ls))

  pub none-bytes : left ≡ 0 → private_dict_by x.entries left ≡ private_part x ls
  none-bytes e =
      sym (append-nil (private_dict_by x.entries left))
      ∙ ap (λ (t : Bool). private_dict_by x.entries left ++ pick t [] (index_bytes ls)) (sym (eq-eqb left 0 e)) ∙ part_bytes

  pub some_bytes : (left ≡ 0 → ⊥) → private_dict_by x.entries left ++ index_bytes ls ≡ private_part x ls
  some_bytes n = ap (λ (t : Bool). private_dict_by x.entries left ++ pick t [] (index_bytes ls)) (sym (ne_eqb left 0 n)) ∙ part_bytes

  pub dict-within : length (private_dict_by x.entries left) ≤ length (private_part x ls)
  dict-within =
      omega (arith, ap length part_bytes, length-append (private_dict_by x.entries left) (pick (eqb left 0) [] (index_bytes ls)))

  pub some-length : (left ≡ 0 → ⊥) → length (private_dict_by x.entries left) + length (index_bytes ls) ≡ length (private_part x ls)
  some-length n = sym (length-append (private_dict_by x.entries left) (index_bytes ls)) ∙ ap length (some_bytes n)

-- ---- one FD

module _ (way : Way) (b : List ℕ) (p : Program) (rows : List Row) (ws : List ℕ) (own globals : Ranks) (rising : Bool) (f : ℕ)
    (w : FdIn b p ws own globals rows rising f) (q : PrivateAt) (g : GoodPrivate b q × (reads.private_of b q ≡ private_of p f))
    (sum at room : ℕ) (r : PartRoom way p rows ws own globals sum at room f) where
  abbrev new : List (List ℕ)
  new = new_with way p rows ws own globals f

  abbrev bodies_in : List (List ℕ) → List (List ℕ)
  bodies_in l = new_subrs way rows (reached_in ws own) (calls_by ws own globals) (local f) l

  same-items : items_of b q.locals ≡ locals_of p f
  same-items = items_are way b p rows ws own globals rising f w q g

  in_index : holds (subrs_by way rows (reached_in ws own) (calls_by ws own globals) (local f) (items_of b q.locals)) ≡ true
  in_index = ap (λ (l : List (List ℕ)). holds (subrs_by way rows (reached_in ws own) (calls_by ws own globals) (local f) l)) same-items ∙ r.hold

  -- so many are written
  pub new_many : kept_count way own.reached own.count ≡ length new
  new_many =
      let s = subrs_in way b p rows ws own globals rising f w q g in
      let n = new-subrs_many way b ws q.locals own own globals rows rising (Local f) s (calls_by ws own globals) (local f) in_index in
      ap (λ (k : ℕ). kept_count way k own.count) r.counted
      ∙ ap (λ (k : ℕ). kept_count way (count_below (reached_in ws own) k) k) s.many
      ∙ sym n ∙ ap (λ (l : List (List ℕ)). length (bodies_in l)) same-items

  module _ (left : ℕ) (l : left ≡ kept_count way own.reached own.count) where
    many : left ≡ length new
    many = l ∙ new_many

    dict-same : private_dict_by (reads.private_of b q).entries left ≡ private_dict_by (private_of p f).entries left
    dict-same = ap (λ (y : Private). private_dict_by y.entries left) g.1

    pub dict-asked : (length (private_dict_by (reads.private_of b q).entries left) < 2147483648)
        × (at + length (private_dict_by (reads.private_of b q).entries left) ≤ room)
    dict-asked =
        let d = dict-within (private_of p f) new left many in
        let e = ap length dict-same in
        (omega (arith, r.few), omega (arith, r.fits))

    module _ (old mid : List ℕ) (to : ℕ) (o : room ≡ length old) (v : Wrote old at (private_dict_by (reads.private_of b q).entries left) mid to) where
      pub part_none : left ≡ 0 → Wrote old at (part_with way p rows ws own globals f) mid to
      part_none e = wrote_as v (dict-same ∙ none-bytes (private_of p f) new left many e)

      module _ (n : left ≡ 0 → ⊥) where
        same_new : new ≡ many_of (subrs_by way rows (reached_in ws own) (calls_by ws own globals) (local f) (items_of b q.locals))
        same_new =
            sym (ap bodies_in same-items)
            ∙ new-subrs_is way rows (reached_in ws own) (calls_by ws own globals) (local f) (items_of b q.locals)

        pub subrs-room : Room (subrs_by way rows (reached_in ws own) (calls_by ws own globals) (site_in (Local f)) (items_of b q.locals)) sum to (length mid)
        subrs-room =
            let s = some-length (private_of p f) new left many n in
            let t = total-within new in
            let d = ap length dict-same in
            let k : at + length (private_dict_by (reads.private_of b q).entries left) ≤ length old = omega (arith, r.fits) in
            let i = ap (λ (x : List (List ℕ)). length (index_bytes x)) same_new in
            record {
              done = in_index;
              is = r.is ∙ ap total same_new;
              few = omega (arith, r.is, r.few);
              early = omega (arith, v.behind, r.few);
              fits = omega (arith, v.behind, r.fits, wrote-length v k);
            }

        -- what writing them asks
        pub subrs_asked : (to < 4294967296) × (to + length (index_bytes (bodies_in (items_of b q.locals))) ≤ length mid)
        subrs_asked = (
          subrs-room.early,
          subst (λ (l : List (List ℕ)). to + length (index_bytes l) ≤ length mid)
              (sym (new-subrs_is way rows (reached_in ws own) (calls_by ws own globals) (local f) (items_of b q.locals))) subrs-room.fits,
        )

        pub part-some : (out : List ℕ) (last : ℕ) → Wrote mid to (index_bytes (bodies_in (items_of b q.locals))) out last
            → Wrote old at (part_with way p rows ws own globals f) out last
        part-some out last x =
            let h : at ≤ length old = omega (arith, r.fits) in
            wrote_as (wrote_then h (wrote_as v dict-same) (wrote_as x (ap (λ (y : List (List ℕ)). index_bytes (bodies_in y)) same-items)))
            (some_bytes (private_of p f) new left many n)

-- ---- FD by FD

module _ (p : Program) (new : ℕ → List (List ℕ)) where
  parts_last : (fs : List ℕ) (f : ℕ) → private_parts p (fs ++ (f ∷ [])) (mapped new (fs ++ (f ∷ []))) ≡ private_parts p fs (mapped new fs) ++ private_part (private_of p f) (new f)
  unfolding private_parts mapped
  parts_last [] f = append-nil (private_part (private_of p f) (new f))
  parts_last (x ∷ fs) f =
      ap (λ (l : List ℕ). private_part (private_of p x) (new x) ++ l) (parts_last fs f)
      ∙ sym (append_assoc (private_part (private_of p x) (new x)) (private_parts p fs (mapped new fs)) (private_part (private_of p f) (new f)))

module _ (way : Way) (p : Program) (rows : List Row) (ws : List ℕ) (table : List Ranks) (globals : Ranks) (used : List ℕ) where
  abbrev before : ℕ → List ℕ
  before n = parts_for way p rows ws table globals (used_below used n)

  pub parts-start : before 0 ≡ []
  unfolding private_parts those
  parts-start = refl

  pub parts-pass : (n : ℕ) → in_use_lem used n ≡ false → before (n + 1) ≡ before n
  parts-pass n e = ap (parts_for way p rows ws table globals) (unused_next used n e)

  pub parts-take : (n : ℕ) → in_use_lem used n ≡ true → before (n + 1) ≡ before n ++ part_with way p rows ws (ranks_in table n) globals n
  parts-take n e =
      ap (parts_for way p rows ws table globals) (used-next used n e) ∙ parts_last p (new_locals way p rows ws table globals) (used_below used n) n

  parts-grow : (n d : ℕ) → length (before n) ≤ length (before (n + d))
  parts-grow n zero = let e : length (before n) ≡ length (before (n + 0)) = ap (λ (k : ℕ). length (before k)) (let z : n ≡ n + 0 = omega arith in z) in omega arith
  parts-grow n (suc d) =
      let e : length (before (n + suc d)) ≡ length (before (n + d + 1)) = ap (λ (k : ℕ). length (before k)) (let z : n + suc d ≡ n + d + 1 = omega arith in z) in
      let g = go (in_use_lem used (n + d)) refl in
      omega (arith, parts-grow n d)
    where
      go : (t : Bool) → in_use_lem used (n + d) ≡ t → length (before (n + d)) ≤ length (before (n + d + 1))
      go true u =
          omega (arith, ap length (parts-take (n + d) u), length-append (before (n + d)) (part_with way p rows ws (ranks_in table (n + d)) globals (n + d)))
      go false u = omega (arith, ap length (parts-pass (n + d) u))

  -- an FD in use does not fail where none does
  pub holds-one : (f : ℕ) → f < 256 → in_use_lem used f ≡ true → all_hold (locals_by way p rows ws table globals) (fds_in used) ≡ true
      → holds (locals_by way p rows ws table globals f) ≡ true
  holds-one f h u a = go (holds (locals_by way p rows ws table globals f)) refl
    where
      go : (t : Bool) → holds (locals_by way p rows ws table globals f) ≡ t → holds (locals_by way p rows ws table globals f) ≡ true
      go true e = e
      go false e =
          let z : ◌≡◌ {A = Bool} true false = sym a ∙ hold_fails (locals_by way p rows ws table globals) used f 256 h u e in
          absurd (zero_one cc)

  module _ (old totals : List ℕ) (at : ℕ) (room : PartsRoom way p rows ws table globals used totals at (length old)) where
    module _ (mid : List ℕ) (to fd : ℕ) (v : Wrote old at (before fd) mid to) (below : fd ≤ 256) where
      whole : length (before fd) ≤ length (before 256)
      whole =
          let e : length (before (fd + (256 - fd))) ≡ length (before 256) = ap (λ (k : ℕ). length (before k)) (let z : fd + (256 - fd) ≡ 256 = omega arith in z) in
          omega (arith, parts-grow fd (256 - fd))

      pub putting_length : length mid ≡ length old
      putting_length = wrote-length v (omega (arith, whole, room.fits))

    module _ (mid : List ℕ) (to fd : ℕ) (v : Wrote old at (before fd) mid to) (below : fd < 256) (u : in_use_lem used fd ≡ true)
        (own : Ranks) (o : own ≡ ranks_in table fd) where
      next : length (before fd) + length (part_with way p rows ws (ranks_in table fd) globals fd) ≤ length (before 256)
      next =
          let e : length (before (fd + 1 + (255 - fd))) ≡ length (before 256) = ap (λ (k : ℕ). length (before k)) (let z : fd + 1 + (255 - fd) ≡ 256 = omega arith in z) in
          omega (arith, parts-grow (fd + 1) (255 - fd), ap length (parts-take fd u), length-append (before fd) (part_with way p rows ws (ranks_in table fd) globals fd))

      pub putting_room : PartRoom way p rows ws own globals (get_or totals fd 0) to (length mid) fd
      putting_room =
          subst (λ (q : Ranks). PartRoom way p rows ws q globals (get_or totals fd 0) to (length mid) fd) (sym o)
          (record {
            counted = room.counted fd below u;
            hold = holds-one fd below u room.hold;
            is = room.sums fd below u;
            few = omega (arith, next, v.behind, room.few);
            fits = omega (arith, next, v.behind, room.fits, putting_length mid to fd v (omega arith));
          })

      pub putting_take : (out : List ℕ) (last : ℕ) → Wrote mid to (part_with way p rows ws own globals fd) out last → Wrote old at (before (fd + 1)) out last
      putting_take out last x =
          let h : at ≤ length old = omega (arith, room.fits) in
          wrote_as (wrote_then h v (wrote_as x (ap (λ (q : Ranks). part_with way p rows ws q globals fd) o))) (sym (parts-take fd u))

    -- all FDs were passed
    pub putting_done : (mid : List ℕ) (to fd : ℕ) → Wrote old at (before fd) mid to → fd ≡ 256
        → Wrote old at (parts_for way p rows ws table globals (fds_in used)) mid to
    putting_done mid to fd v e = wrote_as v (ap before e)
