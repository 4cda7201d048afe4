-- The Private parts of the FDs in use as the plan left them: what their measures and writers ask, and that what is measured and written is
-- the subset's.
use Rattle.std.specs.Prelude.{ℕ, zero, suc, ◌+◌, ◌*◌, ◌≤◌, ◌<◌, ◌≡◌, Bool, true, false, List, [], ◌∷◌, eqb, length, take, drop, get_or}
use Rattle.std.proofs.Common.{sym, ap, ◌∙◌, subst, arith, length-append, get_or-take, take_at}
use Rattle.octets.specs.Pick.{pick, pick_ind}
use Rattle.octets.specs.PickLaws.{both_hold}
use Rattle.index.specs.Write.{total, index_bytes, index_len_lem}
use Rattle.index.specs.WriteLaws.{length-index, total-within}
use Rattle.unfold.specs.Unfold.{Row, local}
use Rattle.cff.specs.Font.{Program}
use Rattle.cff.specs.Reads.{program_of}
use Rattle.subset.specs.Kept.{locals_of, private_of}
use Rattle.bits.specs.Bits.{count_below}
use Rattle.subset.specs.Pruned.{mapped, reached, local_set, calls_in}
use Rattle.subset.specs.Subset.{private_dict, private_part, private_parts, font_dicts}
use Rattle.subset.specs.EachLaws.{length-mapped}
use Rattle.order_window.specs.Window.{glyphs_of}
use Rattle.renumber.specs.Ranks.{calls_by}
use Rattle.renumber.specs.declared.Ranks.{Ranks}
use Rattle.bodies.specs.Ways.{holds, new_subrs, subrs_by, subr_by, reached_in, ranks_in, is_kept, kept_count}
use Rattle.bodies.specs.Pruning.{all_hold, bodies_by}
use Rattle.bodies.specs.WritingLaws.{items_many}
use Rattle.bodies.specs.SubrsLaws.{reached-all, subrs-each, new-subrs_is, kept_many}
use Rattle.bodies.specs.RecordLaws.{reached-told}
use Rattle.private_dicts.specs.Privates.{matrices_by, parts_len, dicts_by, font_dicts_by, no_part, Placed, parts_of}
use Rattle.private_dicts.specs.declared.part.Part.{Part}
use Rattle.private_dicts.specs.DictsLaws.{matrices_length, font-dicts_are, dicts_long}
use Rattle.fds.specs.Locals.{in_use_lem, fds_in}
use Rattle.fds.specs.NewLocals.{locals_by, new_locals, LocalsIn}
use Rattle.fds.specs.Parts.{left_in, part_at, PartsFit, SizesParts}
use Rattle.fds.specs.PartsLaws.{used-count, mapped-used, measures_are, parts_are}
use Rattle.fds.specs.ListLaws.{used_there}
use Rattle.fds.specs.NewParts.{Counted, parts_for, PartsRoom}
use Rattle.fds.specs.NewPartsLaws.{holds-one}
use Rattle.plan.specs.Ranked.{Stands}
use Rattle.plan.specs.Sizes.{globals_by, glyphs_by}
use Rattle.plan.specs.StandsLaws.{stands_reached}
use Rattle.plan.specs.WayLaws.{new-locals}
use Rattle.parts.specs.Ready.{bodies_for, Ready, Summed}
use Rattle.parts.specs.declared.Planned.{Planned}
use Rattle.subset.specs.Way.{is_renumbered}

-- ---- tables

-- a Private DICT is no longer than all parts
size-within : (p : Program) (fs : List ℕ) (lss : List (List (List ℕ))) (k : ℕ) → (get_or (parts_of p fs lss) k no_part).size ≤ length (private_parts p fs lss)
unfolding parts_of private_parts
size-within p [] lss k = omega arith
size-within p (f ∷ fs) [] k = omega arith
size-within p (f ∷ fs) (ls ∷ lss) zero =
    omega (
      arith,
      length-append (private_part (private_of p f) ls) (private_parts p fs lss),
      length-append (private_dict (private_of p f) ls) (pick (eqb (length ls) 0) [] (index_bytes ls)),
    )
size-within p (f ∷ fs) (ls ∷ lss) (suc k) =
    omega (arith, length-append (private_part (private_of p f) ls) (private_parts p fs lss), size-within p fs lss k)

module _ (b : List ℕ) (rows : List Row) (used ws : List ℕ) (table : List Ranks) (r : Planned) (ready : Ready b rows used ws r table)
    (totals : List ℕ) (summed : Summed b rows used ws r table totals) where
  abbrev p : Program
  p = program_of b r.order.f

  abbrev locals : List (List (List ℕ))
  locals = (bodies_for b rows used ws r).locals

  -- the new local subroutines of an FD by the words
  abbrev new : ℕ → List (List ℕ)
  new = new_locals r.how.way p rows ws table r.how.globals

  -- those of the FDs in use are the subset's
  new_are : mapped new (fds_in used) ≡ locals
  unfolding bodies_by
  new_are =
      mapped-used new (λ d. new_subrs r.how.way rows (local_set rows d) (calls_in p rows d) (local d) (locals_of p d)) used 256
      (new-locals p ready.read.program rows ready.narrow used ws r.how.globals table ready.ranked
      (glyphs_of b r.order.f ws) ready.within r.how.way ready.numbered)

  -- none of the FDs in use fails
  hold : all_hold (locals_by r.how.way p rows ws table r.how.globals) (fds_in used) ≡ true
  hold =
      let way = r.how.way in
      let globals = r.how.globals in
      let ls = all_hold (locals_by way p rows ws table globals) (fds_in used) in
      let cs = holds (glyphs_by way p rows ws used table globals (glyphs_of b r.order.f ws)) in
      let gs = holds (globals_by way p rows ws used table globals (glyphs_of b r.order.f ws)) in
      (both_hold ls cs (both_hold gs (pick ls cs false) ready.made).1).0

  module _ (d : ℕ) (h : d < 256) (u : in_use_lem used d ≡ true) where
    abbrev own : Ranks
    own = ranks_in table d

    abbrev marks : ℕ → Bool
    marks = reached_in ws own

    -- its ranks stand in the words
    stands : Stands ws own (local_set rows d) (length (locals_of p d))
    stands = ready.ranked.local_ranks d h u

    -- they tell how many of its local subroutines are reached
    counted : Counted ws own
    counted =
        reached-told ws own (local_set rows d)
        (λ k l. stands_reached ws own (local_set rows d) (length (locals_of p d)) stands k (omega (arith, stands.many))) stands.reaches

    -- the tables tell how many new local subroutines it has
    many : left_in r.how.way table d ≡ length (new d)
    many =
        let n = length (locals_of p d) in
        let way = r.how.way in
        let calls = calls_by ws own r.how.globals in
        let c : reached marks ≡ count_below marks n
        = reached-all ws own (ready.asked.locals.ranks d h u).few ∙ ap (count_below marks) stands.many in
        let e = subrs-each way rows marks calls (local d) (locals_of p d) c in
        ap (λ (k : ℕ). kept_count way k own.count) counted ∙ ap (λ (k : ℕ). kept_count way (count_below marks k) k) stands.many
        ∙ kept_many way marks n
        ∙ sym (items_many (subrs_by way rows marks calls (local d) (locals_of p d)) (subr_by way rows marks calls (local d) (locals_of p d)) (is_kept way marks) n e
        (holds-one way p rows ws table r.how.globals used d h u hold))
        ∙ sym (ap length (new-subrs_is way rows marks calls (local d) (locals_of p d)))

  -- the part of an FD by the tables
  abbrev part : ℕ → Part
  part d = part_at p r.how.way table totals d

  -- those of the FDs in use are the subset's
  measures_same : mapped part (fds_in used) ≡ parts_of p (fds_in used) locals
  measures_same = measures_are p new r.how.way table totals used many summed.sums ∙ ap (parts_of p (fds_in used)) new_are

  parts_same : parts_len (mapped part (fds_in used)) ≡ length (private_parts p (fds_in used) locals)
  parts_same =
      parts_are p new r.how.way table totals used many summed.sums
      ∙ ap (λ (l : List (List (List ℕ))). length (private_parts p (fds_in used) l)) new_are

  -- ---- measured

  pub parts_fit : PartsFit p r.how.way table totals used
  parts_fit d h u =
      let k = ready.asked.locals.ranks d h u in
      record {
        few = pick_ind (λ (n : ℕ). n < 65536) (is_renumbered r.how.way) (ranks_in table d).reached (ranks_in table d).count (λ t. k.few_reached) (λ t. k.few);
        short = omega (arith, summed.few d h u);
      }

  module _ {old parts : List Part} {all : ℕ} (s : SizesParts p r.how.way table totals used old parts all) where
    pub all-parts : all ≡ length (private_parts p (fds_in used) locals)
    all-parts = s.together ∙ parts_same

    front_is : take (length (fds_in used)) parts ≡ mapped part (fds_in used)
    front_is =
        ap (take (length (fds_in used))) s.parts
        ∙ take_at (mapped part (fds_in used)) (drop (length (fds_in used)) old) (length (fds_in used)) (length-mapped part (fds_in used))

    pub parts_held : take (length (fds_in used)) parts ≡ parts_of p (fds_in used) locals
    parts_held = front_is ∙ measures_same

    -- ---- Font DICTs, the FDs in use being listed

    module _ {fds : List ℕ} (listed : fds ≡ fds_in used) where
      pub dicts_are : (from : ℕ) → font_dicts_by p fds parts from ≡ font_dicts p from (fds_in used) locals
      dicts_are from =
          ap (λ (l : List ℕ). font_dicts_by p l parts from) listed
          ∙ ap (λ (qs : List Part). dicts_by (matrices_by p (fds_in used)) qs from) parts_held
          ∙ sym (font-dicts_are p from (fds_in used) locals)

      pub dicts-placed : (from : ℕ) → from + length (private_parts p (fds_in used) locals) ≤ 67108864
          → length (index_bytes (font_dicts p from (fds_in used) locals)) ≤ 67108864 → Placed p fds parts from
      dicts-placed from small few =
          let e : length (mapped part (fds_in used)) ≡ length (fds_in used) = length-mapped part (fds_in used) in
          let i = ap length s.parts ∙ length-append (mapped part (fds_in used)) (drop (length (fds_in used)) old) in
          subst (λ (l : List ℕ). Placed p l parts from) (sym listed)
          (record {
            short = omega (arith, ap total (listed_are from), total-within (font_dicts p from (fds_in used) locals));
            long = omega arith;
            small = λ k l.
                let v : (get_or parts k no_part).size ≡ (get_or (parts_of p (fds_in used) locals) k no_part).size
                = ap (λ (q : Part). q.size) (sym (get_or-take (length (fds_in used)) parts k no_part l) ∙ ap (λ (x : List Part). get_or x k no_part) parts_held) in
                omega (arith, size-within p (fds_in used) locals k);
            ends = let v : parts_len (take (length (fds_in used)) parts) ≡ length (private_parts p (fds_in used) locals) = ap parts_len front_is ∙ parts_same in omega arith;
          })
        where
          listed_are : (x : ℕ) → font_dicts_by p (fds_in used) parts x ≡ font_dicts p x (fds_in used) locals
          listed_are x = ap (λ (l : List ℕ). font_dicts_by p l parts x) (sym listed) ∙ dicts_are x

  -- they are FDs of the font, and few
  module _ {fds : List ℕ} (listed : fds ≡ fds_in used) where
    pub array_few : length fds ≤ 256
    array_few = omega (arith, ap length listed, used-count used 256)

    pub array_there : (k : ℕ) → k < length fds → get_or fds k 0 < length p.privates
    array_there =
        subst (λ (l : List ℕ). (k : ℕ) → k < length l → get_or l k 0 < length p.privates) (sym listed)
        (used_there used (length p.privates) ready.asked.tables.fds)

  -- their INDEX is as long wherever the Privates stand
  pub dicts-length : (from : ℕ) → length (index_bytes (font_dicts p from (fds_in used) locals))
      ≡ index_len_lem (length (fds_in used)) (total (matrices_by p (fds_in used)) + 11 * length (fds_in used))
  dicts-length from =
      let ms = matrices_by p (fds_in used) in
      let qs = parts_of p (fds_in used) locals in
      let o : length ms ≡ length (fds_in used) = matrices_length p (fds_in used) in
      let m : length qs ≡ length (fds_in used)
      = ap length (sym measures_same) ∙ length-mapped part (fds_in used) in
      let k = dicts_long ms qs from (m ∙ sym o) in
      ap (λ (x : List (List ℕ)). length (index_bytes x)) (font-dicts_are p from (fds_in used) locals) ∙ length-index (dicts_by ms qs from)
      ∙ ap (λ (x : ℕ). index_len_lem x (total (dicts_by ms qs from))) (k.0 ∙ o)
      ∙ ap (index_len_lem (length (fds_in used))) (k.1 ∙ ap (λ (x : ℕ). total ms + 11 * x) o)

  -- ---- written

  pub privates_are : parts_for r.how.way p rows ws table r.how.globals (fds_in used) ≡ private_parts p (fds_in used) locals
  privates_are = ap (private_parts p (fds_in used)) new_are

  pub privates-asked : (at room : ℕ) → at + length (private_parts p (fds_in used) locals) ≤ 67108864 → at + length (private_parts p (fds_in used) locals) ≤ room
      → LocalsIn p used ws table r.how.globals rows r.how.rising
      × PartsRoom r.how.way p rows ws table r.how.globals used totals at room
  privates-asked at room small fits =
      let e = ap length privates_are in (
        ready.asked.locals,
        record {
          counted = counted;
          hold = hold;
          totals_long = summed.long;
          sums = summed.sums;
          few = omega arith;
          fits = omega arith;
        },
      )
