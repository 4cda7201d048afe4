-- Laws of subroutines as they are written, as values that hold their bytes.
use Rattle.std.specs.Prelude.{ℕ, ◌+◌, ◌*◌, ◌≤◌, ◌<◌, ◌≡◌, refl, Bool, true, false, List, [], length, get_or, Option, Some}
use Rattle.std.proofs.Common.{sym, ap, ◌∙◌, subst, arith}
use Rattle.octets.specs.Octets.{bytes_of}
use Rattle.octets.specs.declared.out.Out.{Out}
use Rattle.octets.specs.Out.{Writes}
use Rattle.octets.specs.OutLaws.{writes_as}
use Rattle.bits.specs.Bits.{count_below}
use Rattle.index.specs.Write.{index_bytes}
use Rattle.index.specs.Index.{items_of}
use Rattle.unfold.specs.Unfold.{Row}
use Rattle.prune.specs.Renumber.{Calls}
use Rattle.record.specs.Record.{rows_of}
use Rattle.unfold.specs.Sites.{site_of}
use Rattle.subset.specs.Kept.{those}
use Rattle.subset.specs.Pruned.{each}
use Rattle.renumber.specs.Ranks.{calls_by}
use Rattle.renumber.specs.Turn.{sized_of, body_of_lem}
use Rattle.renumber.specs.Bodies.{calls_of}
use Rattle.renumber.specs.declared.body.Body.{Body}
use Rattle.long_bodies.specs.Offsets.{Sited}
use Rattle.bodies.specs.Ways.{many_of, holds, measured_of, by_way, new_by_way, reached_in, site_in, is_stub, kept_count, Room}
use Rattle.bodies.specs.Sizes.{AtMost}
use Rattle.bodies.specs.CodeLaws.{by_way-reads, stub_len, stub_room, stub_writes, body_is}
use Rattle.bodies.specs.SizesLaws.{at_most_more}
use Rattle.bodies.specs.WindowsLaws.{sited_subr}
use Rattle.bodies.specs.SubrsLaws.{index-each, index_many, new-body_is, new-subrs_is}
use Rattle.bodies.specs.Written.{kept_of, subr_of, subrs_of, new_subrs_of, written, Bodied}
use Rattle.bodies.specs.Measured.{Adds}
use Rattle.bodies.specs.declared.subrs.Source.{Source}
use Rattle.bodies.specs.declared.subroutines.Subroutines.{Subroutines}
use Rattle.bodies.specs.declared.subroutines.Subr.{Subr}
use Rattle.bodies.specs.declared.measured.Measured.{Measured}

module _ (all : Subroutines) where
  -- those that are written, each by its number
  pub written-each : subrs_of all ≡ each (subr_of all) (those (kept_of all) all.from.ix.count 0)
  written-each =
      index-each all.from.way all.font.now all.words.now all.from.ix all.from.own all.from.locals all.from.globals (rows_of all.rows.now) all.from.rising all.from.of all.sourced
      (calls_by all.words.now all.from.locals all.from.globals) (site_in all.from.of)

  pub written-measured : measured_of (each (subr_of all) (those (kept_of all) all.from.ix.count 0)) ≡ measured_of (subrs_of all)
  written-measured = ap measured_of (sym written-each)

  -- of which none fails
  pub new-written : new_subrs_of all ≡ many_of (subrs_of all)
  new-written =
      new-subrs_is all.from.way (rows_of all.rows.now) (reached_in all.words.now all.from.own) (calls_by all.words.now all.from.locals all.from.globals) (site_in all.from.of)
      (items_of all.font.now all.from.ix)

-- how many are written
pub written-count : (m : Measured) → kept_count m.all.from.way m.all.from.own.reached m.all.from.ix.count ≡ count_below (kept_of m.all) m.all.from.ix.count
written-count m =
    let all = m.all in
    index_many all.from.way all.font.now all.words.now all.from.ix all.from.own all.from.locals all.from.globals (rows_of all.rows.now) all.from.rising all.from.of all.sourced
    (calls_by all.words.now all.from.locals all.from.globals) (site_in all.from.of) m.adds.counted

-- room for their INDEX
pub measured_room : (m : Measured) {at n : ℕ} → at < 4294967296 → at + length (index_bytes (new_subrs_of m.all)) ≤ n → Room (subrs_of m.all) m.total at n
measured_room m {at} {n} early fits =
    record {
      done = m.adds.done;
      is = m.adds.is;
      few = m.adds.few;
      early = early;
      fits = subst (λ (l : List (List ℕ)). at + length (index_bytes l) ≤ n) (new-written m.all) fits;
    }

-- what is asked of subroutines that were measured
pub room_adds : (all : Subroutines) {sum at n : ℕ} → all.from.own.reached ≡ count_below (reached_in all.words.now all.from.own) all.from.own.count → Room (subrs_of all) sum at n → Adds all sum
room_adds all counted room = record { counted = counted; done = room.done; is = room.is; few = room.few }

-- ---- one of them

module _ (one : Subr) where
  abbrev from : Source
  from = one.of.now.from

  abbrev rows : List Row
  rows = rows_of one.of.now.rows.now

  abbrev set : ℕ → Bool
  set = reached_in one.of.now.words.now from.own

  abbrev calls : Calls
  calls = calls_by one.of.now.words.now from.locals from.globals

  abbrev items : List (List ℕ)
  items = items_of one.of.now.font.now from.ix

  -- it is a return
  module _ (e : is_stub from.way set one.k ≡ true) where
    pub return_len : (Some 1 ≡ sized_of (written one)) × (1 ≤ 335544320)
    return_len = stub_len from.way rows set calls from.of items one.k e

    pub return_room : (at n : ℕ) → at + length (body_of_lem (written one)) ≤ n → at + 1 ≤ n
    return_room = stub_room from.way rows set calls from.of items one.k e

    pub return_writes : {old new : Out} → Writes old (bytes_of 1 11) new → Writes old (body_of_lem (written one)) new
    return_writes w = stub_writes from.way rows set calls from.of items one.k e w

  -- it is a body by the way
  module _ {b : Body} (w : Bodied one from.locals from.globals b) where
    -- its rows can be taken by windows
    pub written_sited : Sited b.site
    written_sited = sited_subr b.site from.of one.k w.1 (omega (arith, one.there, one.of.now.sourced.few))

    module _ (e : is_stub from.way set one.k ≡ false) where
      body_written : by_way from.way b ≡ written one
      body_written = by_way-reads from.way w.0 ∙ body_is from.way rows set calls from.of items one.k (site_of b.site) (get_or items one.k []) w.1 refl e

      new_written : new_by_way from.way b ≡ body_of_lem (written one)
      new_written = new-body_is from.way (rows_of b.rows.bytes.now) (calls_of b) (site_of b.site) b.code.now ∙ ap body_of_lem body_written

      pub written-len : {r : Option ℕ} → (r ≡ sized_of (by_way from.way b)) × AtMost (5 * length b.code.now) r → (r ≡ sized_of (written one)) × AtMost 335544320 r
      written-len {r} h = (h.0 ∙ ap sized_of body_written, at_most_more (5 * length b.code.now) 335544320 (omega (arith, b.inputs.size)) r h.1)

      pub written_room : (at n : ℕ) → holds (written one) ≡ true → at + length (body_of_lem (written one)) ≤ n
          → (holds (by_way from.way b) ≡ true) × (at + length (new_by_way from.way b) ≤ n)
      written_room at n h l = (ap holds body_written ∙ h, subst (λ (x : List ℕ). at + length x ≤ n) (sym new_written) l)

      pub written_writes : {old new : Out} → Writes old (new_by_way from.way b) new → Writes old (body_of_lem (written one)) new
      written_writes v = writes_as v new_written
