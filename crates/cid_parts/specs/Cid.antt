-- A CID-keyed subset over what the code holds (document 01, 'Layout'): the places of its parts, and the parts in three groups, as they are
-- written.
use Rattle.std.specs.Prelude.{ℕ, ◌+◌, ◌*◌, ◌≤◌, ◌<◌, ◌≡◌, true, List, ◌++◌, ltb, length, take}
use Rattle.octets.specs.Pick.{pick}
use Rattle.index.specs.Write.{index_bytes, index_len_lem}
use Rattle.unfold.specs.Unfold.{Row}
use Rattle.charset.specs.CharsetBytes.{charset_bytes, charset_len}
use Rattle.charset.specs.FdSelectBytes.{fd_select_bytes}
use Rattle.cff.specs.Font.{Program}
use Rattle.cff.specs.Reads.{program_of}
use Rattle.subset.specs.Kept.{fds_of}
use Rattle.subset.specs.Pruned.{Bodies}
use Rattle.subset.specs.Subset.{private_parts, font_dicts, own_by_cid, cids_of, new_fds, subset_by_cid}
use Rattle.subset.specs.Cut.{Outcome, refused, subset}
use Rattle.order_window.specs.Window.{glyphs_of}
use Rattle.glyph_tables.specs.Tables.{new_fds_by, Numbered}
use Rattle.renumber.specs.declared.Ranks.{Ranks}
use Rattle.private_dicts.specs.Privates.{font_dicts_by, Placed}
use Rattle.private_dicts.specs.declared.part.Part.{Part}
use Rattle.fds.specs.Locals.{fds_in}
use Rattle.own_strings.specs.declared.Own.{Own}
use Rattle.own_strings.specs.declared.slots.Slot.{Slot}
use Rattle.front.specs.Front.{SlotsReady, Measured, front_bytes}
use Rattle.parts.specs.Ready.{bodies_for, Ready, Summed}
use Rattle.record.specs.Record.{rows_of}
use Rattle.parts.specs.declared.Planned.{Planned}
use Rattle.order_window.specs.declared.Order.{Order}
use Rattle.outcome.specs.declared.tables.Parts.{Parts}
use Rattle.outcome.specs.Walked.{Walked}
use Rattle.outcome.specs.Layout.{cid_charset, cid_select, cid_glyphs, cid_dicts, cid_privates, cid_end, cid_top}
use Rattle.front.specs.declared.CidPlaces.{CidPlaces}
use Rattle.refusal.specs.declared.Refusal.TheVariants.{Subset, Output}
use Rattle.subset.specs.declared.Way.{Way}

-- ---- outcome

-- a subset by its length: refusals 10 and 11, or the way and the bytes
abbrev pub sized : Way → List ℕ → ℕ → Outcome
sized way bs room = pick (ltb 67108864 (length bs)) (refused Subset) (pick (ltb room (length bs)) (refused Output) (subset way bs))

-- ---- strings

-- the own strings, which are few, and the slots that hold their ids
pub record StringsReady (p : Program) (slots : List Slot) (own : Own) : Type 0 where
  pub slotted : SlotsReady p true slots
  pub measured : Measured (own_by_cid p) own
  pub few : own.count ≤ 64609

-- ---- places

-- those of parts of these lengths, one behind the other
abbrev pub places_of : ℕ → ℕ → ℕ → ℕ → ℕ → ℕ → ℕ → CidPlaces
places_of front globals ids select glyphs dicts all =
    record {
      charset = front + globals;
      select = front + globals + ids;
      glyphs = front + globals + ids + select;
      dicts = front + globals + ids + select + glyphs;
      privates = front + globals + ids + select + glyphs + dicts;
      end = front + globals + ids + select + glyphs + dicts + all;
    }

-- with the charset of k glyphs, and the INDEX of so many Font DICTs, which have FontMatrix entries of so many bytes together and a Private
-- of 11 bytes each
unfoldable pub places_by : ℕ → ℕ → ℕ → ℕ → ℕ → ℕ → ℕ → ℕ → CidPlaces
places_by front globals k select glyphs count matrices all =
    places_of front globals (charset_len k) select glyphs (index_len_lem count (matrices + 11 * count)) all

-- as many bytes as numbers hold
pub record PartsSmall (front globals k select glyphs count matrices all : ℕ) : Type 0 where
  pub front-small : front ≤ 844424931000004
  pub globals-small : globals ≤ 281474977000000
  pub some : 0 < k
  pub few : k < 65536
  pub select-small : select ≤ 200000
  pub glyphs-small : glyphs ≤ 281474977000000
  pub fds : count ≤ 256
  pub matrices_small : matrices ≤ 1792000000000
  pub all_small : all ≤ 72059392000000000

-- ---- parts

module _ (b : List ℕ) (rows : List Row) (used ws : List ℕ) (r : Planned) where
  abbrev pub program_in : Program
  program_in = program_of b r.order.f

  abbrev pub written_in : List ℕ
  written_in = glyphs_of b r.order.f ws

  abbrev pub bodies_in : Bodies
  bodies_in = bodies_for b rows used ws r

  -- what is ready: the bodies, and new numbers of the FDs
  pub record CidReady (table : List Ranks) : Type 0 where
    pub ready : Ready b rows used ws r table
    pub keyed : r.order.f.cid ≡ true
    pub some : 0 < r.order.count
    pub numbered : Numbered used (fds_of program_in written_in)
    pub news : new_fds_by used (fds_of program_in written_in) ≡ new_fds program_in (fds_in used) written_in

  -- the parts by which the Font DICTs are written, the first Private part standing at a place
  pub record DictsReady (fds : List ℕ) (parts : List Part) (from : ℕ) : Type 0 where
    pub placed : Placed program_in fds parts from
    pub are : font_dicts_by program_in fds parts from ≡ font_dicts program_in from (fds_in used) bodies_in.locals

  -- the Private parts from a place on are within what a subset may have
  abbrev pub PrivatesEnd : ℕ → Type 0
  PrivatesEnd from = from + length (private_parts program_in (fds_in used) bodies_in.locals) ≤ 67108864

  -- the subset, and the places of its parts
  unfoldable pub cid_bytes : List ℕ → List ℕ
  cid_bytes name = subset_by_cid program_in name (fds_in used) written_in bodies_in

  unfoldable pub cid_places : List ℕ → CidPlaces
  cid_places name =
      record {
        charset = cid_charset program_in name (fds_in used) written_in bodies_in;
        select = cid_select program_in name (fds_in used) written_in bodies_in;
        glyphs = cid_glyphs program_in name (fds_in used) written_in bodies_in;
        dicts = cid_dicts program_in name (fds_in used) written_in bodies_in;
        privates = cid_privates program_in name (fds_in used) written_in bodies_in;
        end = cid_end program_in name (fds_in used) written_in bodies_in;
      }

  -- front, globals and charset
  unfoldable pub head_bytes : List ℕ → List ℕ
  head_bytes name =
      front_bytes (cid_end program_in name (fds_in used) written_in bodies_in) name (cid_top program_in name (fds_in used) written_in bodies_in) (own_by_cid program_in)
      ++ (index_bytes bodies_in.globals ++ charset_bytes (cids_of program_in written_in))

  -- FDSelect and charstrings
  unfoldable pub glyph_bytes : List ℕ
  glyph_bytes = fd_select_bytes (new_fds program_in (fds_in used) written_in) ++ index_bytes bodies_in.charstrings

  -- the FD INDEX and the Private parts, of which the first stands at a place
  unfoldable pub tail_bytes : ℕ → List ℕ
  tail_bytes from = index_bytes (font_dicts program_in from (fds_in used) bodies_in.locals) ++ private_parts program_in (fds_in used) bodies_in.locals

-- ---- a subset

-- what it is written from: the bodies and the numbers of the FDs are ready, the strings counted, and it is the plan's glyphs that are kept
pub record PartsReady (b ws : List ℕ) (o : Order) (parts : Parts) : Type 0 where
  pub cid : CidReady b (rows_of parts.rows.now) parts.used.now ws parts.cut.plan parts.table.now
  pub summed : Summed b (rows_of parts.rows.now) parts.used.now ws parts.cut.plan parts.table.now parts.totals.now
  pub strings : StringsReady (program_of b parts.cut.plan.order.f) (take 8 parts.slots.now) parts.cut.own
  pub short : length parts.name.now ≤ 65535
  pub counted : parts.cut.count ≡ length (fds_in parts.used.now)
  pub walked : Walked o parts.cut.plan.order
