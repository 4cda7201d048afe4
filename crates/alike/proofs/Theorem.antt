-- Unused letters leave no trace, proved (document 02, Wish 8): no test of a call and no part of a subset asks for an unkept charstring or for a body that the
-- record does not list, and none asks where a part stood.
use Rattle.std.specs.Prelude.{ℕ, ◌≡◌, refl, Bool, true, false, List, ltb, length, Option, Result}
use Rattle.std.proofs.Common.{sym, ap, ◌∙◌}
use Rattle.octets.specs.Pick.{pick}
use Rattle.octets.specs.Lists.{all_below}
use Rattle.dict.specs.Lookup.{ros_in, cid_keyed}
use Rattle.dict.specs.declared.RosEntry.{RosEntry}
use Rattle.record.specs.Record.{rows_of, record_fine}
use Rattle.cff.specs.Font.{Program}
use Rattle.subset.specs.Kept.{kept_of, written_order, used_fds}
use Rattle.subset.specs.Pruned.{Pruned, local_set, pruned}
use Rattle.subset.specs.Codes.{Coded, coded_if, pair_count}
use Rattle.subset.specs.Subset.{subset_bytes}
use Rattle.subset.specs.Cut.{Outcome, refused, subset, all_found_lem, has_ros_lem, same_bool_lem, own_of, unsupported_in, written, cut_program, cut_read, cut_with}
use Rattle.alike.specs.Alike.{Alike, SameReply, CountsAlone, NoTrace, NoTraceCopied}
use Rattle.alike.specs.CountsLaws.{alike_counts}
use Rattle.alike.proofs.TopLaws.{keyed-same, ros-same, unsupported-same, own_same, order_alike, used-same, found-same, coded-same}
use Rattle.alike.proofs.PartsLaws.{bytes_same}
use Rattle.alike.proofs.BodiesLaws.{pruned-same, copied-same}
use Rattle.refusal.specs.declared.Refusal.{Refusal}
use Rattle.refusal.specs.declared.Refusal.TheVariants.{Malformed, Unsupported, TooLong, NoSuchNumber, NotFound, BadRecord, Work, Subset, Output, StringId, Pairs}
use Rattle.subset.specs.declared.Way.{Way}

-- ---- the outcome by what its tests ask

-- from 9 passed on
abbrev written_by : ℕ → ℕ → ℕ → List ℕ → Way → Outcome
written_by own pairs room bytes way =
    pick (ltb 64609 own) (refused StringId)
    (pick (ltb 255 pairs) (refused Pairs)
    (pick (ltb 67108864 (length bytes)) (refused Subset)
    (pick (ltb room (length bytes)) (refused Output)
    (subset way bytes))))

-- the tests before, and what comes behind them
abbrev tested : Bool → Bool → Bool → Bool → Bool → Bool → Bool → Bool → Outcome → Outcome
tested keyed unsupported ros long below found fine few behind =
    pick keyed
    (pick unsupported (refused Unsupported)
    (pick ros
    (pick long (refused TooLong)
    (pick below
    (pick found
    (pick fine
    (pick few (refused Work) behind)
    (refused BadRecord)) (refused NotFound)) (refused NoSuchNumber))) (refused Malformed))) (refused Unsupported)

module _ {keep : List ℕ} {global : ℕ → Bool} {local : ℕ → ℕ → Bool} {p q : Program} (a : Alike keep global local p q) where
  abbrev kept : List ℕ
  kept = kept_of (length p.charstrings) keep

  abbrev order : List ℕ
  order = written_order p kept

  -- what is written of the same bodies and codes
  written_same : (coded : Coded) (name : List ℕ) (room : ℕ) (b : Pruned) → written p coded name kept order room b ≡ written q coded name kept order room b
  written_same coded name room b =
      ap (λ (l : List (List ℕ)). written_by (length l) (pair_count coded) room (subset_bytes p coded name kept order b.bodies) b.way) (own_same a order)
      ∙ ap (λ (bs : List ℕ). written_by (length (own_of q order)) (pair_count coded) room bs b.way) (bytes_same a coded name kept order b.bodies)

  module _ (size : Program → ℕ) (counts : CountsAlone size) (cid ask : Bool) (name rec : List ℕ) (flag words room : ℕ) where
    -- the cut of a font, its kept glyphs, their order and the FDs in use being given
    abbrev behind : Program → List ℕ → List ℕ → List ℕ → Outcome
    behind x k o u = written x (coded_if ask x k (own_of x o)) name k o room (pruned x (rows_of rec) u o flag)

    -- where the bodies are the same
    module _ (bodies : pruned p (rows_of rec) (used_fds p kept) order flag ≡ pruned q (rows_of rec) (used_fds p kept) order flag) where
      behind-same : behind p kept order (used_fds p kept) ≡ behind q kept order (used_fds p kept)
      behind-same =
          ap (λ (l : List (List ℕ)). written p (coded_if ask p kept l) name kept order room (pruned p (rows_of rec) (used_fds p kept) order flag)) (own_same a order)
          ∙ (ap (λ (c : Coded). written p c name kept order room (pruned p (rows_of rec) (used_fds p kept) order flag)) (coded-same a ask kept (own_of q order))
          ∙ (ap (written p (coded_if ask q kept (own_of q order)) name kept order room) bodies
          ∙ written_same (coded_if ask q kept (own_of q order)) name room (pruned q (rows_of rec) (used_fds p kept) order flag)))

      -- and by the order and the FDs in use of the other font
      behind_other : behind p kept order (used_fds p kept) ≡ behind q kept (written_order q kept) (used_fds q kept)
      behind_other =
          behind-same
          ∙ (ap (λ (o : List ℕ). behind q kept o (used_fds p kept)) (order_alike a kept) ∙ ap (behind q kept (written_order q kept)) (used-same a kept))

      program-alike : cut_program size cid ask p name keep rec flag words room ≡ cut_program size cid ask q name keep rec flag words room
      program-alike =
          let keyed = same_bool_lem cid (cid_keyed q.top) in
          let unsupported = unsupported_in ask q in
          let ros_of : Option RosEntry → Bool = λ r. pick cid (has_ros_lem r) true in
          let ros = ros_of (ros_in q.top) in
          let long = ltb 65535 (length name) in
          let below = all_below (length p.charstrings) keep in
          let fine = record_fine cid rec flag in
          let cut = behind p kept order (used_fds p kept) in
          ap (λ (t : Bool). tested (same_bool_lem cid t) (unsupported_in ask p) (ros_of (ros_in p.top)) long below (all_found_lem p kept) fine (ltb words (size p)) cut)
          (keyed-same a)
          ∙ (ap (λ (t : Bool). tested keyed t (ros_of (ros_in p.top)) long below (all_found_lem p kept) fine (ltb words (size p)) cut) (unsupported-same a ask)
          ∙ (ap (λ (r : Option RosEntry). tested keyed unsupported (ros_of r) long below (all_found_lem p kept) fine (ltb words (size p)) cut) (ros-same a)
          ∙ (ap (λ (t : Bool). tested keyed unsupported ros long below t fine (ltb words (size p)) cut) (found-same a kept)
          ∙ (ap (λ (s : ℕ). tested keyed unsupported ros long below (all_found_lem q kept) fine (ltb words s) cut) (counts p q (alike_counts a))
          ∙ (ap (tested keyed unsupported ros long below (all_found_lem q kept) fine (ltb words (size q))) behind_other
          ∙ ap (λ (m : ℕ). let k = kept_of m keep in tested keyed unsupported ros long (all_below m keep) (all_found_lem q k) fine (ltb words (size q))
          (behind q k (written_order q k) (used_fds q k))) a.charstrings.many)))))

-- programs whose calls have the same outcome, and the fonts that are read as them
reads-alike : (size : Program → ℕ) (p q : Program) (keep rec : List ℕ) (flag : ℕ)
    → ((cid ask : Bool) (name : List ℕ) (words room : ℕ) → cut_program size cid ask p name keep rec flag words room ≡ cut_program size cid ask q name keep rec flag words room)
    → SameReply size p q keep rec flag
unfolding cut_with
reads-alike size p q keep rec flag same cid ask font font' name words room e f =
    ap (λ (g : Result Program Refusal). cut_read size cid ask g name keep rec flag words room) e
    ∙ (same cid ask name words room ∙ sym (ap (λ (g : Result Program Refusal). cut_read size cid ask g name keep rec flag words room) f))

-- THE THEOREM, for flag 1
pub no_trace : (size : Program → ℕ) → CountsAlone size → NoTrace size
no_trace size counts p q keep rec flag h a =
    reads-alike size p q keep rec flag
    (λ cid ask name words room. program-alike a size counts cid ask name rec flag words room
    (pruned-same a (rows_of rec) (λ k t. t) (λ f k u t. ap (λ (s : Bool). pick s (local_set (rows_of rec) f k) false) u ∙ t) flag h))

-- and for flag 0
pub no_trace_copied : (size : Program → ℕ) → CountsAlone size → NoTraceCopied size
no_trace_copied size counts p q keep rec a =
    reads-alike size p q keep rec 0
    (λ cid ask name words room. program-alike a size counts cid ask name rec 0 words room (copied-same a (rows_of rec) (λ k. refl) (λ f k u. u)))
