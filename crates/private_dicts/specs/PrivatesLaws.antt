-- Laws of the Private DICTs: the one of an FD is what reading got, and one that is written is that of the subset.
use Rattle.std.specs.Prelude.{ℕ, zero, suc, ◌+◌, ◌-◌, ◌≤◌, ◌<◌, ◌≡◌, refl, Bool, true, false, length, take, drop, get_or, Result, Ok, Err}
use Rattle.std.proofs.Math.Path.{sym}
use Rattle.std.proofs.Common.{ap, ◌∙◌, subst, true≢false, arith, eq-eqb, ne_eqb, length-take, length-drop}
use mathlib.Core.List.{List, [], ◌∷◌, ◌++◌, append-nil}
use Rattle.std.proofs.Math.Nat.{min-le_right}
use Rattle.std.proofs.Math.ListN.{length-append}
use Rattle.octets.specs.Pick.{pick}
use Rattle.octets.specs.Octets.{Wrote}
use Rattle.octets.specs.PutLaws.{wrote_as, wrote_then, wrote-length}
use Rattle.octets.specs.Lists.{part_of}
use Rattle.octets.specs.ListLaws.{span}
use Rattle.index.specs.Index.{items_of}
use Rattle.index.specs.IndexLaws.{items-length}
use Rattle.dict.specs.Op.{subrs}
use Rattle.dict.specs.Dict.{Entry, dict_of}
use Rattle.dict.specs.Lookup.{private_in}
use Rattle.dict.proofs.LookupLaws.{entries_are}
use Rattle.dict.specs.Places.{entries_of}
use Rattle.dict_write.specs.Written.{offset_entry, private_bytes}
use Rattle.dict_write.specs.WriteLaws.{subrs-length}
use Rattle.cff.specs.Font.{then, Private, private_at, privates_at, empty_private}
use Rattle.cff.specs.Reads.{fd_private, ReadsPrivate, GoodPrivate, GoodFont, privates_of, program_of}
use Rattle.cff.specs.Reads as reads
use Rattle.cff.specs.ReadsLaws.{privates-split}
use Rattle.cff.specs.declared.font.Font.{Font}
use Rattle.cff.specs.declared.private.PrivateAt.{PrivateAt}
use Rattle.cff.specs.FontLaws.{privates-length}
use Rattle.subset.specs.Kept.{private_of}
use Rattle.subset.specs.Subset.{private_dict}
use Rattle.private_dicts.specs.Privates.{FdRead, subrs_entry, private_dict_by}
use Rattle.refusal.specs.declared.Refusal.{Refusal}

no : ◌≡◌ {A = ℕ} 0 1 → ⊥
no h = omega arith

-- ---- the Private DICT of an FD

-- all were read: one for each FD, each from its bytes
module _ (b : List ℕ) where
  one_at : (g : Result Private Refusal) (h : Result (List Private) Refusal) (ps : List Private) → then g (λ p. then h (λ qs. Ok (p ∷ qs))) ≡ Ok ps
      → (g ≡ Ok (get_or ps 0 empty_private)) × (h ≡ Ok (drop 1 ps))
  one_at (Err m) h ps e = absurd (no cc)
  one_at (Ok p) (Err m) ps e = absurd (no cc)
  one_at (Ok p) (Ok qs) ps e =
      let i : p ∷ qs ≡ ps = cc in (ap (λ (l : List Private). Ok (get_or l 0 empty_private)) i, ap (λ (l : List Private). Ok (drop 1 l)) i)

  behind-first : (ps : List Private) (k : ℕ) → get_or (drop 1 ps) k empty_private ≡ get_or ps (suc k) empty_private
  behind-first [] k = refl
  behind-first (p ∷ ps) k = refl

  pub private-read : (ds : List (List ℕ)) (ps : List Private) → privates_at b ds ≡ Ok ps → (k : ℕ) → k < length ds → fd_private b (get_or ds k []) ≡ Ok (get_or ps k empty_private)
  private-read [] ps e k h = absurd (no (omega arith))
  private-read (d ∷ ds) ps e zero h = (one_at (fd_private b d) (privates_at b ds) ps (sym (privates-split b d ds) ∙ e)).0
  private-read (d ∷ ds) ps e (suc k) h =
      private-read ds (drop 1 ps) (one_at (fd_private b d) (privates_at b ds) ps (sym (privates-split b d ds) ∙ e)).1 k (omega arith)
      ∙ ap Ok (behind-first ps k)

-- what reading a DICT's Private gives where the DICT was read
dict_there : (b d : List ℕ) (x : Result (List Entry) Refusal) (p : Private) → dict_of d ≡ x → then x (λ es. private_at b (private_in es)) ≡ Ok p
    → private_at b (private_in (entries_of d)) ≡ Ok p
dict_there b d (Err n) p e h = absurd (no cc)
dict_there b d (Ok es) p e h = ap (λ (l : List Entry). private_at b (private_in l)) (entries_are d es e) ∙ h

module _ (b d : List ℕ) (f : FdRead b d) where
  named : private_at b (private_in (entries_of d)) ≡ Ok f.private
  named = dict_there b d (dict_of d) f.private refl f.is

  module _ (r : Result PrivateAt Refusal) (h : ReadsPrivate b (private_at b (private_in (entries_of d))) r) where
    -- it is not refused
    pub fd_not_refused : (n : Refusal) → r ≡ Err n → ⊥
    fd_not_refused n e =
        let g : private_at b (private_in (entries_of d)) ≡ Err n = subst (ReadsPrivate b (private_at b (private_in (entries_of d)))) e h in
        let q : Err n ≡ Ok f.private = sym g ∙ named in
        no (let z : ◌≡◌ {A = ℕ} 0 1 = cc in z)

    pub fd-found : (q : PrivateAt) → r ≡ Ok q → GoodPrivate b q × (Ok (reads.private_of b q) ≡ fd_private b d)
    fd-found q e =
        let g = subst (ReadsPrivate b (private_at b (private_in (entries_of d)))) e h in
        (g.0, sym g.1 ∙ named ∙ sym f.is)

got_same : (p q : Private) → ◌≡◌ {A = Result Private Refusal} (Ok p) (Ok q) → p ≡ q
got_same p q e = cc

module _ (b : List ℕ) (f : Font) (g : GoodFont b f) (fd : ℕ) (h : fd < length (program_of b f).privates) where
  -- in a CID-keyed font
  module _ (c : f.cid ≡ true) where
    all_read : privates_at b (items_of b f.dicts) ≡ Ok (program_of b f).privates
    all_read = g.parts.read c

    pub fd-within : fd < f.dicts.count
    fd-within = omega (arith, privates-length b (items_of b f.dicts) (program_of b f).privates all_read, items-length b f.dicts)

    fd_is : fd_private b (get_or (items_of b f.dicts) fd []) ≡ Ok (private_of (program_of b f) fd)
    fd_is = private-read b (items_of b f.dicts) (program_of b f).privates all_read fd (omega (arith, fd-within, items-length b f.dicts))

    pub fd-read : (d : List ℕ) → d ≡ get_or (items_of b f.dicts) fd [] → FdRead b d
    fd-read d e = record { private = private_of (program_of b f) fd; is = ap (fd_private b) e ∙ fd_is }

    pub fd-answer : (d : List ℕ) → d ≡ get_or (items_of b f.dicts) fd [] → (q : PrivateAt) → GoodPrivate b q × (Ok (reads.private_of b q) ≡ fd_private b d)
        → GoodPrivate b q × (reads.private_of b q ≡ private_of (program_of b f) fd)
    fd-answer d e q r = (r.0, got_same (reads.private_of b q) (private_of (program_of b f) fd) (r.1 ∙ ap (fd_private b) e ∙ fd_is))

  -- in a name-keyed one
  only_one : (cid : Bool) → cid ≡ false → (n : ℕ) → n < length (privates_of b cid f.dicts f.private)
      → reads.private_of b f.private ≡ get_or (privates_of b cid f.dicts f.private) n empty_private
  only_one true e n k = absurd (true≢false e)
  only_one false e zero k = refl
  only_one false e (suc n) k = absurd (no (omega arith))

  pub fd-one : f.cid ≡ false → GoodPrivate b f.private × (reads.private_of b f.private ≡ private_of (program_of b f) fd)
  fd-one c = (g.parts.private, only_one f.cid c fd h)

-- ---- a Private DICT that is written

-- it is the subset's
pub private-dict_is : (q : Private) (ls : List (List ℕ)) → private_dict q ls ≡ private_dict_by q.entries (length ls)
unfolding private_dict_by subrs_entry
private-dict_is q ls = refl

module _ (es : List Entry) (left : ℕ) where
  pub none_left : left ≡ 0 → private_bytes es ≡ private_dict_by es left
  unfolding private_dict_by subrs_entry
  none_left e =
      sym (append-nil (private_bytes es))
      ∙ sym (ap (λ (t : Bool). private_bytes es ++ pick t [] (offset_entry subrs (length (private_bytes es) + 6))) (eq-eqb left 0 e))

  pub some_left : (left ≡ 0 → ⊥) → private_bytes es ++ offset_entry subrs (length (private_bytes es) + 6) ≡ private_dict_by es left
  unfolding private_dict_by subrs_entry
  some_left h = sym (ap (λ (t : Bool). private_bytes es ++ pick t [] (offset_entry subrs (length (private_bytes es) + 6))) (ne_eqb left 0 h))

  pub none-length : left ≡ 0 → length (private_bytes es) ≡ length (private_dict_by es left)
  none-length e = ap length (none_left e)

  pub some-length : (left ≡ 0 → ⊥) → length (private_bytes es) + 6 ≡ length (private_dict_by es left)
  some-length h =
      sym (ap length (sym (some_left h)) ∙ length-append (private_bytes es) (offset_entry subrs (length (private_bytes es) + 6))
      ∙ ap (λ (n : ℕ). length (private_bytes es) + n) (subrs-length (length (private_bytes es) + 6)))

  -- there is room for its entries
  pub bytes-room : (n at : ℕ) → at + length (private_dict_by es left) ≤ n → at + length (private_bytes es) ≤ n
  unfolding private_dict_by
  bytes-room n at h = omega (arith, length-append (private_bytes es) (subrs_entry left (length (private_bytes es))))

  module _ (some : left ≡ 0 → ⊥) (old mid : List ℕ) (at p : ℕ) (room : at + length (private_dict_by es left) ≤ length old) (w : Wrote old at (private_bytes es) mid p) where
    -- the offset of the local subroutines, behind Subrs
    pub subrs-offset : p - at + 6 ≡ length (private_bytes es) + 6
    subrs-offset = omega (arith, w.behind)

    pub subrs-small : length (private_dict_by es left) < 2147483648 → p - at + 6 < 2147483648
    subrs-small h = omega (arith, subrs-offset, some-length some)

    -- there is room for Subrs, and then the DICT is whole
    pub subrs-room : p + length (offset_entry subrs (p - at + 6)) ≤ length mid
    subrs-room =
        omega (arith, subrs-length (p - at + 6), w.behind, some-length some, wrote-length w (bytes-room (length old) at room))

    pub subrs-wrote : (new : List ℕ) (q : ℕ) → Wrote mid p (offset_entry subrs (p - at + 6)) new q → Wrote old at (private_dict_by es left) new q
    subrs-wrote new q v =
        let h : at ≤ length old = omega arith in
        wrote_as (wrote_then h w (wrote_as v (ap (offset_entry subrs) subrs-offset))) (some_left some)

-- ---- the bytes of a Private DICT are a part of the font

pub part-few : (b : List ℕ) (start n most : ℕ) → length b ≤ most → length (take n (drop start b)) ≤ most
part-few b start n most h = omega (arith, length-take n (drop start b), length-drop start b, min-le_right n (length (drop start b)))

pub part-asked : (b : List ℕ) (start size left at n : ℕ) → length (private_dict_by (entries_of (part_of b start size)) left) < 2147483648
    → at + length (private_dict_by (entries_of (part_of b start size)) left) ≤ n
    → (length (private_dict_by (entries_of (take (start + size - start) (drop start b))) left) < 2147483648)
    × (at + length (private_dict_by (entries_of (take (start + size - start) (drop start b))) left) ≤ n)
part-asked b start size left at n h k =
    let e : length (private_dict_by (entries_of (take (start + size - start) (drop start b))) left) ≡ length (private_dict_by (entries_of (part_of b start size)) left)
    = ap (λ (d : List ℕ). length (private_dict_by (entries_of d) left)) (span b start size) in
    (omega arith, omega arith)
