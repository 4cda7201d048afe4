-- Laws of the parts of a sheet, once its lines are known to be those of one: each has room in its buffer, and stands in front of it.
use Rattle.std.specs.Prelude.{ℕ, ◌+◌, ◌*◌, ◌%◌, ◌≤◌, ◌≡◌, Bool, true, false, List, [], leb, eqb, length, take, drop, get_or, None, Some, Option}
use Rattle.std.proofs.Math.Path.{refl, ap}
use Rattle.std.proofs.Common.{sym, ◌∙◌, subst, arith, leb-true, append-nil}
use Rattle.octets.specs.Pick.{pick}
use Rattle.octets.specs.PickLaws.{both_hold}
use Rattle.octets.specs.Octets.{Wrote}
use Rattle.octets.specs.PutLaws.{take_put}
use Rattle.hexlines.specs.Hexlines.{octet_of, is_hex_lem, spelt}
use Rattle.hexlines.specs.HexlinesLaws.{spelt-length, spelt-pair}
use Rattle.cases.specs.Lines.{lines_of}
use Rattle.sheet.specs.Sheet.{hex_up_to, is_kept, hex_of, filled, are_rows, row_bytes, pairs, is_sheet_lem, sheet_in, sheet_of}
use Rattle.sheet.specs.Reading.{HeadIs, parts, is_sheet_at, sheet_at, Stands, Reads}
use Rattle.sheet.specs.ReadingLaws.{hex-of}
use Rattle.sheet.specs.declared.reading.Head.{Head}
use Rattle.sheet.specs.declared.reading.Parts.{Parts}

-- ---- a line

pub up_to_room : (n : ℕ) (l : List ℕ) → hex_up_to n l ≡ true → (is_hex_lem l ≡ true) × (length (spelt l) ≤ n)
unfolding hex_up_to
up_to_room n l e =
    let p = both_hold (leb (length l) (2 * n)) (is_hex_lem l) e in
    (p.1, omega (arith, leb-true (length l) (2 * n) p.0, spelt-length l p.1))

pub kept-room : (l : List ℕ) → is_kept l ≡ true → (is_hex_lem l ≡ true) × (length (spelt l) ≤ 2048)
unfolding is_kept
kept-room l e = up_to_room 2048 l (both_hold (eqb (length l % 4) 0) (hex_up_to 2048 l) e).1

-- what was written stands in front
pub in_front : {old new bs : List ℕ} {q : ℕ} → Wrote old 0 bs new q → take (length bs) new ≡ bs
in_front {old} {new} {bs} {q} w =
    let n : length bs ≡ 0 + length bs = omega arith in
    ap (λ (j : ℕ). take j new) n ∙ ap (take (0 + length bs)) w.is ∙ take_put old 0 bs (omega arith)

pub many : {old new bs : List ℕ} {q : ℕ} → Wrote old 0 bs new q → q ≡ length bs
many w = omega (arith, w.behind)

pub in_front_as : {old new bs : List ℕ} {q : ℕ} (cs : List ℕ) → Wrote old 0 bs new q → bs ≡ cs → (take q new ≡ cs) × (take (length cs) new ≡ cs) × (q ≡ length cs)
in_front_as {old} {new} {bs} {q} cs w e =
    let f = in_front w in
    let n : q ≡ length cs = many w ∙ ap length e in
    let g : take (length cs) new ≡ cs = ap (λ (l : List ℕ). take (length l) new) (sym e) ∙ f ∙ e in
    (ap (λ (j : ℕ). take j new) n ∙ g, g, n)

-- ---- the flag

module _ (l : List ℕ) (e : hex_of 2 l ≡ true) where
  pub flag-two : length l ≡ 2
  flag-two = (hex-of l 2 e).0

  pub flag-value : (v : ℕ) → v ≡ octet_of (get_or l 0 0) (get_or l 1 0) → v ≡ get_or (spelt l) 0 0
  flag-value v h = h ∙ sym (ap (λ (t : List ℕ). get_or t 0 0) (ap spelt (sym (append-nil l)) ∙ spelt-pair l [] flag-two))

-- ---- a sheet

-- the lines of a sheet
pub record Fine (h : Head) : Type 0 where
  pub font : hex_up_to 16384 h.font.now ≡ true
  pub name : hex_up_to 256 h.name.now ≡ true
  pub keep : is_kept h.keep.now ≡ true
  pub flag : hex_of 2 h.flag.now ≡ true
  pub rows : are_rows (filled (lines_of h.rows.now)) ≡ true

pub fine : (h : Head) → is_sheet_at h ≡ true → Fine h
unfolding is_sheet_at is_sheet_lem
fine h e =
    let p = both_hold (hex_up_to 16384 h.font.now) _ e in
    let q = both_hold (hex_up_to 256 h.name.now) _ p.1 in
    let r = both_hold (is_kept h.keep.now) _ q.1 in
    let s = both_hold (hex_of 2 h.flag.now) _ r.1 in
    record { font = p.0; name = q.0; keep = r.0; flag = s.0; rows = s.1 }

-- its parts were written
pub stands : (h : Head) {font font' name name' keep keep' rec rec' : List ℕ} {m n k l flag : ℕ}
    → Wrote font 0 (spelt h.font.now) font' m → Wrote name 0 (spelt h.name.now) name' n
    → Wrote keep 0 (pairs (spelt h.keep.now)) keep' k → flag ≡ get_or (spelt h.flag.now) 0 0
    → Wrote rec 0 (row_bytes (filled (lines_of h.rows.now))) rec' l → Stands (sheet_at h) font' name' keep' rec' (Some (parts m n k l flag))
unfolding sheet_at
stands h w x y e z =
    let p = many w in
    let q = many x in
    let r = many y in
    let t = many z in
    record { answer = cc (p, q, r, t, e); font_is = in_front w; name_is = in_front x; keep_is = in_front y; rec_is = in_front z }

-- what the answer says of the first lines
module _ (text : List ℕ) (o : Option Head) (s : HeadIs text o) where
  pub short-told : o ≡ None → sheet_of text ≡ None
  unfolding HeadIs
  short-told e = subst (λ (x : Option Head). HeadIs text x) e s

  module _ (h : Head) (e : o ≡ Some h) where
    sheet-four : sheet_of text ≡ pick (is_sheet_at h) (Some (sheet_at h)) None
    unfolding HeadIs sheet_of sheet_in is_sheet_at sheet_at
    sheet-four = ap sheet_in (subst (λ (x : Option Head). HeadIs text x) e s)

    pub reads-parts : (font name keep rec : List ℕ) (r : Option Parts) → is_sheet_at h ≡ true → Stands (sheet_at h) font name keep rec r
        → Reads (sheet_of text) font name keep rec r
    unfolding Reads
    reads-parts font name keep rec r t w =
        let m : sheet_of text ≡ Some (sheet_at h) = sheet-four ∙ ap (λ (b : Bool). pick b (Some (sheet_at h)) None) t in
        rw m w

    pub reads_not : (font name keep rec : List ℕ) → is_sheet_at h ≡ false → Reads (sheet_of text) font name keep rec None
    unfolding Reads
    reads_not font name keep rec t =
        let m : sheet_of text ≡ None = sheet-four ∙ ap (λ (b : Bool). pick b (Some (sheet_at h)) None) t in
        rw m refl

pub reads_other : (text font name keep rec : List ℕ) → sheet_of text ≡ None → Reads (sheet_of text) font name keep rec None
unfolding Reads
reads_other text font name keep rec e = rw e refl
