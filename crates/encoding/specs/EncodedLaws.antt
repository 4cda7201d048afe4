-- Laws of what a subset has: by the encoding of the font, and how many bytes it has and where it points.
use Rattle.std.specs.Prelude.{ℕ, ◌≤◌, ◌≡◌, refl, Bool, true, false, List, ◌++◌, eqb, length, get_or, replicate, None, Option}
use Rattle.std.proofs.Common.{sym, ap, ◌∙◌, arith, eq-eqb, ne_eqb}
use Rattle.std.proofs.Math.ListN.{get_or-append}
use Rattle.octets.specs.Pick.{pick}
use Rattle.charset.specs.Codes.{namings_at}
use Rattle.cff.specs.Font.{Program, custom, coding_at}
use Rattle.cff.specs.Reads.{program_of}
use Rattle.cff.specs.declared.font.Font.{Font}
use Rattle.subset.specs.Codes.{Coded, none, pairs, pairs_from, coded_by_lem, pair_count, coded_bytes, coded_at}
use Rattle.codes.specs.Filled.{filled}
use Rattle.codes.specs.FilledLaws.{filled-empty}
use Rattle.encoding.specs.Encoded.{pairs_of, pairs_in, coded_in, Encodes, encoding_len, offset_for, Renames}
use Rattle.encoding.specs.PairLaws.{pair-bytes-length, pairs-same, pairs_alike}
use Rattle.encoding.specs.declared.Encoding.{Encoding}
use Rattle.encoding.specs.declared.Encoding.TheVariants.{Absent, Expert, Pairs}

-- ---- made

-- by the offset of the font's encoding
coding_pairs : (b : List ℕ) (v : ℕ) → 2 ≤ v → coding_at b v ≡ custom (namings_at b v)
unfolding coding_at
coding_pairs b v h =
    let z : eqb v 0 ≡ false = ne_eqb v 0 (λ e. omega arith) in
    let o : eqb v 1 ≡ false = ne_eqb v 1 (λ e. omega arith) in
    rw (z, o) refl

module _ (b : List ℕ) (v : ℕ) (p : Program) (kept : List ℕ) (own : List (List ℕ)) (table : List (Option ℕ)) where
  pub encodes-standard : v ≡ 0 → Encodes (coded_by_lem p kept own (coding_at b v)) table Absent
  unfolding coding_at coded_by_lem
  encodes-standard e = rw (eq-eqb v 0 e) (record { is = refl; many = refl; small = omega arith })

  pub encodes-expert : v ≡ 1 → Encodes (coded_by_lem p kept own (coding_at b v)) table Expert
  unfolding coding_at coded_by_lem
  encodes-expert e = rw (ne_eqb v 0 (λ z. omega arith), eq-eqb v 1 e) (record { is = refl; many = refl; small = omega arith })

pub encodes-pairs : (b : List ℕ) (f : Font) (own : List (List ℕ)) (gs : List ℕ) → 2 ≤ f.encoding → (empty named table : List (Option ℕ)) → empty ≡ replicate 256 None
    → named ≡ filled (program_of b f) empty (namings_at b f.encoding) → Renames (program_of b f) own gs named table
    → (r : ℕ) → (r ≡ length (pairs_in table 256 0)) × (r ≤ 256) → Encodes (coded_by_lem (program_of b f) gs own (program_of b f).coding) table (Pairs r)
unfolding coded_by_lem
encodes-pairs b f own gs custom-one empty named table z e renames r many =
    let p = program_of b f in
    let ns = namings_at b f.encoding in
    let c : coding_at b f.encoding ≡ custom ns = coding_pairs b f.encoding custom-one in
    let is-pairs : pairs_in table 256 0 ≡ pairs_from p ns gs own 256 0 =
    pairs-same p own gs ns named table (λ x h. ap (λ (l : List (Option ℕ)). get_or l x None) e ∙ filled-empty p empty ns z x h) renames 256 0 (omega arith) in
    let is-coded : pairs (pairs_in table 256 0) ≡ coded_by_lem p gs own (coding_at b f.encoding) = ap pairs is-pairs ∙ ap (coded_by_lem p gs own) (sym c) in
    record { is = is-coded; many = many.0 ∙ ap pair_count is-coded; small = many.1 }

pub encodes-none : (table : List (Option ℕ)) → Encodes none table Absent
encodes-none table = record { is = refl; many = refl; small = omega arith }

-- ---- measured

length-by : (table : List (Option ℕ)) (e : Encoding) → pairs_of e ≡ pair_count (coded_in e table) → length (coded_bytes (coded_in e table)) ≡ encoding_len e
length-by table Absent h = refl
length-by table Expert h = refl
length-by table (Pairs n) h = omega (arith, pair-bytes-length (pairs_in table 256 0))

offset-by : (table : List (Option ℕ)) (e : Encoding) (at : ℕ) → coded_at (coded_in e table) at ≡ offset_for e at
offset-by table Absent at = refl
offset-by table Expert at = refl
offset-by table (Pairs n) at = refl

module _ (coded : Coded) (table : List (Option ℕ)) (e : Encoding) (s : Encodes coded table e) where
  pub encodes_self : Encodes (coded_in e table) table e
  encodes_self = record { is = refl; many = s.many ∙ ap pair_count (sym s.is); small = s.small }

  pub encodes-length : length (coded_bytes coded) ≡ encoding_len e
  encodes-length = sym (ap (λ (c : Coded). length (coded_bytes c)) s.is) ∙ length-by table e encodes_self.many

  pub encodes-offset : (at : ℕ) → coded_at coded at ≡ offset_for e at
  encodes-offset at = sym (ap (λ (c : Coded). coded_at c at) s.is) ∙ offset-by table e at

-- ---- in front of more

coded_front : (first rest : List (Option ℕ)) → length first ≡ 256 → (e : Encoding) → coded_in e (first ++ rest) ≡ coded_in e first
coded_front first rest n Absent = refl
coded_front first rest n Expert = refl
coded_front first rest n (Pairs k) = ap pairs (pairs_alike (first ++ rest) first (λ c h. get_or-append first rest None c (omega (arith, n))) 256 0 (omega arith))

pub encodes_front : (coded : Coded) (first rest : List (Option ℕ)) (e : Encoding) → length first ≡ 256 → Encodes coded first e → Encodes coded (first ++ rest) e
encodes_front coded first rest e n s = record { is = coded_front first rest n e ∙ s.is; many = s.many; small = s.small }

-- ---- asked for or not

module _ (coded : Coded) (ask : Bool) (table : List (Option ℕ)) where
  pub asked_for : (e : Encoding) → ask ≡ true → Encodes coded table e → Encodes (pick ask coded none) table e
  asked_for e t s = rw t s

  pub not_asked_for : ask ≡ false → Encodes (pick ask coded none) table Absent
  not_asked_for t = rw t (encodes-none table)
