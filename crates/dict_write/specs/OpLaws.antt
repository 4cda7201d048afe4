-- Laws of an operator written: its length, and that its number is that of its bytes.
use Rattle.std.specs.Prelude.{ℕ, ◌-◌, ◌/◌, ◌%◌, ◌≤◌, ◌<◌, ◌≡◌, refl, ◌⊎◌, Bool, true, false, List, [], ◌∷◌, ltb, eqb, length}
use Rattle.std.proofs.Common.{ap, ◌∙◌, inl, inr, arith, ltb-true, ltb-false, lt-ltb, le-ltb}
use Rattle.std.proofs.lemmas.Bool.{false≢true, eqb-false}
use Rattle.octets.specs.Pick.{pick}
use Rattle.octets.specs.Octets.{bytes_of, Wrote}
use Rattle.octets.specs.PutLaws.{wrote_as}
use Rattle.dict.specs.Op.{is_operator}
use Rattle.dict_write.specs.Written.{op_bytes_lem}

pub op_one : (op : ℕ) → op < 3072 → 1 ≡ length (op_bytes_lem op)
unfolding op_bytes_lem
op_one op h = rw (lt-ltb op 3072 h)

pub op_two : (op : ℕ) → 3072 ≤ op → 2 ≡ length (op_bytes_lem op)
unfolding op_bytes_lem
op_two op h = rw (le-ltb op 3072 h)

-- the two kinds of operators
pub record OneByte (op : ℕ) : Type 0 where
  pub low : op < 22
  pub other : op ≡ 12 → ⊥

pub record Escape (op : ℕ) : Type 0 where
  pub from : 3072 ≤ op
  pub below : op < 3328

pub op_kind : (op : ℕ) → is_operator op ≡ true → OneByte op ⊎ Escape op
op_kind op h = go (eqb op 12) (ltb op 22) (ltb op 3072) refl refl refl h
  where
    go : (t u v : Bool) → eqb op 12 ≡ t → ltb op 22 ≡ u → ltb op 3072 ≡ v → pick t false (pick u true (pick v false (ltb op 3328))) ≡ true → OneByte op ⊎ Escape op
    go true u v e f g q = absurd (false≢true q)
    go false true v e f g q = inl (record { low = ltb-true op 22 f; other = eqb-false op 12 e })
    go false false true e f g q = absurd (false≢true q)
    go false false false e f g q = inr (record { from = ltb-false op 3072 g; below = ltb-true op 3328 q })

-- the number of an escape is that of its two bytes, 12 and its own
pub op_bytes : (op : ℕ) → is_operator op ≡ true → bytes_of (length (op_bytes_lem op)) op ≡ op_bytes_lem op
unfolding bytes_of op_bytes_lem
op_bytes op h = go (op_kind op h)
  where
    go : OneByte op ⊎ Escape op → bytes_of (length (op_bytes_lem op)) op ≡ op_bytes_lem op
    go (inl k) =
        let e : op % 256 ≡ op = omega (arith, k.low) in
        rw (lt-ltb op 3072 (omega (arith, k.low))) (ap (λ (x : ℕ). x ∷ []) e)
    go (inr k) =
        let e : op / 256 % 256 ≡ 12 = omega (arith, k.from, k.below) in
        let f : op % 256 ≡ op - 3072 = omega (arith, k.from, k.below) in
        rw (le-ltb op 3072 k.from) (ap (λ (x : ℕ). x ∷ (op % 256) ∷ []) e ∙ ap (λ (x : ℕ). 12 ∷ x ∷ []) f)

pub op_wrote : (op n : ℕ) (old : List ℕ) (at : ℕ) (new : List ℕ) (next : ℕ) → is_operator op ≡ true → n ≡ length (op_bytes_lem op)
    → Wrote old at (bytes_of n op) new next → Wrote old at (op_bytes_lem op) new next
op_wrote op n old at new next h e w = wrote_as w (ap (λ (k : ℕ). bytes_of k op) e ∙ op_bytes op h)
