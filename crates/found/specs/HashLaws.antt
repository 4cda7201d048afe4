-- Laws of marks of names (document 01, refusal 7): a glyph whose name is not among the marked ones is found.
use Rattle.std.specs.Prelude.{ℕ, ◌+◌, ◌*◌, ◌%◌, ◌≤◌, ◌<◌, ◌≡◌, refl, Bool, true, false, not, List, eqb, length, drop, get_or, replicate}
use Rattle.std.proofs.Common.{sym, ap, ◌∙◌, subst, not-suc-le-zero, arith, eq-eqb, ne_eqb, eqb-true, drop_of_length-le}
use Rattle.std.proofs.lemmas.Bool.{eqb-false}
use Rattle.std.proofs.lemmas.List.{length-replicate}
use Rattle.octets.specs.Pick.{pick}
use Rattle.prune.specs.StepLaws.{zero_one}
use Rattle.strings.specs.Strings.{string_text}
use Rattle.kept.specs.Packed.{name_found}
use Rattle.kept.specs.MarkLaws.{ahead}
use Rattle.first_glyphs.specs.FoundLaws.{glyph_as, Seen}
use Rattle.bits.specs.Bits.{bit_in}
use Rattle.first_glyphs.specs.Bits.{Sees}
use Rattle.found.specs.Hash.{hash_from, hash_of_lem, low_place, high_place, is_new, with_hash, Marked, Met, MetNames, told}
use Rattle.found.specs.declared.Told.{Told}
use Rattle.first_glyphs.specs.FirstLaws.{first-named}

-- ---- the hash of a text, byte by byte

pub hash-more : (h x : ℕ) (text : List ℕ) (i : ℕ) → i < length text → x ≡ get_or text i 0
    → hash_from ((h + x) * 16777619 % 4294967296) (drop (i + 1) text) ≡ hash_from h (drop i text)
unfolding hash_from
hash-more h x text i m e =
    ap (λ (y : ℕ). hash_from ((h + y) * 16777619 % 4294967296) (drop (i + 1) text)) e ∙ ap (hash_from h) (sym (ahead text i m))

pub hash_done : (h : ℕ) (text : List ℕ) (i : ℕ) → length text ≤ i → h ≡ hash_from h (drop i text)
unfolding hash_from
hash_done h text i m = ap (hash_from h) (sym (drop_of_length-le text m))

-- of a glyph's name, by its id
pub hash-by : (strings : List (List ℕ)) (ids : List ℕ) (g id : ℕ) (text : List ℕ) (h : ℕ) → id ≡ get_or ids g 0 → text ≡ string_text strings id → h ≡ hash_of_lem text
    → h ≡ hash_of_lem (string_text strings (get_or ids g 0))
hash-by strings ids g id text h i t e = e ∙ ap hash_of_lem (t ∙ ap (string_text strings) i)

-- ---- marks

-- marks by marks: those of a hash are set, and the others stay
module _ (marks then : ℕ → Bool) (h : ℕ) (grows : (j : ℕ) → then j ≡ with_hash marks h j) where
  -- a mark stays
  mark_stays : (j : ℕ) → marks j ≡ true → then j ≡ true
  mark_stays j m = grows j ∙ stays (eqb j (high_place h)) (eqb j (low_place h))
    where
      stays : (t u : Bool) → pick t true (pick u true (marks j)) ≡ true
      stays true u = refl
      stays false true = refl
      stays false false = m

  met_still : (text : List ℕ) → Met marks text → Met then text
  met_still text m = record { low = mark_stays (low_place (hash_of_lem text)) m.low; high = mark_stays (high_place (hash_of_lem text)) m.high }

  met-now : (text : List ℕ) → h ≡ hash_of_lem text → Met then text
  met-now text e = record { low = subst (λ (x : ℕ). then (low_place x) ≡ true) e low-set; high = subst (λ (x : ℕ). then (high_place x) ≡ true) e high-set }
    where
      either : (t : Bool) → pick t true true ≡ true
      either true = refl
      either false = refl

      high-set : then (high_place h) ≡ true
      high-set = grows (high_place h) ∙ rw (eq-eqb (high_place h) (high_place h) refl)

      low-set : then (low_place h) ≡ true
      low-set = grows (low_place h) ∙ rw (eq-eqb (low_place h) (low_place h) refl) (either (eqb (low_place h) (high_place h)))

-- one of its marks is missing: it was not met
new_not_met : (marks : ℕ → Bool) (text : List ℕ) (h : ℕ) → h ≡ hash_of_lem text → is_new marks h ≡ true → Met marks text → ⊥
new_not_met marks text h e n m = not_both (marks (low_place h)) (marks (high_place h)) n
    (subst (λ (x : ℕ). marks (low_place x) ≡ true) (sym e) m.low) (subst (λ (x : ℕ). marks (high_place x) ≡ true) (sym e) m.high)
  where
    not_both : (s t : Bool) → pick s (not t) true ≡ true → s ≡ true → t ≡ true → ⊥
    not_both true true a b c = zero_one cc
    not_both true false a b c = zero_one cc
    not_both false t a b c = zero_one cc

-- both places asked and marked one after the other
pub marked-both : (old mid new : List ℕ) (h : ℕ) (a b : Bool) → Sees old (low_place h) mid a → Sees mid (high_place h) new b → (r : Bool) → r ≡ pick a (not b) true → Marked old h new r
marked-both old mid new h a b s t r e =
    let d : eqb (high_place h) (low_place h) ≡ false = ne_eqb (high_place h) (low_place h) (λ z. omega arith) in
    let w : b ≡ bit_in old 0 (high_place h) = t.was ∙ s.bits (high_place h) ∙ ap (λ (x : Bool). pick x true (bit_in old 0 (high_place h))) d in
    record {
      size = t.size ∙ s.size;
      is = e ∙ ap (λ (x : Bool). pick x (not b) true) s.was ∙ ap (λ (x : Bool). pick (bit_in old 0 (low_place h)) (not x) true) w;
      bits = λ j. t.bits j ∙ ap (λ (x : Bool). pick (eqb j (high_place h)) true x) (s.bits j);
    }

-- marks that hold nothing
pub marks_long : (marks : List ℕ) → marks ≡ replicate 4096 0 → length marks ≡ 4096
marks_long marks e = ap length e ∙ length-replicate {A = ℕ} 4096 0

-- ---- names

pub met-none : (strings : List (List ℕ)) (ids : List ℕ) (marks : ℕ → Bool) → MetNames strings ids 0 marks
met-none strings ids marks = record { all = λ k m. absurd (not-suc-le-zero m) }

module _ (strings : List (List ℕ)) (ids : List ℕ) (g : ℕ) (marks : ℕ → Bool) (s : MetNames strings ids g marks) where
  module _ (h : ℕ) (is : h ≡ hash_of_lem (string_text strings (get_or ids g 0))) where
    -- a new name: its glyph is found
    pub new-found : g < length ids → is_new marks h ≡ true → name_found strings ids g ≡ true
    new-found l n =
        let f = first-named strings (string_text strings (get_or ids g 0)) 0 ids g l refl
        (λ k m e. new_not_met marks (string_text strings (get_or ids g 0)) h is n (subst (Met marks) e (s.all k m))) in
        glyph_as g _ _ f ∙ eq-eqb (0 + g) g (omega arith)

    -- one name more
    module _ (then : ℕ → Bool) (grows : (j : ℕ) → then j ≡ with_hash marks h j) where
      met_all : (k : ℕ) → k < g + 1 → (t : Bool) → eqb k g ≡ t → Met then (string_text strings (get_or ids k 0))
      met_all k l true t =
          subst (λ (j : ℕ). Met then (string_text strings (get_or ids j 0))) (sym (eqb-true k g t)) (met-now marks then h grows (string_text strings (get_or ids g 0)) is)
      met_all k l false t = let d = eqb-false k g t in met_still marks then h grows (string_text strings (get_or ids k 0)) (s.all k (omega arith))

      pub met_next : MetNames strings ids (g + 1) then
      met_next = record { all = λ k l. met_all k l (eqb k g) refl }

  -- the name of an id that was seen is marked
  pub met-again : (seen : ℕ → Bool) → Seen ids g seen → (id : ℕ) → id ≡ get_or ids g 0 → seen id ≡ true → MetNames strings ids (g + 1) marks
  met-again seen d id is m = record { all = λ k l. met k l (eqb k g) refl }
    where
      met : (k : ℕ) → k < g + 1 → (t : Bool) → eqb k g ≡ t → Met marks (string_text strings (get_or ids k 0))
      met k l true t =
          let o = d.only id m in
          let e : get_or ids o.0 0 ≡ get_or ids k 0 = o.2 ∙ is ∙ ap (λ (j : ℕ). get_or ids j 0) (sym (eqb-true k g t)) in
          subst (λ (x : ℕ). Met marks (string_text strings x)) e (s.all o.0 o.1)
      met k l false t = let n = eqb-false k g t in s.all k (omega arith)

-- what an answer tells
pub told_as : (t u : Told) (so : Bool) → t ≡ u → told t so ≡ so → told u so ≡ so
told_as t u so e h = sym (ap (λ (x : Told). told x so) e) ∙ h
