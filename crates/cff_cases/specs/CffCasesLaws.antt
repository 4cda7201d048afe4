-- Laws of the answers to stored cases, by the code's ways out.
use Rattle.std.specs.Prelude.{ℕ, ◌≤◌, ◌<◌, ◌≡◌, refl, get_or, None, Option, Some, Result, Ok, Err}
use Rattle.std.proofs.Math.Path.{sym, ap}
use Rattle.std.proofs.Common.{◌∙◌, length-append}
use mathlib.Core.List.{List, [], ◌∷◌}
use Rattle.std.proofs.Math.ListN.{length}
use borrow.Author.Tests.{eq-eqb, ne_eqb, lt-ltb, le-ltb}
use Rattle.octets.specs.Octets.{num_at}
use Rattle.octets.specs.OctetsLaws.{length-bytes}
use Rattle.refusal.specs.Refusal.{number_of}
use Rattle.refusal.specs.declared.Refusal.{Refusal}
use Rattle.cff.specs.Font.{read_font}
use Rattle.cff.specs.Find.{read_as, cid_as, item_refusal_lem, item_of}
use Rattle.cff.specs.declared.Counts.{Counts}
use Rattle.cff.specs.declared.ItemKind.{ItemKind}
use Rattle.cff_entries.specs.Kinds.{kind_of}
use Rattle.cff_cases.specs.CffCases.{sizes_bytes, read_bytes, found_bytes, read_answer, cid_answer, item_bytes, item_of_kind, item_answer, asked_answer, cff_answer}
use Rattle.cases.specs.Inputs.{font_input, over}

-- the three sizes have twelve bytes
pub sizes_length : (c : Counts) → length (sizes_bytes c) ≡ 12
unfolding sizes_bytes
sizes_length c = rw (length-append, length-append, length-bytes 4 c.glyphs, length-bytes 4 c.globals, length-bytes 4 c.strings)

module _ (font asked : List ℕ) where
  -- ---- kind R

  pub read_more : 0 < length asked → read_answer font asked ≡ None
  unfolding read_answer
  read_more h = rw (lt-ltb 0 (length asked) h)

  pub read_found : length asked ≤ 0 → (r : Result Counts Refusal) → r ≡ read_as (read_font font) → read_answer font asked ≡ Some (read_bytes r)
  unfolding read_answer
  read_found h r e = rw (le-ltb 0 (length asked) h) (ap (λ (x : Result Counts Refusal). Some (read_bytes x)) (sym e))

  -- ---- kind C

  pub cid_size : (length asked ≡ 2 → ⊥) → cid_answer font asked ≡ None
  unfolding cid_answer
  cid_size h = rw (ne_eqb (length asked) 2 h)

  pub cid-found : length asked ≡ 2 → (n : ℕ) → n ≡ num_at asked 0 2 → (r : Result (Option ℕ) Refusal) → r ≡ cid_as (read_font font) n
      → cid_answer font asked ≡ Some (found_bytes r)
  unfolding cid_answer
  cid-found h n k r e =
      rw (eq-eqb (length asked) 2 h)
      (ap (λ (m : ℕ). Some (found_bytes (cid_as (read_font font) m))) (sym k) ∙ ap (λ (x : Result (Option ℕ) Refusal). Some (found_bytes x)) (sym e))

  -- ---- kind I

  pub item-size : (length asked ≡ 5 → ⊥) → item_answer font asked ≡ None
  unfolding item_answer
  item-size h = rw (ne_eqb (length asked) 5 h)

  module _ (h : length asked ≡ 5) where
    pub item-kind : 2 < get_or asked 0 0 → item_answer font asked ≡ None
    unfolding item_answer
    item-kind k = rw (eq-eqb (length asked) 5 h, lt-ltb 2 (get_or asked 0 0) k)

    pub item-found : get_or asked 0 0 ≤ 2 → (k : ItemKind) → k ≡ kind_of (get_or asked 0 0) → (n : ℕ) → n ≡ num_at asked 1 4
        → item_answer font asked ≡ item_of_kind font k n
    unfolding item_answer
    item-found l k e n f =
        rw (eq-eqb (length asked) 5 h, le-ltb 2 (get_or asked 0 0) l)
        (ap (λ (x : ItemKind). item_of_kind font x (num_at asked 1 4)) (sym e) ∙ ap (item_of_kind font k) (sym f))

  -- ---- another letter

  pub asked-none : (b : ℕ) → (b ≡ 82 → ⊥) → (b ≡ 78 → ⊥) → (b ≡ 67 → ⊥) → (b ≡ 73 → ⊥) → asked_answer b font asked ≡ None
  unfolding asked_answer
  asked-none b r n c i = simp (ne_eqb b 82 r, ne_eqb b 78 n, ne_eqb b 67 c, ne_eqb b 73 i)

-- ---- an item of a kind

module _ (font : List ℕ) (kind : ItemKind) (number : ℕ) where
  of-kind : (r : Result Unit Refusal) → r ≡ item_refusal_lem (read_font font) kind number → (bs : List ℕ) → bs ≡ item_of (read_font font) kind number
      → item_of_kind font kind number ≡ item_bytes r bs
  unfolding item_of_kind
  of-kind r e bs f =
      ap (λ (x : Result Unit Refusal). item_bytes x (item_of (read_font font) kind number)) (sym e) ∙ ap (item_bytes r) (sym f)

  pub of-kind_refused : (n : Refusal) → Err n ≡ item_refusal_lem (read_font font) kind number → (k : ℕ) → k ≡ number_of n → item_of_kind font kind number ≡ Some (k ∷ [])
  of-kind_refused n e k f = of-kind (Err n) e (item_of (read_font font) kind number) refl ∙ ap (λ (m : ℕ). Some (m ∷ [])) (sym f)

  module _ (u : Unit {0}) (e : Ok u ≡ item_refusal_lem (read_font font) kind number) (bs : List ℕ) (f : bs ≡ item_of (read_font font) kind number) where
    pub of-kind_long : 4095 < length bs → item_of_kind font kind number ≡ None
    of-kind_long l = of-kind (Ok u) e bs f ∙ rw (lt-ltb 4095 (length bs) l)

    pub of-kind-found : length bs ≤ 4095 → item_of_kind font kind number ≡ Some (0 ∷ bs)
    of-kind-found l = of-kind (Ok u) e bs f ∙ rw (le-ltb 4095 (length bs) l)

-- ---- an input

pub cff_parts : (kind : ℕ) (s : List ℕ) (o : Option (List ℕ × List ℕ)) → o ≡ font_input s → over (asked_answer kind) o ≡ cff_answer kind s
unfolding cff_answer
cff_parts kind s o e = ap (over (asked_answer kind)) e
