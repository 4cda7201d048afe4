-- Laws of the Private parts of the FDs in use: they are measured FD by FD, and the measures are those of the subset.
use Rattle.std.specs.Prelude.{ℕ, zero, suc, ◌+◌, ◌*◌, ◌≤◌, ◌<◌, ◌≡◌, Bool, true, false, eqb, drop, get_or, set}
use Rattle.std.proofs.Math.Path.{refl, sym, ap}
use Rattle.std.proofs.Common.{◌∙◌, subst, eq-eqb, ne_eqb}
use mathlib.Core.List.{List, [], ◌∷◌, ◌++◌, append_assoc}
use native.Mathlib.Omega.{arith}
use Rattle.std.proofs.Math.ListN.{length, length-append}
use Rattle.octets.specs.Pick.{pick}
use Rattle.std.proofs.lemmas.List.{drop_more, length_push, set_at}
use Rattle.index.specs.Write.{total, size_for, index_bytes, index_len_lem}
use Rattle.index.specs.WriteLaws.{len_some, length-index, ends-small}
use Rattle.cff.specs.Font.{Private, Program}
use Rattle.cff.specs.Reads.{GoodPrivate}
use Rattle.cff.specs.Reads as reads
use Rattle.cff.specs.declared.private.PrivateAt.{PrivateAt}
use Rattle.subset.specs.Kept.{those, private_of}
use Rattle.subset.specs.Pruned.{mapped}
use Rattle.subset.specs.Subset.{private_dict, private_part, private_parts}
use Rattle.subset.specs.EachLaws.{length-mapped}
use Rattle.subset.specs.KeptListLaws.{those-count}
use Rattle.reach.specs.Cases.{by_number}
use Rattle.renumber.specs.declared.Ranks.{Ranks}
use Rattle.bodies.specs.Ways.{ranks_in}
use Rattle.private_dicts.specs.Privates.{private_dict_by, parts_len, part_for, parts_of}
use Rattle.private_dicts.specs.PrivatesLaws.{private-dict_is}
use Rattle.fds.specs.Locals.{in_use_lem, used_below, fds_in}
use Rattle.fds.specs.UsedLaws.{used-next, unused_next}
use Rattle.fds.specs.Parts.{left_in, subrs_len, dict_len, part_by, part_at, SizesParts}
use Rattle.private_dicts.specs.declared.part.Part.{Part}
use Rattle.subset.specs.Way.{is_renumbered}
use Rattle.subset.specs.declared.Way.{Way}

-- ---- how many new local subroutines

pub renumbered-left : (way : Way) (table : List Ranks) (f : ℕ) → is_renumbered way ≡ true → (ranks_in table f).reached ≡ left_in way table f
renumbered-left way table f e = sym (ap (λ (t : Bool). pick t (ranks_in table f).reached (ranks_in table f).count) e)

pub all_left : (way : Way) (table : List Ranks) (f : ℕ) → is_renumbered way ≡ false → (ranks_in table f).count ≡ left_in way table f
all_left way table f h = sym (ap (λ (t : Bool). pick t (ranks_in table f).reached (ranks_in table f).count) h)

-- ---- the INDEX of local subroutines

pub no_subrs : (left t : ℕ) → left ≡ 0 → 0 ≡ subrs_len left t
unfolding subrs_len
no_subrs left t e = sym (ap (λ (b : Bool). pick b 0 (index_len_lem left t)) (eq-eqb left 0 e))

pub some-subrs : (left t : ℕ) → (left ≡ 0 → ⊥) → index_len_lem left t ≡ subrs_len left t
unfolding subrs_len
some-subrs left t h = sym (ap (λ (b : Bool). pick b 0 (index_len_lem left t)) (ne_eqb left 0 h))

pub subrs-few : (left t : ℕ) → left < 65536 → subrs_len left t ≤ t + 262147
subrs-few left t h =
    by_number left 0 (λ e. omega (arith, no_subrs left t e)) (λ n. omega (arith, some-subrs left t n, len_some left t n, ends-small left (size_for (t + 1)) (t + 1) h refl))

-- ---- one FD

pub fd-dict : (b : List ℕ) (q : PrivateAt) (x : Private) → GoodPrivate b q × (reads.private_of b q ≡ x)
    → (left r : ℕ) → (r ≡ length (private_dict_by (reads.private_of b q).entries left)) × (r ≤ 6912212998)
    → (r ≡ length (private_dict_by x.entries left)) × (r ≤ 6912212998)
fd-dict b q x g left r e = (e.0 ∙ ap (λ (y : Private). length (private_dict_by y.entries left)) g.1, e.1)

abbrev measured : ℕ → ℕ → Part
measured size len = record { size = size; len = len }

pub part_is : (p : Program) (left t f size n : ℕ) → (size ≡ dict_len p left f) × (size ≤ 6912212998) → (n ≡ subrs_len left t) × (n ≤ 281475000000000)
    → (measured size (size + n) ≡ part_by p left t f) × (size + n ≤ 281482000000000)
part_is p left t f size n d s =
    (ap (λ (k : ℕ). measured k (k + n)) d.0 ∙ ap (λ (k : ℕ). measured (dict_len p left f) (dict_len p left f + k)) s.0, omega arith)

-- the part is the subset's
pub part_length : (q : Private) (ls : List (List ℕ)) → length (private_part q ls) ≡ length (private_dict_by q.entries (length ls)) + subrs_len (length ls) (total ls)
unfolding subrs_len
part_length q ls =
    length-append (private_dict q ls) (pick (eqb (length ls) 0) [] (index_bytes ls))
    ∙ ap (λ (l : List ℕ). length l + length (pick (eqb (length ls) 0) [] (index_bytes ls))) (private-dict_is q ls)
    ∙ ap (λ (n : ℕ). length (private_dict_by q.entries (length ls)) + n) (go (eqb (length ls) 0))
  where
    go : (t : Bool) → length (pick t [] (index_bytes ls)) ≡ pick t 0 (index_len_lem (length ls) (total ls))
    go true = refl
    go false = length-index ls

-- ---- one FD more

pub mapped-last : {A : Type 0} (g : ℕ → A) (fs : List ℕ) (f : ℕ) → mapped g (fs ++ (f ∷ [])) ≡ mapped g fs ++ (g f ∷ [])
unfolding mapped
mapped-last g [] f = refl
mapped-last {A} g (x ∷ fs) f = ap (λ (l : List A). g x ∷ l) (mapped-last g fs f)

len-last : (qs : List Part) (q : Part) → parts_len (qs ++ (q ∷ [])) ≡ parts_len qs + q.len
unfolding parts_len
len-last [] q = omega arith
len-last (x ∷ qs) q = omega (arith, len-last qs q)

-- a list in front of what else a slice held, and one more stored behind it
front-more : {A : Type 0} (xs old : List A) (x : A) (n : ℕ) → n ≡ length xs → n < length old
    → set (xs ++ drop n old) n x ≡ (xs ++ (x ∷ [])) ++ drop (n + 1) old
front-more {A} xs old x n e h =
    ap (λ (l : List A). set (xs ++ l) n x) (drop_more old n x h)
    ∙ set_at xs (get_or old n x) (drop (n + 1) old) x n (sym e)
    ∙ sym (append_assoc xs (x ∷ []) (drop (n + 1) old))

pub used-count : (used : List ℕ) (n : ℕ) → length (used_below used n) ≤ n
used-count used n = those-count (in_use_lem used) n 0

module _ (p : Program) (way : Way) (table : List Ranks) (totals used : List ℕ) (old : List Part) where
  abbrev at : ℕ → Part
  at f = part_at p way table totals f

  -- the parts of the FDs in use below fd are measured
  pub record Measuring (new : List Part) (all j fd : ℕ) : Type 0 where
    pub parts : new ≡ mapped at (used_below used fd) ++ drop (length (used_below used fd)) old
    pub together : all ≡ parts_len (mapped at (used_below used fd))
    pub number : j ≡ length (used_below used fd)
    pub small : all ≤ fd * 281482000000000

  pub measuring_start : Measuring old 0 0 0
  unfolding those mapped parts_len
  measuring_start = record { parts = refl; together = refl; number = refl; small = omega arith }

  module _ (new : List Part) (all j fd : ℕ) (h : Measuring new all j fd) where
    pub measuring_number : j ≤ fd
    measuring_number = omega (arith, h.number, used-count used fd)

    pub measuring_pass : in_use_lem used fd ≡ false → Measuring new all j (fd + 1)
    measuring_pass e =
        let u = unused_next used fd e in
        record {
          parts = h.parts ∙ ap (λ (l : List ℕ). mapped at l ++ drop (length l) old) (sym u);
          together = h.together ∙ ap (λ (l : List ℕ). parts_len (mapped at l)) (sym u);
          number = h.number ∙ ap length (sym u);
          small = omega (arith, h.small);
        }

    module _ (e : in_use_lem used fd ≡ true) (r : Part) (is : r ≡ at fd) where
      -- it is no longer than numbers hold
      pub measuring_small : r.len ≤ 281482000000000 → all + r.len ≤ (fd + 1) * 281482000000000
      measuring_small l = omega (arith, h.small)

      -- a part stored behind those of the FDs in use below fd
      stored : j < length old → set new j r ≡ mapped at (used_below used (fd + 1)) ++ drop (length (used_below used (fd + 1))) old
      stored l =
          let fs = used_below used fd in
          let u = used-next used fd e in
          let n : j ≡ length (mapped at fs) = h.number ∙ sym (length-mapped at fs) in
          ap (λ (xs : List Part). set xs j r) (h.parts ∙ ap (λ (i : ℕ). mapped at fs ++ drop i old) (sym h.number))
          ∙ front-more (mapped at fs) old r j n l
          ∙ ap (λ (q : Part). (mapped at fs ++ (q ∷ [])) ++ drop (j + 1) old) is
          ∙ ap (λ (xs : List Part). xs ++ drop (j + 1) old) (sym (ap (mapped at) u ∙ mapped-last at fs fd))
          ∙ ap (λ (i : ℕ). mapped at (used_below used (fd + 1)) ++ drop i old)
          (ap (λ (i : ℕ). i + 1) h.number ∙ sym (ap length u ∙ length_push fs fd))

      pub measuring_take : r.len ≤ 281482000000000 → j < length old → Measuring (set new j r) (all + r.len) (j + 1) (fd + 1)
      measuring_take l s =
          let fs = used_below used fd in
          let u = used-next used fd e in
          record {
            parts = stored s;
            together = omega (arith, h.together, ap (λ (q : Part). q.len) is, ap (λ (l : List ℕ). parts_len (mapped at l)) u, ap parts_len (mapped-last at fs fd), len-last (mapped at fs) (at fd));
            number = omega (arith, h.number, ap length u, length_push fs fd);
            small = measuring_small l;
          }

    pub measuring_done : fd ≡ 256 → SizesParts p way table totals used old new all
    measuring_done e =
        let g = subst (Measuring new all j) e h in
        record { parts = g.parts; together = g.together; small = g.small }

-- ---- the measures of the subset

-- what is the same for the FDs in use is the same for their list
pub mapped-used : {A : Type 0} (g h : ℕ → A) (used : List ℕ) (n : ℕ) → ((f : ℕ) → f < n → in_use_lem used f ≡ true → g f ≡ h f)
    → mapped g (used_below used n) ≡ mapped h (used_below used n)
unfolding those mapped
mapped-used g h used zero same = refl
mapped-used {A} g h used (suc n) same =
    let e : n + 1 ≡ suc n = omega arith in
    subst (λ (k : ℕ). mapped g (used_below used k) ≡ mapped h (used_below used k)) e
    (go (in_use_lem used n) refl (mapped-used g h used n (λ f k u. same f (omega arith) u)))
  where
    go : (t : Bool) → in_use_lem used n ≡ t → mapped g (used_below used n) ≡ mapped h (used_below used n)
        → mapped g (used_below used (n + 1)) ≡ mapped h (used_below used (n + 1))
    go true u i =
        let x : g n ≡ h n = same n (omega arith) u in
        ap (mapped g) (used-next used n u) ∙ mapped-last g (used_below used n) n
        ∙ ap (λ (l : List A). l ++ (g n ∷ [])) i ∙ ap (λ (y : A). mapped h (used_below used n) ++ (y ∷ [])) x
        ∙ sym (ap (mapped h) (used-next used n u) ∙ mapped-last h (used_below used n) n)
    go false u i = ap (mapped g) (unused_next used n u) ∙ i ∙ sym (ap (mapped h) (unused_next used n u))

module _ (p : Program) (new : ℕ → List (List ℕ)) where
  parts_mapped : (fs : List ℕ) → parts_of p fs (mapped new fs) ≡ mapped (λ f. part_for (private_of p f) (new f)) fs
  unfolding parts_of mapped
  parts_mapped [] = refl
  parts_mapped (f ∷ fs) = ap (λ (qs : List Part). part_for (private_of p f) (new f) ∷ qs) (parts_mapped fs)

  -- the parts together
  pub parts_together : (fs : List ℕ) → length (private_parts p fs (mapped new fs)) ≡ parts_len (parts_of p fs (mapped new fs))
  unfolding private_parts parts_of mapped parts_len
  parts_together [] = refl
  parts_together (f ∷ fs) =
      length-append (private_part (private_of p f) (new f)) (private_parts p fs (mapped new fs))
      ∙ ap (λ (n : ℕ). length (private_part (private_of p f) (new f)) + n) (parts_together fs)

  -- where the tables tell how many new local subroutines an FD has, and how many bytes
  module _ (way : Way) (table : List Ranks) (totals used : List ℕ)
      (many : (f : ℕ) → f < 256 → in_use_lem used f ≡ true → left_in way table f ≡ length (new f))
      (bytes : (f : ℕ) → f < 256 → in_use_lem used f ≡ true → get_or totals f 0 ≡ total (new f)) where
    part_same : (f : ℕ) → f < 256 → in_use_lem used f ≡ true → part_at p way table totals f ≡ part_for (private_of p f) (new f)
    part_same f h u =
        let q = private_of p f in
        ap (λ (n : ℕ). part_by p n (get_or totals f 0) f) (many f h u) ∙ ap (λ (t : ℕ). part_by p (length (new f)) t f) (bytes f h u)
        ∙ ap (λ (n : ℕ). measured n (n + subrs_len (length (new f)) (total (new f)))) (ap length (sym (private-dict_is q (new f))))
        ∙ ap (measured (length (private_dict q (new f))))
        (ap (λ (n : ℕ). n + subrs_len (length (new f)) (total (new f))) (ap length (private-dict_is q (new f))) ∙ sym (part_length q (new f)))

    pub measures_are : mapped (part_at p way table totals) (fds_in used) ≡ parts_of p (fds_in used) (mapped new (fds_in used))
    measures_are = mapped-used _ (λ f. part_for (private_of p f) (new f)) used 256 part_same ∙ sym (parts_mapped (fds_in used))

    pub parts_are : parts_len (mapped (part_at p way table totals) (fds_in used)) ≡ length (private_parts p (fds_in used) (mapped new (fds_in used)))
    parts_are = ap parts_len measures_are ∙ sym (parts_together (fds_in used))
