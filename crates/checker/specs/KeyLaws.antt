-- Rows by their keys: a record has the keys of rows that are met exactly where it lists these rows.
use Rattle.std.specs.Prelude.{ℕ, ◌+◌, ◌*◌, ◌<◌, ◌≡◌, Bool, true, false, ltb}
use Rattle.std.proofs.Math.Path.{refl, ap}
use Rattle.std.proofs.Common.{sym, ◌∙◌, subst, ⊎_elim, arith, le-ltb, ltb-false}
use mathlib.Core.List.{List, [], ◌∷◌, map}
use Rattle.octets.specs.Pick.{pick}
use Rattle.octets.specs.PickLaws.{both_hold}
use Rattle.octets.specs.Octets.{Octets}
use Rattle.unfold.specs.Unfold.{Row}
use Rattle.prune.specs.Bodies.{All}
use Rattle.record.specs.Record.{rows_of, lists}
use Rattle.subset.specs.Kept.{is_in}
use Rattle.subset.specs.KeptListLaws.{in_none, in_head, in_more, in_cases}
use Rattle.kept.specs.Packed.{all_of}
use Rattle.kept.specs.MarkLaws.{same_truth}
use Rattle.reach.specs.Reach.{Fits}
use Rattle.reach.specs.RowLaws.{AllFit, all_fit}
use Rattle.row_window.specs.Window.{gathered}
use Rattle.faithful.specs.RecordLaws.{row_is}
use Rattle.interpret.specs.Run.{key_for}
use Rattle.traced.specs.Has.{Has, here, there}
use Rattle.traced.specs.HasLaws.{has-none, gathered-from, gathered-new, map_has, map_from, all-at, has_listed, listed_has}
use Rattle.traced.specs.RowLaws.{RowFits}
use Rattle.accepted.specs.Accepted.{each_row}
use Rattle.accepted.specs.RowsLaws.{each_at, each_from}
use Rattle.listed.specs.Listed.{no_key, key_in, row_keys, all_in}

-- ---- members

in_has : (k : ℕ) (l : List ℕ) → is_in k l ≡ true → Has ℕ k l
in_has k [] e = absurd (in_none k e)
in_has k (x ∷ l) e = ⊎_elim (λ i. here i) (λ i. there (in_has k l i)) (in_cases x k l e)

has_in : (k : ℕ) (l : List ℕ) → Has ℕ k l → is_in k l ≡ true
has_in k [] x' = elim x' [ ]
has_in k (x ∷ l) (here e) = in_head x k l e
has_in k (x ∷ l) (there h) = in_more x k l (has_in k l h)

module _ (q : ℕ → Bool) where
  all-has : (l : List ℕ) → all_of q l ≡ true → (k : ℕ) → Has ℕ k l → q k ≡ true
  unfolding all_of
  all-has [] e k x'' = elim x'' [ ]
  all-has (x ∷ l) e k (here i) = ap q (sym i) ∙ (both_hold (q x) (all_of q l) e).0
  all-has (x ∷ l) e k (there h) = all-has l (both_hold (q x) (all_of q l) e).1 k h

  all-when : (l : List ℕ) → ((k : ℕ) → Has ℕ k l → q k ≡ true) → all_of q l ≡ true
  unfolding all_of
  all-when [] f = refl
  all-when (x ∷ l) f = rw (f x (here refl)) (all-when l (λ k h. f k (there h)))

fit_at : (rows : List Row) → AllFit rows → (q : Row) → Has Row q rows → Fits q
unfolding AllFit
fit_at [] a q x'' = elim x'' [ ]
fit_at (r ∷ rows) a q (here e) = subst Fits e a.0
fit_at (r ∷ rows) a q (there h) = fit_at rows a.1 q h

-- ---- keys

-- two numbers of two digits
digits_16 : (x y a b : ℕ) → a < 16 → b < 16 → x * 16 + a ≡ y * 16 + b → (x ≡ y) × (a ≡ b)
digits_16 x y a b h k e = (omega (arith, e), omega (arith, e))

digits_32 : (x y a b : ℕ) → a < 4294967296 → b < 4294967296 → x * 4294967296 + a ≡ y * 4294967296 + b → (x ≡ y) × (a ≡ b)
digits_32 x y a b h k e = (omega (arith, e), omega (arith, e))

digits-two : (x y a b : ℕ) → a < 65536 → b < 65536 → x * 65536 + a ≡ y * 65536 + b → (x ≡ y) × (a ≡ b)
digits-two x y a b h k e = (omega (arith, e), omega (arith, e))

digits-one : (x y a b : ℕ) → a < 256 → b < 256 → x * 256 + a ≡ y * 256 + b → (x ≡ y) × (a ≡ b)
digits-one x y a b h k e = (omega (arith, e), omega (arith, e))

module _ (q r : Row) (a : Fits q) (f : RowFits r) where
  same-fields : q.len < 16 → key_for q ≡ key_for r → q ≡ r
  same-fields h e =
      let u = digits_16 (((q.kind * 256 + q.fd) * 65536 + q.number) * 4294967296 + q.offset) (((r.kind * 256 + r.fd) * 65536 + r.number) * 4294967296 + r.offset) q.len r.len h f.len e in
      let v = digits_32 ((q.kind * 256 + q.fd) * 65536 + q.number) ((r.kind * 256 + r.fd) * 65536 + r.number) q.offset r.offset a.offset (omega (arith, f.offset)) u.0 in
      let w = digits-two (q.kind * 256 + q.fd) (r.kind * 256 + r.fd) q.number r.number a.number f.number v.0 in
      let x = digits-one q.kind r.kind q.fd r.fd a.fd f.fd w.0 in
      row_is q r x.0 x.1 w.1 v.1 u.1

  -- a row of a record with the key of a row that is met is that row
  same_key : key_in q ≡ key_for r → q ≡ r
  same_key e = by (ltb 4 q.kind) (ltb 15 q.len) refl e
    where
      small : key_for r < no_key
      small = omega (arith, f.kind, f.fd, f.number, f.offset, f.len)

      by : (t u : Bool) → ltb 15 q.len ≡ u → pick t no_key (pick u no_key (key_for q)) ≡ key_for r → q ≡ r
      by true u l h = absurd (omega (arith, h, small))
      by false true l h = absurd (omega (arith, h, small))
      by false false l h = same-fields (omega (arith, ltb-false 15 q.len l)) h

-- a row that is met has its key
own_key : (r : Row) → RowFits r → key_in r ≡ key_for r
own_key r f = rw (le-ltb 4 r.kind (omega (arith, f.kind)), le-ltb 15 r.len (omega (arith, f.len)))

-- ---- the record

pub keys-listed : (rec : List ℕ) → Octets rec → (met : List Row) → All RowFits met → all_in (row_keys rec) (gathered [] (map key_for met)) ≡ each_row (lists (rows_of rec)) met
keys-listed rec octets met fits = same_truth (all_in (row_keys rec) (gathered [] (map key_for met))) (each_row (lists (rows_of rec)) met) forth back
  where
    forth : all_in (row_keys rec) (gathered [] (map key_for met)) ≡ true → each_row (lists (rows_of rec)) met ≡ true
    forth e =
        each_from (lists (rows_of rec)) met
        (λ r h. let g = gathered-new (key_for r) [] (map key_for met) (map_has key_for r met h) in
        let i = all-has (λ k. is_in k (row_keys rec)) (gathered [] (map key_for met)) e (key_for r) g in
        let m = map_from key_in (key_for r) (rows_of rec) (in_has (key_for r) (row_keys rec) i) in
        let s = same_key m.0 r (fit_at (rows_of rec) (all_fit rec octets) m.0 m.1) (all-at RowFits r met fits h) m.2 in
        has_listed r (rows_of rec) (subst (λ (x : Row). Has Row x (rows_of rec)) s m.1))

    back : each_row (lists (rows_of rec)) met ≡ true → all_in (row_keys rec) (gathered [] (map key_for met)) ≡ true
    back e =
        all-when (λ k. is_in k (row_keys rec)) (gathered [] (map key_for met))
        (λ k h. ⊎_elim (λ n. absurd (has-none ℕ k n)) (λ n. found k (map_from key_for k met n)) (gathered-from k [] (map key_for met) h))
      where
        found : (k : ℕ) → ((r : Row) × Has Row r met × (key_for r ≡ k)) → is_in k (row_keys rec) ≡ true
        found k m =
            let l = listed_has m.0 (rows_of rec) (each_at (lists (rows_of rec)) met e m.0 m.1) in
            let i = has_in (key_in m.0) (row_keys rec) (map_has key_in m.0 (rows_of rec) l) in
            subst (λ (x : ℕ). is_in x (row_keys rec) ≡ true) (own_key m.0 (all-at RowFits m.0 met fits m.1) ∙ m.2) i
