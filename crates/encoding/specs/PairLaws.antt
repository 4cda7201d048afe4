-- Laws of the pairs of a table: how many they are and how many bytes they have, and that they are those of the definition.
use Prim.Native.Nat.{ℕ, zero, suc, ◌+◌, ◌*◌, ◌-◌, ◌≤◌, ◌<◌}
use Rattle.std.specs.Prelude.{◌≡◌, Bool, true, false, length, None, Option, Some}
use Rattle.std.proofs.Math.Path.{refl, ap}
use Rattle.std.proofs.Common.{sym, ◌∙◌, arith, length-append}
use mathlib.Core.List.{List, [], ◌∷◌, ◌++◌, append_assoc}
use Rattle.std.proofs.Math.ListN.{get_or}
use Rattle.octets.specs.Pick.{pick}
use Rattle.octets.specs.Octets.{bytes_of}
use Rattle.octets.specs.OctetsLaws.{length-bytes}
use Rattle.charset.specs.Codes.{Naming}
use Rattle.cff.specs.Font.{Program}
use Rattle.subset.specs.Kept.{is_in}
use Rattle.subset.specs.Texts.{name_of, new_id}
use Rattle.subset.specs.Codes.{Pair, last_named, pair_of, pairs_from, pair_bytes}
use Rattle.encoding.specs.Encoded.{pair_in, pairs_in, held_after, Renames}
use Rattle.encoding.specs.IdLaws.{after_none, after_kept}

-- ---- bytes

pub pair-bytes-length : (ps : List Pair) → length (pair_bytes ps) ≡ 3 * length ps
unfolding pair_bytes
pair-bytes-length [] = refl
pair-bytes-length (q ∷ qs) = rw length-append (omega (arith, length-bytes 2 q.id, pair-bytes-length qs))

pub pair-bytes-append : (ps qs : List Pair) → pair_bytes (ps ++ qs) ≡ pair_bytes ps ++ pair_bytes qs
unfolding pair_bytes
pair-bytes-append [] qs = refl
pair-bytes-append (q ∷ ps) qs =
    ap (λ (l : List ℕ). q.code ∷ (bytes_of 2 q.id ++ l)) (pair-bytes-append ps qs)
    ∙ ap (λ (l : List ℕ). q.code ∷ l) (sym (append_assoc (bytes_of 2 q.id) (pair_bytes ps) (pair_bytes qs)))

-- ---- code by code

pub pairs-more : (table : List (Option ℕ)) (c : ℕ) → c < 256 → pairs_in table (256 - c) c ≡ pair_in c (get_or table c None) ++ pairs_in table (256 - (c + 1)) (c + 1)
unfolding pairs_in
pairs-more table c h = let e : 256 - c ≡ suc (256 - (c + 1)) = omega arith in ap (λ (m : ℕ). pairs_in table m c) e

pub pairs-none : (table : List (Option ℕ)) (c : ℕ) → 256 ≤ c → pairs_in table (256 - c) c ≡ []
unfolding pairs_in
pairs-none table c h = let e : 256 - c ≡ 0 = omega arith in ap (λ (m : ℕ). pairs_in table m c) e

-- by what the table holds of the codes, whatever is behind them
pub pairs_alike : (xs ys : List (Option ℕ)) → ((c : ℕ) → c < 256 → get_or xs c None ≡ get_or ys c None) → (m c : ℕ) → c + m ≤ 256 → pairs_in xs m c ≡ pairs_in ys m c
unfolding pairs_in
pairs_alike xs ys e zero c h = refl
pairs_alike xs ys e (suc m) c h =
    ap (λ (x : Option ℕ). pair_in c x ++ pairs_in xs m (c + 1)) (e c (omega arith))
    ∙ ap (λ (l : List Pair). pair_in c (get_or ys c None) ++ l) (pairs_alike xs ys e m (c + 1) (omega arith))

-- ---- the pairs of the definition

module _ (p : Program) (own : List (List ℕ)) (gs : List ℕ) where
  kept_pair : (c g : ℕ) (t : Bool) → pair_in c (pick t (Some (new_id own (name_of p g))) None) ≡ pick t (record { code = c; id = new_id own (name_of p g) } ∷ []) []
  kept_pair c g true = refl
  kept_pair c g false = refl

  found-pair : (c : ℕ) (f : Option ℕ) → pair_in c (held_after p own gs f None) ≡ pair_of p gs own c f
  found-pair c None = ap (pair_in c) (after_none p own gs None)
  found-pair c (Some g) = ap (pair_in c) (after_kept p own gs g None) ∙ kept_pair c g (is_in g gs)

  pub pairs-same : (ns : List Naming) (named table : List (Option ℕ)) → ((c : ℕ) → c < 256 → get_or named c None ≡ last_named p c None ns)
      → Renames p own gs named table → (m c : ℕ) → c + m ≤ 256 → pairs_in table m c ≡ pairs_from p ns gs own m c
  unfolding pairs_in pairs_from
  pairs-same ns named table at r zero c h = refl
  pairs-same ns named table at r (suc m) c h =
      let e : get_or table c None ≡ held_after p own gs (last_named p c None ns) None =
      r.each c (omega arith) ∙ ap (λ (x : Option ℕ). held_after p own gs x None) (at c (omega arith)) in
      ap (λ (x : Option ℕ). pair_in c x ++ pairs_in table m (c + 1)) e
      ∙ ap (λ (x : List Pair). x ++ pairs_in table m (c + 1)) (found-pair c (last_named p c None ns))
      ∙ ap (λ (x : List Pair). pair_of p gs own c (last_named p c None ns) ++ x) (pairs-same ns named table at r m (c + 1) (omega arith))
