-- What stands at a place of some bytes: the parts one behind the other, and an INDEX that reads back there (TN5176, section 5).
use Rattle.std.specs.Prelude.{ℕ, ◌+◌, ◌-◌, ◌≤◌, ◌<◌, ◌≡◌, refl, List, ◌++◌, length, take, drop}
use Rattle.std.proofs.Common.{sym, ap, ◌∙◌, arith, length-append, length-drop, take_at, drop_at, drop-drop}
use Rattle.index.specs.Index.{found, read_index}
use Rattle.index.specs.Write.{index_bytes}
use Rattle.index.specs.WriteLaws.{total-within}
use Rattle.index.proofs.IndexRound.{read-written}

module _ (bs : List ℕ) (at : ℕ) (xs post : List ℕ) (lies : drop at bs ≡ xs ++ post) where
  -- what stands behind a part
  pub lies_behind : drop (at + length xs) bs ≡ post
  lies_behind = sym (drop-drop (length xs) at bs) ∙ ap (drop (length xs)) lies ∙ drop_at xs post (length xs) refl

  -- the part itself
  pub lies_part : take (length xs) (drop at bs) ≡ xs
  lies_part = ap (take (length xs)) lies ∙ take_at xs post (length xs) refl

  -- it is within the bytes, where its place is
  pub lies_within : at ≤ length bs → at + length xs ≤ length bs
  lies_within h =
      let k : length bs - at ≡ length xs + length post = sym (length-drop at bs) ∙ ap length lies ∙ length-append xs post in
      omega arith

-- an INDEX in a font that is not too long reads back
pub index_back : (bs : List ℕ) (at : ℕ) (items : List (List ℕ)) (post : List ℕ) → length items < 65536 → length bs ≤ 67108864
    → drop at bs ≡ index_bytes items ++ post → read_index bs at ≡ found items (at + length (index_bytes items))
index_back bs at items post few short lies =
    let k : length bs - at ≡ length (index_bytes items) + length post = sym (length-drop at bs) ∙ ap length lies ∙ length-append (index_bytes items) post in
    read-written bs at items post few (omega (arith, total-within items)) lies
