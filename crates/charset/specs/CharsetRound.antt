-- A charset that was written reads back.
use Rattle.std.specs.Prelude.{ℕ, suc, ◌+◌, ◌≤◌, ◌<◌, ◌≡◌, refl, List, [], ◌∷◌, ◌++◌, length, take, drop, get_or, Ok}
use Rattle.std.proofs.Common.{sym, ap, ◌∙◌, append_assoc, not-suc-le-zero, arith, le-ltb, length-append}
use Rattle.octets.specs.Octets.{be, bytes_of}
use Rattle.octets.specs.OctetsLaws.{length-bytes, be-front, drop-front}
use Rattle.charset.specs.Listed.{onward}
use Rattle.charset.specs.Charset.{ids_from, charset_at}
use Rattle.charset.specs.CharsetBytes.{Ids, id_bytes, charset_bytes}

each_back : (ids : List ℕ) (i : ℕ) (post : List ℕ) → Ids ids → ids_from 0 (length ids) i 0 (id_bytes ids ++ post) ≡ Ok ids
unfolding ids_from id_bytes be
each_back [] i post small = refl
each_back (x ∷ ids) i post small =
    let a = append_assoc (bytes_of 2 x) (id_bytes ids) post in
    let n : 2 ≤ length (bytes_of 2 x ++ (id_bytes ids ++ post)) = rw length-append (omega (arith, length-bytes 2 x)) in
    let f : be 0 (take 2 (bytes_of 2 x ++ (id_bytes ids ++ post))) ≡ x = be-front 2 x (id_bytes ids ++ post) (small 0) in
    let d : drop 2 (bytes_of 2 x ++ (id_bytes ids ++ post)) ≡ id_bytes ids ++ post = drop-front 2 x (id_bytes ids ++ post) in
    simp (a, le-ltb (length (bytes_of 2 x ++ (id_bytes ids ++ post))) 2 n, f, d) (ap (onward x) (each_back ids (x + 1) post (λ k. small (suc k))))

pub charset-round : (b : List ℕ) (at : ℕ) (ids post : List ℕ) → drop at b ≡ charset_bytes ids ++ post → 0 < length ids → get_or ids 0 0 ≡ 0 → Ids ids
    → charset_at b at (length ids) ≡ Ok ids
unfolding charset_at charset_bytes ids_from
charset-round b at [] post lies some first small = absurd (not-suc-le-zero some)
charset-round b at (x ∷ ids) post lies some first small =
    rw lies (ap (onward 0) (each_back ids 1 post (λ k. small (suc k))) ∙ ap (λ (y : ℕ). Ok (y ∷ ids)) (sym first))
