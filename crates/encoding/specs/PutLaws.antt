-- Laws of writing: one pair, the pairs that are left, and the whole encoding.
use Rattle.std.specs.Prelude.{ℕ, suc, ◌+◌, ◌-◌, ◌≤◌, ◌<◌, ◌≡◌, refl, get_or, None, Option, Some}
use Rattle.std.proofs.Math.Path.{sym, ap}
use Rattle.std.proofs.Common.{◌∙◌, subst, arith, get_or-take, length-append}
use mathlib.Core.List.{List, [], ◌∷◌, ◌++◌, append-nil}
use Rattle.std.proofs.Math.ListN.{length, take}
use Rattle.octets.specs.Octets.{bytes_of, put}
use Rattle.octets.specs.OctetsLaws.{length-bytes}
use Rattle.octets.specs.PutLaws.{put_nil, put-put}
use Rattle.octets.specs.declared.out.Out.{Out}
use Rattle.octets.specs.Out.{Writes}
use Rattle.octets.specs.OutLaws.{writes_none, writes_then, writes_as, writes-room}
use Rattle.subset.specs.Codes.{pair_count, pair_bytes, coded_bytes}
use Rattle.encoding.specs.Encoded.{pairs_of, pair_in, pairs_in, coded_in, Encodes}
use Rattle.encoding.specs.PairLaws.{pair-bytes-append, pairs-more, pairs-none, pairs_alike}
use Rattle.encoding.specs.declared.Encoding.{Encoding}
use Rattle.encoding.specs.declared.Encoding.TheVariants.{Absent, Expert, Pairs}

-- ---- one pair

-- the bytes of the pair of a code, where there is one
one-bytes : (code id : ℕ) → pair_bytes (pair_in code (Some id)) ≡ (code ∷ []) ++ bytes_of 2 id
unfolding pair_bytes
one-bytes code id = ap (λ (l : List ℕ). code ∷ l) (append-nil (bytes_of 2 id))

pub one_none : (old : Out) (code : ℕ) (held : Option ℕ) → held ≡ None → Writes old (pair_bytes (pair_in code held)) old
unfolding pair_bytes
one_none old code held h = writes_as (writes_none old) (sym (ap (λ (o : Option ℕ). pair_bytes (pair_in code o)) h))

module _ (old : Out) (code : ℕ) (held : Option ℕ) (id : ℕ) (h : held ≡ Some id) (room : old.at + length (pair_bytes (pair_in code held)) ≤ length old.bytes.now) where
  is-bytes : pair_bytes (pair_in code held) ≡ (code ∷ []) ++ bytes_of 2 id
  is-bytes = ap (λ (o : Option ℕ). pair_bytes (pair_in code o)) h ∙ one-bytes code id

  pub one-room : old.at + 3 ≤ length old.bytes.now
  one-room =
      let l : length (pair_bytes (pair_in code held)) ≡ suc (length (bytes_of 2 id)) = ap length is-bytes in
      omega (arith, length-bytes 2 id)

  pub one-second : {mid : Out} → Writes old (code ∷ []) mid → mid.at + 2 ≤ length mid.bytes.now
  one-second w = writes-room 2 w one-room

  pub one-wrote : {mid new : Out} → Writes old (code ∷ []) mid → Writes mid (bytes_of 2 id) new → Writes old (pair_bytes (pair_in code held)) new
  one-wrote v w = writes_as (writes_then (omega (arith, one-room)) v w) (sym is-bytes)

-- ---- all pairs

-- those from code c on are left to write
pub record PairsLeft (table : List (Option ℕ)) (old out : Out) (c : ℕ) : Type 0 where
  pub within : c ≤ 256
  pub same : out.bytes.ghost_name ≡ old.bytes.ghost_name
  pub size : length out.bytes.now ≡ length old.bytes.now
  pub behind : out.at + length (pair_bytes (pairs_in table (256 - c) c)) ≡ old.at + length (pair_bytes (pairs_in table 256 0))
  pub puts : put out.bytes.now out.at (pair_bytes (pairs_in table (256 - c) c)) ≡ put old.bytes.now old.at (pair_bytes (pairs_in table 256 0))

pub left-start : (table : List (Option ℕ)) (old : Out) → PairsLeft table old old 0
left-start table old = record { within = omega arith; same = refl; size = refl; behind = refl; puts = refl }

module _ (table : List (Option ℕ)) (old out : Out) (c : ℕ) (room : old.at + length (pair_bytes (pairs_in table 256 0)) ≤ length old.bytes.now)
    (l : PairsLeft table old out c) where
  module _ (h : c < 256) where
    rest-bytes : pair_bytes (pairs_in table (256 - c) c) ≡ pair_bytes (pair_in c (get_or table c None)) ++ pair_bytes (pairs_in table (256 - (c + 1)) (c + 1))
    rest-bytes = ap pair_bytes (pairs-more table c h) ∙ pair-bytes-append (pair_in c (get_or table c None)) (pairs_in table (256 - (c + 1)) (c + 1))

    rest-length : length (pair_bytes (pairs_in table (256 - c) c)) ≡ length (pair_bytes (pair_in c (get_or table c None))) + length (pair_bytes (pairs_in table (256 - (c + 1)) (c + 1)))
    rest-length = ap length rest-bytes ∙ length-append (pair_bytes (pair_in c (get_or table c None))) (pair_bytes (pairs_in table (256 - (c + 1)) (c + 1)))

    pub left-room : out.at + length (pair_bytes (pair_in c (get_or table c None))) ≤ length out.bytes.now
    left-room = omega (arith, rest-length, l.behind, l.size)

    pub left-next : {new : Out} → Writes out (pair_bytes (pair_in c (get_or table c None))) new → PairsLeft table old new (c + 1)
    left-next {new} w =
        let xs = pair_bytes (pair_in c (get_or table c None)) in
        let ys = pair_bytes (pairs_in table (256 - (c + 1)) (c + 1)) in
        record {
          within = omega arith;
          same = w.same ∙ l.same;
          size = w.size ∙ l.size;
          behind = omega (arith, rest-length, l.behind, w.wrote.behind);
          puts =
              ap (λ (o : List ℕ). put o new.at ys) w.wrote.is ∙ ap (λ (k : ℕ). put (put out.bytes.now out.at xs) k ys) w.wrote.behind
              ∙ put-put out.bytes.now out.at xs ys (omega (arith, left-room)) ∙ ap (put out.bytes.now out.at) (sym rest-bytes) ∙ l.puts;
        }

  pub left_done : 256 ≤ c → Writes old (pair_bytes (pairs_in table 256 0)) out
  unfolding pair_bytes
  left_done h =
      let z : pair_bytes (pairs_in table (256 - c) c) ≡ [] = ap pair_bytes (pairs-none table c h) in
      let n : length (pair_bytes (pairs_in table (256 - c) c)) ≡ 0 = ap length z in
      record {
        wrote = record { is = sym (put_nil out.bytes.now out.at) ∙ sym (ap (put out.bytes.now out.at) z) ∙ l.puts; behind = omega (arith, l.behind) };
        same = l.same;
        size = l.size;
      }

-- those of the first 256 places
pub pairs_first : (table : List (Option ℕ)) → pairs_in (take 256 table) 256 0 ≡ pairs_in table 256 0
pairs_first table = pairs_alike (take 256 table) table (λ c h. get_or-take 256 table c None h) 256 0 (omega arith)

-- ---- the whole

module _ (out : Out) (table : List (Option ℕ)) (e : Encoding) where
  pub absent-wrote : e ≡ Absent → Writes out (coded_bytes (coded_in e table)) out
  absent-wrote is = writes_as (writes_none out) (sym (ap (λ (x : Encoding). coded_bytes (coded_in x table)) is))

  pub expert-wrote : e ≡ Expert → Writes out (coded_bytes (coded_in e table)) out
  expert-wrote is = writes_as (writes_none out) (sym (ap (λ (x : Encoding). coded_bytes (coded_in x table)) is))

module _ (out : Out) (table : List (Option ℕ)) (e : Encoding) (s : Encodes (coded_in e table) table e) (n : ℕ) (is : e ≡ Pairs n)
    (room : out.at + length (coded_bytes (coded_in e table)) ≤ length out.bytes.now) where
  abbrev rest : List ℕ
  rest = pair_bytes (pairs_in table 256 0)

  counted : n ≡ length (pairs_in table 256 0)
  counted = subst (λ (x : Encoding). pairs_of x ≡ pair_count (coded_in x table)) is s.many

  all-bytes : coded_bytes (coded_in e table) ≡ ((0x80 ∷ 0x00 ∷ []) ++ (n ∷ [])) ++ rest
  all-bytes = ap (λ (x : Encoding). coded_bytes (coded_in x table)) is ∙ ap (λ (m : ℕ). 0x80 ∷ 0x00 ∷ m ∷ rest) (sym counted)

  pub whole_room : out.at + 3 + length rest ≤ length out.bytes.now
  whole_room =
      let l : length (coded_bytes (coded_in e table)) ≡ suc (suc (suc (length rest))) = ap length all-bytes in
      omega arith

  pub count_room : {mid : Out} → Writes out (0x80 ∷ 0x00 ∷ []) mid → mid.at + 1 ≤ length mid.bytes.now
  count_room w = writes-room 1 w (omega (arith, whole_room))

  module _ {mid mid2 : Out} (v : Writes out (0x80 ∷ 0x00 ∷ []) mid) (w : Writes mid (n ∷ []) mid2) where
    pub pairs-room : mid2.at + length rest ≤ length mid2.bytes.now
    pairs-room = writes-room (length rest) w (writes-room (1 + length rest) v (omega (arith, whole_room)))

    pub whole-wrote : {new : Out} → Writes mid2 rest new → Writes out (coded_bytes (coded_in e table)) new
    whole-wrote u = writes_as (writes_then (omega (arith, whole_room)) (writes_then (omega (arith, whole_room)) v w) u) (sym all-bytes)
