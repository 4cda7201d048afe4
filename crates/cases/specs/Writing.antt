-- Writing piece by piece: writing what is left gives what writing all of it gives.
use Rattle.std.specs.Prelude.{ℕ, ◌+◌, ◌-◌, ◌≤◌, ◌≡◌, refl, List, [], ◌++◌, length, take, drop}
use Rattle.std.proofs.Common.{sym, ap, ◌∙◌, arith, length-append, length-drop, drop-drop, take_all}
use Rattle.std.proofs.lemmas.Slice.{take-put_mid}
use borrow.Rule.Slice.PartMut.{put_mid, same_len_mid}
use Rattle.octets.specs.Octets.{put, Wrote}
use Rattle.octets.specs.declared.out.Out.{Out}
use Rattle.octets.specs.Out.{Writes}
use Rattle.octets.specs.PutLaws.{put-put, put-length, wrote-length}
use Rattle.hexlines.specs.HexlinesLaws.{put_done}

-- a part is written, and the rest is still to be
pub wrote_on : {old new bs : List ℕ} {p q : ℕ} (left : List ℕ) → p ≤ length old → Wrote old p bs new q → put new q left ≡ put old p (bs ++ left)
wrote_on {old} {new} {bs} {p} {q} left h w =
    ap (λ (o : List ℕ). put o q left) w.is ∙ ap (λ (k : ℕ). put (put old p bs) k left) w.behind ∙ put-put old p bs left h

-- all of it goes from a place of old on; some is in new, up to p, and the rest is left
pub record Writing (old : List ℕ) (at : ℕ) (all new : List ℕ) (p : ℕ) (left : List ℕ) : Type 0 where
  pub size : length new ≡ length old
  pub ends : p + length left ≡ at + length all
  pub puts : put new p left ≡ put old at all

pub writing_start : (old : List ℕ) (at : ℕ) (all : List ℕ) → Writing old at all old at all
writing_start old at all = record { size = refl; ends = refl; puts = refl }

module _ {old : List ℕ} {at : ℕ} {all new : List ℕ} {p : ℕ} {left : List ℕ} (w : Writing old at all new p left) where
  pub writing_end : left ≡ [] → Wrote old at all new p
  writing_end e = put_done old new at p all left e w.ends w.puts

  module _ (bs rest : List ℕ) (e : left ≡ bs ++ rest) (fits : at + length all ≤ length old) where
    pub writing-room : p + length bs ≤ length new
    writing-room = let n = ap length e ∙ length-append bs rest in omega (arith, n, w.ends, w.size)

    pub writing-turn : (newer : List ℕ) (q : ℕ) → Wrote new p bs newer q → Writing old at all newer q rest
    writing-turn newer q x =
        let n = ap length e ∙ length-append bs rest in
        record {
          size = wrote-length x writing-room ∙ w.size;
          ends = omega (arith, n, x.behind, w.ends);
          puts = wrote_on rest (omega (arith, writing-room)) x ∙ ap (put new p) (sym e) ∙ w.puts;
        }

-- ---- a part to its end

module _ (old sub bs : List ℕ) (q k : ℕ) (room : q + length bs ≤ length old) (w : Wrote (take (length old - q) (drop q old)) 0 bs sub k) where
  left : take (length old - q) (drop q old) ≡ drop q old
  left = take_all (length old - q) (drop q old) (omega (arith, length-drop q old))

  long : length (drop q old) ≡ length old - q
  long = length-drop q old

  held : sub ≡ put (drop q old) 0 bs
  held = w.is ∙ ap (λ (l : List ℕ). put l 0 bs) left

  size : length sub ≡ length old - q
  size = ap length held ∙ put-length (drop q old) 0 bs (omega (arith, long)) ∙ long

  all : put_mid q (length old - q) old sub ≡ take q old ++ sub
  all =
      let n : length (put_mid q (length old - q) old sub) ≡ length old = same_len_mid q (length old - q) old sub (size ∙ sym long ∙ ap length (sym left)) in
      sym (take_all (length old) (put_mid q (length old - q) old sub) (omega (arith, n)))
      ∙ take-put_mid q (length old - q) old sub (length old) (omega (arith, size)) (omega arith)

  -- what was written to the start of what is left was written from there on
  pub wrote_part : Wrote old q bs (put_mid q (length old - q) old sub) (q + k)
  unfolding put
  wrote_part =
      let z : 0 + length bs ≡ length bs = omega arith in
      record {
        is = all ∙ ap (λ (l : List ℕ). take q old ++ l) (held ∙ ap (λ (l : List ℕ). bs ++ l) (ap (λ (n : ℕ). drop n (drop q old)) z ∙ drop-drop (length bs) q old));
        behind = omega (arith, w.behind);
      }

-- ---- at an output's place

-- all goes to old's place on; some is in new, up to its place, and the rest is left
pub record WritingOn (old : Out) (all : List ℕ) (new : Out) (left : List ℕ) : Type 0 where
  pub writing : Writing old.bytes.now old.at all new.bytes.now new.at left
  pub same : new.bytes.ghost_name ≡ old.bytes.ghost_name

pub on_start : (old : Out) (all : List ℕ) → WritingOn old all old all
on_start old all = record { writing = writing_start old.bytes.now old.at all; same = refl }

module _ {old : Out} {all : List ℕ} {new : Out} {left : List ℕ} (w : WritingOn old all new left) where
  pub on_end : left ≡ [] → Writes old all new
  on_end e = record { wrote = writing_end w.writing e; same = w.same; size = w.writing.size }

  pub on_turn : (bs rest : List ℕ) → left ≡ bs ++ rest → old.at + length all ≤ length old.bytes.now → {newer : Out} → Writes new bs newer → WritingOn old all newer rest
  on_turn bs rest e fits {newer} x =
      record { writing = writing-turn w.writing bs rest e fits newer.bytes.now newer.at x.wrote; same = x.same ∙ w.same }
