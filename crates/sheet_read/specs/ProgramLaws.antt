-- Laws of the program `cut`: the text that was taken grows by a piece, and what is printed fits.
use Prim.Native.Nat.{ℕ, zero, suc, ◌+◌, ◌≤◌, min}
use Rattle.std.proofs.Math.Path.{◌≡◌, refl, subst}
use Rattle.std.proofs.Common.{sym, ap, ◌∙◌, arith, le-ltb, to_z, of_z, SFits, length-append, length-take-le}
use Rattle.std.specs.Prelude.{Bool, true, false, List, [], ◌++◌, ℤ, pos, negsuc, length, take, drop}
use Rattle.std.proofs.lemmas.Bool.{false≢true}
use Rattle.std.specs.Int.Signed.{lt_z}
use Rattle.std.specs.Int.{w64}
use Rattle.std.proofs.lemmas.Int.{to_z-of_z}
use Rattle.io.specs.Counts.{IsPrefixLen, clamp_len}
use Rattle.octets.specs.Octets.{put, Wrote}
use Rattle.sheet.specs.Sheet.{cut_sheet}
use Rattle.sheet.specs.Taking.{Took}
use Rattle.sheet.specs.TakingLaws.{took_none}
use Rattle.sheet_cut.specs.Cutting.{Given, given}
use Rattle.sheet.specs.Pieces.{TakesOn}
use Rattle.sheet.specs.declared.taking.Taking.{Taking}
use Rattle.sheet_read.specs.Program.{Takes, takes, Came, Goes, Begun, begun, Prints, prints}
use Rattle.sheet_read.specs.declared.Next.{Next}
use Rattle.sheet_read.specs.declared.Next.TheVariants.{Failed, End, More}

-- ---- one read

-- a signed number is tested as the machine reads it back from its bits
pub below-zero : (got : ℤ) (b : Bool) → SFits w64 got → lt_z (to_z w64 (of_z w64 got)) (pos 0) ≡ b → lt_z got (pos 0) ≡ b
below-zero got b f e = ap (λ (x : ℤ). lt_z x (pos 0)) (sym (to_z-of_z w64 got f)) ∙ e

pub counted : (got : ℤ) (n most : ℕ) → SFits w64 got → n ≡ clamp_len (to_z w64 (of_z w64 got)) most → n ≡ clamp_len got most
counted got n most f e = e ∙ ap (λ (x : ℤ). clamp_len x most) (to_z-of_z w64 got f)

module _ (piece : List ℕ) (old : Taking) where
  pub goes_failed : (got : ℤ) → lt_z got (pos 0) ≡ true → Goes got piece old old Failed
  unfolding Goes
  goes_failed (negsuc k) e = (refl, refl)
  goes_failed (pos k) e = absurd (false≢true (sym (le-ltb k 0 (omega arith)) ∙ e))

  pub goes_end : (got : ℤ) (n : ℕ) → lt_z got (pos 0) ≡ false → n ≡ clamp_len got (length piece) → n ≡ 0 → Goes got piece old old End
  unfolding Goes Came
  goes_end (negsuc k) n e c z = absurd (false≢true (sym e))
  goes_end (pos k) n e c z = subst (λ (i : ℕ). Came i piece old old End) (sym z ∙ c) (refl, refl)

  came_more : (new : Taking) (r : Next) (n : ℕ) → (n ≡ 0 → ⊥) → Takes (take n piece) old new r → Came n piece old new r
  unfolding Came
  came_more new r zero z t = absurd (z refl)
  came_more new r (suc n) z t = t

  pub goes_more : (got : ℤ) (n : ℕ) (new : Taking) → lt_z got (pos 0) ≡ false → n ≡ clamp_len got (length piece) → (n ≡ 0 → ⊥)
      → TakesOn (take n piece) old new → Goes got piece old new More
  unfolding Goes
  goes_more (negsuc k) n new e c z f = absurd (false≢true (sym e))
  goes_more (pos k) n new e c z f = subst (λ (i : ℕ). Came i piece old new More) c (came_more new More n z (takes refl f))

-- ---- the loop

pub begun_none : (buffer : List ℕ) → Begun 0 0 buffer
begun_none buffer = begun [] (took_none buffer)

module _ (piece : List ℕ) (old new : Taking) where
  takes-more : (bytes : List ℕ) (r : Next) → Takes bytes old new r → Begun old.len old.mode old.buffer.now → Begun new.len new.mode new.buffer.now
  takes-more bytes r (takes e f) (begun text t) = begun (text ++ bytes) (f.grows text t)

  same_begun : new ≡ old → Begun old.len old.mode old.buffer.now → Begun new.len new.mode new.buffer.now
  same_begun e b = subst (λ (t : Taking). Begun t.len t.mode t.buffer.now) (sym e) b

  came_begun : (n : ℕ) (r : Next) → Came n piece old new r → Begun old.len old.mode old.buffer.now → Begun new.len new.mode new.buffer.now
  unfolding Came
  came_begun zero r h b = same_begun h.1 b
  came_begun (suc n) r h b = takes-more (take (suc n) piece) r h b

  -- a turn
  pub goes_begun : (got : ℤ) (r : Next) → Goes got piece old new r → Begun old.len old.mode old.buffer.now → Begun new.len new.mode new.buffer.now
  unfolding Goes
  goes_begun (negsuc k) r h b = same_begun h.1 b
  goes_begun (pos k) r h b = came_begun (min k (length piece)) r h b

pub given_begun : {len mode : ℕ} {buffer : List ℕ} → Begun len mode buffer → Given len buffer
given_begun {len} {mode} {buffer} (begun text t) = given text mode t

pub given-none : (buffer : List ℕ) → Given 0 buffer
given-none buffer = given [] 0 (took_none buffer)

-- ---- what is printed

front_counts : (old bs new : List ℕ) (r : ℕ) → Wrote old 0 bs new r → IsPrefixLen r new
unfolding put
front_counts old bs new r w =
    let n : length new ≡ length bs + length (drop (0 + length bs) old) = ap length w.is ∙ length-append bs (drop (0 + length bs) old) in
    let k : r ≤ length new = omega (arith, n, w.behind) in
    (k, sym (length-take-le r new k))

pub prints_given : (len : ℕ) (buffer old new : List ℕ) (r : ℕ) → Given len buffer
    → ((text : List ℕ) (mode : ℕ) → Took text len mode buffer → Wrote old 0 (cut_sheet text) new r) → (Prints old new r) × IsPrefixLen r new
prints_given len buffer old new r (given text mode t) f = (prints text (f text mode t), front_counts old (cut_sheet text) new r (f text mode t))
