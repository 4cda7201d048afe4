-- Laws of the answers of a charset and of an FDSelect: one number after the other, and the code's ways out.
use Rattle.std.specs.Prelude.{ℕ, ◌+◌, ◌≤◌, ◌<◌, ◌≡◌, List, [], ◌∷◌, ◌++◌, length, get_or, None, Some, Result, Ok, Err}
use Rattle.std.proofs.Common.{sym, ◌∙◌, arith, add-one, drop-cons}
use Rattle.std.proofs.Math.Path.{ap}
use Rattle.std.proofs.Math.ListN.{drop}
use Rattle.std.proofs.Math.Seq.{drop-length}
use borrow.Author.Tests.{lt-ltb, le-ltb, eq-eqb, ne_eqb}
use Rattle.octets.specs.Octets.{num_at, bytes_of}
use Rattle.index.specs.Write.{table_bytes}
use Rattle.charset.specs.Charset.{charset_at}
use Rattle.charset.specs.FdSelect.{fd_select_at}
use Rattle.format_cases.specs.Glyphs.{listed_answer, charset_answer, fd_select_answer}
use Rattle.refusal.specs.declared.Refusal.{Refusal}
use Rattle.refusal.specs.Refusal.{number_of}

module _ (w : ℕ) where
  -- the numbers that are left
  pub numbers-more : (l : List ℕ) (x : ℕ) (t : List ℕ) → l ≡ x ∷ t → table_bytes w l ≡ bytes_of w x ++ table_bytes w t
  unfolding table_bytes
  numbers-more l x t e = ap (table_bytes w) e

  pub numbers_end : (l : List ℕ) → l ≡ [] → table_bytes w l ≡ []
  unfolding table_bytes
  numbers_end l e = ap (table_bytes w) e

  -- the numbers from the k-th on
  pub numbers-next : (l : List ℕ) (k x : ℕ) → k < length l → x ≡ get_or l k 0 → table_bytes w (drop k l) ≡ bytes_of w x ++ table_bytes w (drop (k + 1) l)
  unfolding table_bytes
  numbers-next l k x h e = ap (table_bytes w) (drop-cons l k 0 h) ∙ rw (add-one, e)

  pub numbers-none : (l : List ℕ) (k : ℕ) → k ≡ length l → table_bytes w (drop k l) ≡ []
  unfolding table_bytes
  numbers-none l k e = ap (table_bytes w) (ap (λ (j : ℕ). drop j l) e ∙ drop-length l)

  -- ---- the ways out

  pub listed_refused : (q : Result (List ℕ) Refusal) (e : Refusal) → q ≡ Err e → listed_answer w q ≡ Some (number_of e ∷ [])
  listed_refused q e f = ap (listed_answer w) f

  module _ (q : Result (List ℕ) Refusal) (l : List ℕ) (f : q ≡ Ok l) (n : ℕ) (m : length l ≡ n) where
    pub listed_many : 2000 < n → listed_answer w q ≡ None
    listed_many h = let k : 2000 < length l = omega arith in ap (listed_answer w) f ∙ rw (lt-ltb 2000 (length l) k)

    pub listed_found : n ≤ 2000 → listed_answer w q ≡ Some (0 ∷ table_bytes w l)
    listed_found h = let k : length l ≤ 2000 = omega arith in ap (listed_answer w) f ∙ rw (le-ltb 2000 (length l) k)

module _ (s : List ℕ) where
  pub charset-short : length s < 4 → charset_answer s ≡ None
  unfolding charset_answer
  charset-short h = rw (lt-ltb (length s) 4 h)

  pub fds_short : length s < 4 → fd_select_answer s ≡ None
  unfolding fd_select_answer
  fds_short h = rw (lt-ltb (length s) 4 h)

  module _ (h : 4 ≤ length s) (n : ℕ) (e : n ≡ num_at s 2 2) where
    pub charset-none : n ≡ 0 → charset_answer s ≡ None
    unfolding charset_answer
    charset-none z = rw (le-ltb (length s) 4 h, eq-eqb (num_at s 2 2) 0 (sym e ∙ z))

    module _ (font : List ℕ) (f : font ≡ drop 4 s) (at : ℕ) (a : at ≡ num_at s 0 2) where
      pub charset-whole : (n ≡ 0 → ⊥) → charset_answer s ≡ listed_answer 2 (charset_at font at n)
      unfolding charset_answer
      charset-whole z = rw (le-ltb (length s) 4 h, ne_eqb (num_at s 2 2) 0 (λ x. z (e ∙ x)), f, a, e)

      pub fds_whole : fd_select_answer s ≡ listed_answer 1 (fd_select_at font at n)
      unfolding fd_select_answer
      fds_whole = rw (le-ltb (length s) 4 h, f, a, e)
