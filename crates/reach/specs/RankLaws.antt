-- Laws of ranking: words that were cleared and whose bits were set and counted hold the record's subroutines, and so do they as a part of the work words.
use Rattle.std.specs.Prelude.{ℕ, ◌+◌, ◌*◌, ◌-◌, ◌≤◌, ◌<◌, ◌≡◌, refl, Bool, true, false, List, ◌++◌, eqb, length, take, drop, get_or, replicate}
use Rattle.std.proofs.Common.{sym, ap, ◌∙◌, subst, arith, lt-ltb, le-ltb, drop-drop}
use Rattle.std.proofs.lemmas.List.{length-replicate, get_or-replicate}
use Rattle.std.proofs.Math.ListN.{get_or-eq_default}
use Rattle.octets.specs.Octets.{Octets, put}
use Rattle.octets.specs.Pick.{pick}
use Rattle.unfold.specs.Unfold.{Row}
use Rattle.record.specs.Record.{rows_of}
use Rattle.bits.specs.Bits.{count_below, words_for, bit_in, below, bits_of, whole_ones_lem, eighth, four, sum_below, low_sums, high_sums, ones_to}
use Rattle.bits.specs.BitsLaws.{whole_is, count-alike}
use Rattle.bits.specs.WordsLaws.{words-known, words-length, own-bit, none-set}
use Rattle.subset.specs.Pruned.{reached}
use Rattle.reach.specs.declared.ranks.Ranked.{Ranked}
use Rattle.reach.specs.declared.Subrs.{Subrs}
use Rattle.reach.specs.declared.Subrs.TheVariants.{Global, Local}
use Rattle.reach.specs.Reach.{set_of, ranked_of}
use Rattle.reach.specs.Ranks.{reached_in, marked, past_of, counts_of}
use Rattle.reach.specs.RowLaws.{all_fit}
use Rattle.reach.specs.Cases.{by_order}
use Rattle.reach.specs.CountLaws.{marked-at, marked-past, marked-length, marked-small, count_stays, all-below}

abbrev answer : ℕ → Bool → ℕ → ℕ → Ranked
answer n t low high = record { reached = n; all = t; low = low; high = high }

-- ---- the words

no_words : (n i : ℕ) → get_or (replicate n 0) i 0 < 4294967296
no_words n i =
    by_order i n
    (λ l. let e : ◌≡◌ {A = ℕ} (get_or (replicate n 0) i 0) 0 = get_or-replicate {A = ℕ} n i 0 0 l in omega (arith, e))
    (λ l. let k : length (replicate {A = ℕ} n 0) ≤ i = omega (arith, length-replicate {A = ℕ} n 0) in
    let e : ◌≡◌ {A = ℕ} (get_or (replicate n 0) i 0) 0 = get_or-eq_default (replicate n 0) 0 k in omega (arith, e))

either-none : (t : Bool) → pick t true false ≡ t
either-none true = refl
either-none false = refl

-- words that were cleared, and whose bits were set
marked-words : (rows : List Row) (kind fd count : ℕ) → marked kind fd count rows (replicate (words_for count) 0) ≡ bits_of (reached_in rows kind fd) count
marked-words rows kind fd count =
    words-known (below s count) n ws (marked-length kind fd count rows (replicate n 0) ∙ l) (marked-small kind fd count rows (replicate n 0) long (no_words n))
    (λ i h. by_order i count
    (λ k. marked-at kind fd count rows (replicate n 0) i long k ∙ ap (pick (s i) true) (none-set n i h) ∙ either-none (s i) ∙ sym (rw (lt-ltb i count k)))
    (λ k. marked-past kind fd count rows (replicate n 0) i long k ∙ none-set n i h ∙ sym (rw (le-ltb i count k))))
  where
    s : ℕ → Bool
    s = reached_in rows kind fd

    n : ℕ
    n = words_for count

    l : length (replicate {A = ℕ} n 0) ≡ n
    l = length-replicate n 0

    long : n ≤ length (replicate {A = ℕ} n 0)
    long = omega (arith, l)

    ws : List ℕ
    ws = marked kind fd count rows (replicate n 0)

-- ---- their counts

module _ (s : ℕ → Bool) (count : ℕ) (ws : List ℕ) (is : ws ≡ bits_of s count) (small : (i : ℕ) → get_or ws i 0 < 4294967296)
    (bits : (i : ℕ) → i < 32 * words_for count → bit_in ws 0 i ≡ below s count i) where
  long : length ws ≡ words_for count
  long = ap length is ∙ words-length (below s count) 0 (words_for count)

  -- no more are in the set from a number past the count on
  none_more : (m n : ℕ) → count ≤ m → m ≤ n → count_below (below s count) n ≡ count_below (below s count) m
  none_more m n h k =
      let e : m + (n - m) ≡ n = omega arith in
      sym (ap (count_below (below s count)) e) ∙ count_stays (below s count) m (λ i l. rw (le-ltb i count (omega arith))) (n - m)

  whole : (m : ℕ) → m ≤ words_for count → whole_ones_lem ws 0 m ≡ sum_below s count m
  whole m h = whole_is ws 0 small m ∙ count-alike (bit_in ws 0) (below s count) (32 * m) (λ k l. bits k (omega arith))

  sums : (m : ℕ) → ones_to ws m ≡ sum_below s count m
  sums m =
      by_order (length ws) m
      (λ l. rw (lt-ltb (length ws) m l) (ap (whole_ones_lem ws 0) long ∙ whole (words_for count) (omega arith)
      ∙ sym (none_more (32 * words_for count) (32 * m) (omega arith) (omega (arith, long)))))
      (λ l. rw (le-ltb (length ws) m l) (whole m (omega (arith, long))))

  all_ones : whole_ones_lem ws 0 (length ws) ≡ count_below s count
  all_ones =
      ap (whole_ones_lem ws 0) long ∙ whole (words_for count) (omega arith) ∙ none_more count (32 * words_for count) (omega arith) (omega arith)
      ∙ count-alike (below s count) s count (λ k l. rw (lt-ltb k count l))

  -- four sums at places by the length, and by the count
  four_same : (first : ℕ → ℕ) → four (ones_to ws) (first (eighth (length ws))) (eighth (length ws))
      ≡ four (sum_below s count) (first (eighth (words_for count))) (eighth (words_for count))
  four_same first =
      ap (λ (n : ℕ). four (ones_to ws) (first (eighth n)) (eighth n)) long
      ∙ ap (λ (f : ℕ → ℕ). four f (first (eighth (words_for count))) (eighth (words_for count))) (λ i. λ m. sums m i)

  counts_are : (all : Bool) → all ≡ eqb (reached s) (count_below s count) → counts_of ws all ≡ ranked_of s count
  counts_are all a =
      let low : four (ones_to ws) 0 (eighth (length ws)) ≡ low_sums s count = four_same (λ e. 0) in
      let high : four (ones_to ws) (4 * eighth (length ws)) (eighth (length ws)) ≡ high_sums s count = four_same (λ e. 4 * e) in
      λ i. answer (all_ones i) (a i) (low i) (high i)

words_small : (rows : List Row) (kind fd count : ℕ) (marks : List ℕ) → marks ≡ marked kind fd count rows (replicate (words_for count) 0) → (i : ℕ) → get_or marks i 0 < 4294967296
words_small rows kind fd count marks d i =
    subst (λ (l : List ℕ). get_or l i 0 < 4294967296) (sym d)
    (marked-small kind fd count rows (replicate (words_for count) 0) (omega (arith, length-replicate {A = ℕ} (words_for count) 0)) (no_words (words_for count)) i)

held_bits : (s : ℕ → Bool) (count : ℕ) (marks : List ℕ) → marks ≡ bits_of s count → (i : ℕ) → i < 32 * words_for count → bit_in marks 0 i ≡ below s count i
held_bits s count marks w i h = ap (λ (l : List ℕ). bit_in l 0 i) w ∙ own-bit (below s count) (words_for count) i h

-- the counts as the code finds them
pub counts_as : (ws : List ℕ) (all : Bool) (e n low high : ℕ) → e ≡ eighth (length ws) → n ≡ whole_ones_lem ws 0 (length ws) → low ≡ four (ones_to ws) 0 e
    → high ≡ four (ones_to ws) (4 * e) e → answer n all low high ≡ counts_of ws all
counts_as ws all e n low high a b c d =
    let l : low ≡ four (ones_to ws) 0 (eighth (length ws)) = c ∙ ap (four (ones_to ws) 0) a in
    let h : high ≡ four (ones_to ws) (4 * eighth (length ws)) (eighth (length ws)) = d ∙ ap (λ (x : ℕ). four (ones_to ws) (4 * x) x) a in
    λ i. answer (b i) all (l i) (h i)

-- words cleared, set and counted
pub ranked-rows : (b old clear marks : List ℕ) (kind fd count : ℕ) (all : Bool) → Octets b → count < 65536 → length old ≡ words_for count → clear ≡ replicate (length old) 0
    → (marks ≡ marked kind fd count (rows_of b) clear) × (all ≡ eqb (past_of kind fd count (rows_of b)) 0) → (r : Ranked) → r ≡ counts_of marks all
    → (marks ≡ bits_of (reached_in (rows_of b) kind fd) count) × (r ≡ ranked_of (reached_in (rows_of b) kind fd) count)
ranked-rows b old clear marks kind fd count all o h l c m r q =
    let s = reached_in (rows_of b) kind fd in
    let n = words_for count in
    let d : marks ≡ marked kind fd count (rows_of b) (replicate n 0)
    = m.0 ∙ ap (marked kind fd count (rows_of b)) (c ∙ ap (λ (k : ℕ). replicate k 0) l) in
    let w : marks ≡ bits_of s count = d ∙ marked-words (rows_of b) kind fd count in
    let a : all ≡ eqb (reached s) (count_below s count) = m.1 ∙ all-below kind fd count (rows_of b) (all_fit b o) h in
    (w, q ∙ counts_are s count marks w (words_small (rows_of b) kind fd count marks d) (held_bits s count marks w) all a)

-- ---- a part of the work words

pub globals-set : (rows : List Row) (of : Subrs) → of ≡ Global → reached_in rows 1 0 ≡ set_of rows of
globals-set rows of e = ap (set_of rows) (sym e)

pub locals-set : (rows : List Row) (of : Subrs) (fd : ℕ) → of ≡ Local fd → reached_in rows 0 fd ≡ set_of rows of
locals-set rows of fd e = ap (set_of rows) (sym e)

pub ranked-part : (words new : List ℕ) (at n count : ℕ) (s t : ℕ → Bool) (r : Ranked) → s ≡ t → n ≡ words_for count → at + words_for count ≤ length words
    → (new ≡ bits_of s count) × (r ≡ ranked_of s count)
    → (take at words ++ (new ++ drop (at + n - at) (drop at words)) ≡ put words at (bits_of t count)) × (r ≡ ranked_of t count)
unfolding put
ranked-part words new at n count s t r e l h q =
    let k : at + n - at ≡ words_for count = omega arith in
    let a : new ≡ bits_of t count = q.0 ∙ ap (λ (u : ℕ → Bool). bits_of u count) e in
    let m : length (bits_of t count) ≡ words_for count = words-length (below t count) 0 (words_for count) in
    (rw (a, k, drop-drop, m), q.1 ∙ ap (λ (u : ℕ → Bool). ranked_of u count) e)
