-- Laws of words that hold a set: a word is known by its bits, and each bit says whether its number is in the set.
use Rattle.std.specs.Prelude.{ℕ, zero, suc, ◌+◌, ◌*◌, ◌/◌, ◌%◌, ◌^◌, ◌≤◌, ◌<◌, ◌≡◌, refl, Bool, true, false, List, eqb, length, take, drop, get_or, replicate}
use Rattle.std.proofs.Common.{sym, ap, ◌∙◌, pow-suc, add-zero, arith, eq-eqb, ne_eqb, lt-ltb, shr-shr, ext_get_or, get_or-drop, get_or-take, take_all}
use Rattle.std.proofs.Math.Nat.{zero-div}
use Rattle.std.proofs.lemmas.List.{get_or-replicate}
use Rattle.octets.specs.Pick.{pick}
use Rattle.bits.specs.Bits.{words_for, bit_in, below, word_of, words_of, bits_of}

-- ---- a word

digit-of : (t : Bool) (w : ℕ) → eqb ((pick t 1 0 + 2 * w) % 2) 1 ≡ t
digit-of true w = let e : (1 + 2 * w) % 2 ≡ 1 = omega arith in eq-eqb _ _ e
digit-of false w = let e : (0 + 2 * w) % 2 ≡ 0 = omega arith in ne_eqb ((0 + 2 * w) % 2) 1 (λ z. omega arith)

pick-half : (t : Bool) (w : ℕ) → (pick t 1 0 + 2 * w) / 2 ≡ w
pick-half true w = omega arith
pick-half false w = omega arith

-- a later digit is one of the half
later : (w b : ℕ) → w / 2 ^ suc b ≡ w / 2 / 2 ^ b
later w b = let e : suc b ≡ 1 + b = omega arith in ap (λ (k : ℕ). w / 2 ^ k) e ∙ sym (shr-shr w 1 b)

first-digit : (w : ℕ) → w / 2 ^ 0 % 2 ≡ w % 2
first-digit w = omega arith

pub word-digit : (set : ℕ → Bool) (k n b : ℕ) → b < n → eqb (word_of set k n / 2 ^ b % 2) 1 ≡ set (k + b)
unfolding word_of
word-digit set k zero b h = absurd (omega arith)
word-digit set k (suc n) zero h =
    ap (λ (x : ℕ). eqb x 1) (first-digit (pick (set k) 1 0 + 2 * word_of set (k + 1) n)) ∙ digit-of (set k) (word_of set (k + 1) n) ∙ ap set (sym (add-zero k))
word-digit set k (suc n) (suc b) h =
    let e : k + 1 + b ≡ k + suc b = omega arith in
    ap (λ (x : ℕ). eqb (x % 2) 1) (later (pick (set k) 1 0 + 2 * word_of set (k + 1) n) b ∙ ap (λ (x : ℕ). x / 2 ^ b) (pick-half (set k) (word_of set (k + 1) n)))
    ∙ word-digit set (k + 1) n b (omega arith) ∙ ap set e

digit-back : (t : Bool) (d : ℕ) → d < 2 → eqb d 1 ≡ t → d ≡ pick t 1 0
digit-back t zero h e = ap (λ (u : Bool). pick u 1 0) e
digit-back t (suc zero) h e = ap (λ (u : Bool). pick u 1 0) e
digit-back t (suc (suc d)) h e = absurd (omega arith)

-- a word is known by its bits
pub word-known : (set : ℕ → Bool) (n k w : ℕ) → w < 2 ^ n → ((b : ℕ) → b < n → eqb (w / 2 ^ b % 2) 1 ≡ set (k + b)) → w ≡ word_of set k n
unfolding word_of
word-known set zero k w h f = omega arith
word-known set (suc n) k w h f =
    let p = pow-suc 2 n in
    let d : w % 2 ≡ pick (set k) 1 0
    = digit-back (set k) (w % 2) (omega arith) (ap (λ (x : ℕ). eqb x 1) (sym (first-digit w)) ∙ f 0 (omega arith) ∙ ap set (add-zero k)) in
    let r : w / 2 ≡ word_of set (k + 1) n
    = word-known set n (k + 1) (w / 2) (omega (arith, p))
    (λ b l. let e : k + suc b ≡ k + 1 + b = omega arith in ap (λ (x : ℕ). eqb (x % 2) 1) (sym (later w b)) ∙ f (suc b) (omega arith) ∙ ap set e) in
    omega (arith, d, r)

-- ---- words

pub words-length : (set : ℕ → Bool) (k n : ℕ) → length (words_of set k n) ≡ n
unfolding words_of
words-length set k zero = refl
words-length set k (suc n) = ap suc (words-length set (k + 32) n)

words-at : (set : ℕ → Bool) (n k j : ℕ) → j < n → get_or (words_of set k n) j 0 ≡ word_of set (k + 32 * j) 32
unfolding words_of
words-at set zero k j h = absurd (omega arith)
words-at set (suc n) k zero h = let e : k ≡ k + 32 * 0 = omega arith in ap (λ (i : ℕ). word_of set i 32) e
words-at set (suc n) k (suc j) h =
    let e : k + 32 + 32 * j ≡ k + 32 * suc j = omega arith in
    words-at set n (k + 32) j (omega arith) ∙ ap (λ (i : ℕ). word_of set i 32) e

-- words are known by their bits
pub words-known : (set : ℕ → Bool) (n : ℕ) (ws : List ℕ) → length ws ≡ n → ((i : ℕ) → get_or ws i 0 < 4294967296)
    → ((i : ℕ) → i < 32 * n → bit_in ws 0 i ≡ set i) → ws ≡ words_of set 0 n
words-known set n ws l small f =
    ext_get_or 0 ws (words_of set 0 n) (l ∙ sym (words-length set 0 n))
    (λ j h. let k : j < n = omega (arith, l) in
    word-known set 32 (0 + 32 * j) (get_or ws j 0) (small j) (λ b m. one j b (omega arith) m) ∙ sym (words-at set n 0 j k))
  where
    one : (j b : ℕ) → j < n → b < 32 → eqb (get_or ws j 0 / 2 ^ b % 2) 1 ≡ set (0 + 32 * j + b)
    one j b h m =
        let q : 0 + (32 * j + b) / 32 ≡ j = omega arith in
        let r : (32 * j + b) % 32 ≡ b = omega arith in
        let z : 32 * j + b ≡ 0 + 32 * j + b = omega arith in
        sym (ap (λ (x : ℕ). eqb (get_or ws x 0 / 2 ^ ((32 * j + b) % 32) % 2) 1) q ∙ ap (λ (x : ℕ). eqb (get_or ws j 0 / 2 ^ x % 2) 1) r)
        ∙ f (32 * j + b) (omega arith) ∙ ap set z

-- a bit of a set's words, where they stand in others from a place on
pub held-bit : (ws : List ℕ) (at : ℕ) (set : ℕ → Bool) (n : ℕ) → take n (drop at ws) ≡ words_of set 0 n → (i : ℕ) → i < 32 * n → bit_in ws at i ≡ set i
held-bit ws at set n e i h =
    let k : i / 32 < n = omega arith in
    let z : 0 + 32 * (i / 32) + i % 32 ≡ i = omega arith in
    let w : get_or ws (at + i / 32) 0 ≡ word_of set (0 + 32 * (i / 32)) 32
    = sym (get_or-drop at ws (i / 32) 0) ∙ sym (get_or-take n (drop at ws) (i / 32) 0 k) ∙ ap (λ (l : List ℕ). get_or l (i / 32) 0) e ∙ words-at set n 0 (i / 32) k in
    ap (λ (x : ℕ). eqb (x / 2 ^ (i % 32) % 2) 1) w ∙ word-digit set (0 + 32 * (i / 32)) 32 (i % 32) (omega arith) ∙ ap set z

-- a bit of a set's words
pub own-bit : (set : ℕ → Bool) (n i : ℕ) → i < 32 * n → bit_in (words_of set 0 n) 0 i ≡ set i
own-bit set n i h =
    let l : length (words_of set 0 n) ≤ n = omega (arith, words-length set 0 n) in
    held-bit (words_of set 0 n) 0 set n (take_all n (words_of set 0 n) l) i h

-- a bit says whether its number is in the set
pub bit-told : (ws : List ℕ) (at count : ℕ) (set : ℕ → Bool) → take (words_for count) (drop at ws) ≡ bits_of set count → (i : ℕ) → i < count → bit_in ws at i ≡ set i
bit-told ws at count set e i h = held-bit ws at (below set count) (words_for count) e i (omega arith) ∙ ap (λ (t : Bool). pick t (set i) false) (lt-ltb i count h)

-- no bit of a word 0 is set
pub none-set : (n i : ℕ) → i < 32 * n → bit_in (replicate n 0) 0 i ≡ false
none-set n i h =
    let e : ◌≡◌ {A = ℕ} (get_or (replicate n 0) (0 + i / 32) 0) 0 = get_or-replicate {A = ℕ} n (0 + i / 32) 0 0 (omega arith) in
    ap (λ (x : ℕ). eqb (x / 2 ^ (i % 32) % 2) 1) e ∙ zero_bit (i % 32)
  where
    zero_bit : (b : ℕ) → eqb (0 / 2 ^ b % 2) 1 ≡ false
    zero_bit b = rw zero-div
