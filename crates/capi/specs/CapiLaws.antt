-- Laws of the entries' answers, by the code's ways out.
use Rattle.std.specs.Prelude.{ℕ, ◌+◌, ◌≤◌, ◌<◌, ◌≡◌, refl, List, [], ◌∷◌, length, set, Result, Ok, Err}
use Rattle.std.proofs.Common.{sym, ◌∙◌, subst, arith}
use Rattle.std.proofs.Math.Path.{ap}
use borrow.Author.Tests.{ne_eqb, lt-ltb, le-ltb}
use Rattle.octets.specs.Pick.{pick}
use Rattle.octets.specs.Octets.{put, Wrote}
use Rattle.octets.specs.PutLaws.{put_one}
use Rattle.refusal.specs.Refusal.{number_of}
use Rattle.refusal.specs.declared.Refusal.{Refusal}
use Rattle.refusal.specs.declared.Refusal.TheVariants.{Truncated, NoSuchNumber}
use Rattle.cff.specs.Font.{Program}
use Rattle.cff.specs.Find.{read_as, item_refusal_lem, item_of}
use Rattle.cff.specs.declared.Counts.{Counts}
use Rattle.cff.specs.declared.ItemKind.{ItemKind}
use Rattle.cff_entries.specs.Kinds.{kind_of}
use Rattle.capi.specs.Capi.{count_words, Answer, given, Answers, no_kind_lem, lookup_refusal, looked_up, item_answer, AnswersItem}

-- ---- the number of a refusal is from 1 to 15

pub number_least : (n : Refusal) → 1 ≤ number_of n
number_least Truncated = omega arith
number_least n = omega arith

pub number_most : (n : Refusal) → number_of n ≤ 15
number_most Truncated = omega arith
number_most n = omega arith

-- ---- one lent slice

-- too little room is lent: 11
pub answers_full : (ws old : List ℕ) (r : ℕ) → r ≡ 11 → length old < length ws → Answers (given ws) old old r
answers_full ws old r e h =
    let t = lt-ltb (length old) (length ws) h in
    record { number = rw t e; written = rw t }

-- the words stand at the start of what was lent
pub answers_given : (ws old new : List ℕ) → length ws ≤ length old → new ≡ put old 0 ws → Answers (given ws) old new 0
answers_given ws old new h e =
    let t = le-ltb (length old) (length ws) h in
    record { number = rw t; written = rw t e }

pub answers_as : {a b : Answer} {old new : List ℕ} {r : ℕ} → Answers a old new r → b ≡ a → Answers b old new r
answers_as {a} {b} {old} {new} {r} h e = subst (λ (x : Answer). Answers x old new r) (sym e) h

-- one word stored
pub answers_word : (w : ℕ) (old : List ℕ) → 1 ≤ length old → Answers (given (w ∷ [])) old (set old 0 w) 0
answers_word w old h = answers_given (w ∷ []) old (set old 0 w) h (put_one old 0 w h)

-- five words stored
pub five_stored : (old : List ℕ) (a b c d e : ℕ) → 5 ≤ length old
    → set (set (set (set (set old 0 a) 1 b) 2 c) 3 d) 4 e ≡ put old 0 (a ∷ b ∷ c ∷ d ∷ e ∷ [])
unfolding put
five_stored [] a b c d e h = absurd (let k : 5 ≤ 0 = h in omega arith)
five_stored (v ∷ []) a b c d e h = absurd (let k : 5 ≤ 1 = h in omega arith)
five_stored (v ∷ w ∷ []) a b c d e h = absurd (let k : 5 ≤ 2 = h in omega arith)
five_stored (v ∷ w ∷ x ∷ []) a b c d e h = absurd (let k : 5 ≤ 3 = h in omega arith)
five_stored (v ∷ w ∷ x ∷ y ∷ []) a b c d e h = absurd (let k : 5 ≤ 4 = h in omega arith)
five_stored (v ∷ w ∷ x ∷ y ∷ z ∷ old) a b c d e h = refl

-- the counts of a font stored
pub answers_counts : (c : Counts) (k : ℕ) → k ≡ pick c.cid 1 0 → (old : List ℕ) → 5 ≤ length old
    → Answers (given (count_words c)) old (set (set (set (set (set old 0 c.glyphs) 1 c.globals) 2 c.strings) 3 k) 4 c.work) 0
answers_counts c k e old h =
    answers_given (count_words c) old _ h
    (five_stored old c.glyphs c.globals c.strings k c.work h
    ∙ ap (λ (x : ℕ). put old 0 (c.glyphs ∷ c.globals ∷ c.strings ∷ x ∷ c.work ∷ [])) e)

-- ---- items

-- the refusal of a lookup: of a kind below 3, and of another
pub lookup-of-kind : (g : Result Program Refusal) (kind number : ℕ) (k : ItemKind) → kind < 3 → k ≡ kind_of kind → (r : Result Unit Refusal) → r ≡ item_refusal_lem g k number
    → r ≡ lookup_refusal g kind number
unfolding lookup_refusal
lookup-of-kind g kind number k h e r f = rw (lt-ltb kind 3 h) (f ∙ ap (λ (x : ItemKind). item_refusal_lem g x number) e)

pub no_kind : (g : Result Program Refusal) (kind number : ℕ) → 3 ≤ kind → Err (no_kind_lem g) ≡ lookup_refusal g kind number
unfolding lookup_refusal
no_kind g kind number h = rw (le-ltb kind 3 h)

no_kind_refused : (g : Result Program Refusal) (n : Refusal) → read_as g ≡ Err n → n ≡ no_kind_lem g
no_kind_refused (Err m) n e = cc
no_kind_refused (Ok p) n e = cc

no_kind-read : (g : Result Program Refusal) (c : Counts) → read_as g ≡ Ok c → NoSuchNumber ≡ no_kind_lem g
no_kind-read (Err m) c e = cc
no_kind-read (Ok p) c e = refl

pub lookup_refused : (g : Result Program Refusal) (kind number : ℕ) → 3 ≤ kind → (n : Refusal) → read_as g ≡ Err n → Err n ≡ lookup_refusal g kind number
lookup_refused g kind number h n e = ap Err (no_kind_refused g n e) ∙ no_kind g kind number h

pub lookup-none : (g : Result Program Refusal) (kind number : ℕ) → 3 ≤ kind → (c : Counts) → read_as g ≡ Ok c → Err NoSuchNumber ≡ lookup_refusal g kind number
lookup-none g kind number h c e = ap Err (no_kind-read g c e) ∙ no_kind g kind number h

-- a lookup by its ways out: refused; too few bytes or no word lent; the item and its length written
module _ (g : Result Program Refusal) (kind number : ℕ) (out size : List ℕ) where
  pub item_refused : (n : Refusal) → Err n ≡ lookup_refusal g kind number → (r : ℕ) → r ≡ number_of n → AnswersItem (item_answer g kind number) out out size size r
  unfolding item_answer
  item_refused n e r f =
      let t = ne_eqb r 0 (λ (z : r ≡ 0). omega (arith, f, z, number_least n)) in
      subst (λ (x : Result Unit Refusal). AnswersItem (looked_up x (item_of g (kind_of kind) number)) out out size size r) e
      (record { number = f; item = rw t; measured = rw t })

  module _ (u : Unit {0}) (e : Ok u ≡ lookup_refusal g kind number) (bs : List ℕ) (k : ItemKind) (i : k ≡ kind_of kind) (f : bs ≡ item_of g k number) where
    given-item : item_answer g kind number ≡ given bs
    unfolding item_answer
    given-item =
        sym (ap (λ (x : Result Unit Refusal). looked_up x (item_of g (kind_of kind) number)) e)
        ∙ ap given (sym (f ∙ ap (λ (x : ItemKind). item_of g x number) i))

    pub item_no_bytes : (r : ℕ) → r ≡ 11 → length out < length bs → AnswersItem (item_answer g kind number) out out size size r
    item_no_bytes r z h =
        let t = lt-ltb (length out) (length bs) h in
        let m : AnswersItem (given bs) out out size size 11 = record { number = rw t; item = refl; measured = refl } in
        rw (given-item, z) m

    pub item_no_word : (r : ℕ) → r ≡ 11 → length bs ≤ length out → length size < 1 → AnswersItem (item_answer g kind number) out out size size r
    item_no_word r z h j =
        let t = le-ltb (length out) (length bs) h in
        let v = lt-ltb (length size) 1 j in
        let m : AnswersItem (given bs) out out size size 11 = record { number = rw (t, v); item = refl; measured = refl } in
        rw (given-item, z) m

    pub item-written : length bs ≤ length out → 1 ≤ length size → (new : List ℕ) (end : ℕ) → Wrote out 0 bs new end
        → AnswersItem (item_answer g kind number) out new size (set size 0 end) 0
    item-written h j new end w =
        let t = le-ltb (length out) (length bs) h in
        let v = le-ltb (length size) 1 j in
        let o : 0 + length bs ≡ length bs = omega arith in
        let s : end ≡ length bs = w.behind ∙ o in
        let m : AnswersItem (given bs) out new size (set size 0 end) 0 =
        record { number = rw (t, v); item = w.is; measured = put_one size 0 end j ∙ ap (λ (x : ℕ). put size 0 (x ∷ [])) s } in
        rw given-item m
