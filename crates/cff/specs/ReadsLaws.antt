-- Laws of reading: one step's answer for the next, in place.
use Rattle.std.specs.Prelude.{ℕ, zero, suc, ◌+◌, ◌*◌, ◌≤◌, ◌<◌, min, ◌≡◌, refl, Bool, true, false, ◌&&◌, All, eqb, length, get_or, replicate, None, Option, Some, Result, Ok, Err, IfOk}
use Rattle.std.proofs.Common.{sym, ◌∙◌, add-one, lt-ltb, le-ltb, eqb-true, lit≤, lit<, drop-cons}
use Rattle.std.proofs.Math.Path.{ap, subst}
use mathlib.Core.List.{List, [], ◌∷◌}
use native.Mathlib.Omega.{arith}
use Rattle.std.proofs.lemmas.List.Elements.{All-get_or, All-replicate}
use Rattle.std.proofs.lemmas.List.Quantifiers.{position-Some}
use Rattle.std.proofs.Math.ListN.{drop}
use Rattle.std.proofs.Math.Nat.{min-le_right}
use Rattle.std.proofs.Math.Seq.{drop-nil}
use Rattle.bits.specs.Bits.{words_for}
use Rattle.octets.specs.Octets.{Octets}
use Rattle.octets.specs.Lists.{part_of}
use Rattle.index.specs.Index.{first_of, offsets, run_of, empty_at, index_at, pieces, items_of, read_index}
use Rattle.index.specs.IndexLaws.{items-length}
use Rattle.index.proofs.FoundLaws.{found-good, found-count, read_found, read_refused}
use Rattle.index.specs.declared.Index.{Index}
use Rattle.dict.specs.Dict.{Entry, readings_from, readings_at, gathered, dict_of}
use Rattle.dict.specs.Op.{subrs}
use Rattle.decimal.specs.Values.{trunc_of}
use Rattle.decimal.specs.declared.Decimal.{Decimal}
use Rattle.octets.specs.Pick.{pick}
use Rattle.dict.specs.Op.{private}
use Rattle.dict.specs.Lookup.{Operands, absent, operands, last_from, last_of, one_of, offset_told, offset_as, offset_in, private_as, private_in, private_there}
use Rattle.dict.specs.Places.{refusal_of, listed, entries_of, Good as GoodDict}
use Rattle.dict.specs.Held.{private_read}
use Rattle.dict.proofs.LookupLaws.{good-entries}
use Rattle.cff.specs.Font.{then, Private, index_got, locals_at, private_data, private_at, privates_at, empty_private}
use Rattle.cff.specs.Find.{locals_words}
use Rattle.cff.specs.Reads.{Holds, ReadsItems, private_of, no_private, ReadsPrivate, Known, recall, fd_private, ReadsNext, ReadsLocals}
use Rattle.cff.specs.declared.private.PrivateAt.{PrivateAt}
use Rattle.cff.specs.declared.private.PrivateWords.{PrivateWords}
use Rattle.cff.specs.declared.private.SeenPrivate.{SeenPrivate}
use Rattle.dict.specs.declared.PrivateEntry.{PrivateEntry}
use Rattle.refusal.specs.declared.Refusal.{Refusal}
use Rattle.refusal.specs.declared.Refusal.TheVariants.{Truncated, Malformed}

pub no : ◌≡◌ {A = ℕ} 0 1 → ⊥
no h = omega arith

pub drop-over : {A : Type 0} (k : ℕ) (xs : List A) → length xs ≤ k → drop k xs ≡ []
drop-over k [] h = drop-nil k
drop-over zero (x ∷ xs) h = absurd (no (omega arith))
drop-over (suc k) (x ∷ xs) h = drop-over k xs (omega arith)

-- ---- an INDEX

-- the items of an INDEX that was read can be had
pub index-held : (b : List ℕ) (at : ℕ) → Octets b → (r : Result Index Refusal) → r ≡ index_at b at → IfOk r (Holds b)
index-held b at o (Err n) e = tt
index-held b at o (Ok ix) e = record { good = found-good b at ix (sym e); few = found-count b at ix o (sym e) }

-- the INDEX at a place, read
pub reads-index : (b : List ℕ) (at : ℕ) (r : Result Index Refusal) → r ≡ index_at b at → IfOk r (Holds b) → ReadsItems b (index_got (read_index b at)) r
reads-index b at (Err n) e h = ap index_got (read_refused b at n (sym e))
reads-index b at (Ok ix) e h = (h, ap index_got (read_found b at ix (sym e)))

-- an INDEX of no item
pub none-held : (b : List ℕ) → 2 ≤ length b → Holds b (empty_at 0)
unfolding offsets run_of
none-held b h =
    record {
      good =
          record {
            lies = record { low = lit≤ tt; high = lit≤ tt; placed = omega arith; begins = omega arith; within = omega arith };
            last = first_of b 1 1;
            run = refl;
          };
      few = lit< tt;
    }

pub none-items : (b : List ℕ) → items_of b (empty_at 0) ≡ []
unfolding items_of offsets pieces
none-items b = refl

-- ---- a DICT

-- its refusal, where it is refused, and its entries where it is not
refusal_is : (x : Result (List Entry) Refusal) (n : Refusal) → refusal_of x ≡ Some n → x ≡ Err n
refusal_is (Err m) n e = let i : m ≡ n = cc in ap Err i
refusal_is (Ok es) n e = absurd (no cc)

pub dict_refused : (d : List ℕ) (n : Refusal) → refusal_of (dict_of d) ≡ Some n → dict_of d ≡ Err n
dict_refused d n e = refusal_is (dict_of d) n e

pub dict-good : (d : List ℕ) → refusal_of (dict_of d) ≡ None → GoodDict d
dict-good d e = record { accepted = e }

pub dict-entries : (d : List ℕ) → GoodDict d → dict_of d ≡ Ok (entries_of d)
dict-entries d g = good-entries d g

-- the empty DICT
pub empty-dict : GoodDict []
unfolding dict_of readings_at readings_from gathered
empty-dict = record { accepted = refl }

pub empty-entries : entries_of [] ≡ []
unfolding readings_at readings_from listed
empty-entries = refl

-- ---- offsets and sizes of a DICT are below 2^32, or stand for all past every font

small-pick : (s t : Bool) (m v : ℕ) → m ≤ 4294967296 → offset_told (pick s (Err Malformed) (pick t (Ok m) (Err Malformed))) ≡ Ok (Some v) → v ≤ 4294967296
small-pick true t m v k h = absurd (no cc)
small-pick false true m v k h = let e : m ≡ v = cc in omega arith
small-pick false false m v k h = absurd (no cc)

small_one : (o : Option Decimal) (v : ℕ) → offset_as o ≡ Ok (Some v) → v ≤ 4294967296
small_one None v h = absurd (no cc)
small_one (Some d) v h = small-pick d.neg (eqb d.down 0) (min (trunc_of d) 4294967296) v (min-le_right _ _) h

pub offset-small : (op : ℕ) (es : List Entry) (r : Result (Option ℕ) Refusal) (v : ℕ) → r ≡ offset_in op es → r ≡ Ok (Some v) → v ≤ 4294967296
offset-small op es r v e f = small_one (one_of op es) v (sym e ∙ f)

same_entry : (p q : PrivateEntry) (r s : Result (Option PrivateEntry) Refusal) → r ≡ Ok (Some p) → s ≡ Ok (Some q) → r ≡ s → p ≡ q
same_entry p q r s a b h = cc

small-pair : (s t : Bool) (m n size offset : ℕ) → m ≤ 4294967296 → n ≤ 4294967296
    → pick s (Err Malformed) (pick t (Err Malformed) (private_there m n)) ≡ private_there size offset → (size ≤ 4294967296) × (offset ≤ 4294967296)
small-pair true t m n size offset j k h = absurd (no cc)
small-pair false true m n size offset j k h = absurd (no cc)
small-pair false false m n size offset j k h =
    let q = same_entry (record { size = m; offset = n }) (record { size = size; offset = offset }) (private_there m n) (private_there size offset) refl refl h in
    let e : m ≡ size = ap (λ (x : PrivateEntry). x.size) q in
    let f : n ≡ offset = ap (λ (x : PrivateEntry). x.offset) q in
    (omega arith, omega arith)

small-private : (p : Operands) (size offset : ℕ) → private_as p ≡ private_there size offset → (size ≤ 4294967296) × (offset ≤ 4294967296)
small-private absent size offset h = absurd (no cc)
small-private (operands []) size offset h = absurd (no cc)
small-private (operands (s ∷ [])) size offset h = absurd (no cc)
small-private (operands (s ∷ o ∷ [])) size offset h =
    small-pair s.neg o.neg (min (trunc_of s) 4294967296) (min (trunc_of o) 4294967296) size offset (min-le_right _ _) (min-le_right _ _) h
small-private (operands (s ∷ o ∷ d ∷ ds)) size offset h = absurd (no cc)

pub private-small : (es : List Entry) (r : Result (Option PrivateEntry) Refusal) (size offset : ℕ) → r ≡ private_in es → r ≡ private_there size offset
    → (size ≤ 4294967296) × (offset ≤ 4294967296)
private-small es r size offset e f = small-private (last_of private es) size offset (sym e ∙ f)

-- ---- a step and the next

pub then_refused : {A B : Type 0} (g : Result A Refusal) (f : A → Result B Refusal) (n : Refusal) → g ≡ Err n → then g f ≡ Err n
then_refused g f n e = ap (λ x. then x f) e

pub then-got : {A B : Type 0} (g : Result A Refusal) (f : A → Result B Refusal) (a : A) → g ≡ Ok a → then g f ≡ f a
then-got g f a e = ap (λ x. then x f) e

-- ---- the local subroutines of a Private DICT

pub locals_refused : (b : List ℕ) (offset : ℕ) (s : Result (Option ℕ) Refusal) (n : Refusal) → Err n ≡ s → ReadsItems b (locals_at b offset s) (Err n)
unfolding locals_at
locals_refused b offset s n e = ap (locals_at b offset) (sym e)

module _ (b : List ℕ) (offset : ℕ) (s r : Result (Option ℕ) Refusal) (e : r ≡ s) where
  pub locals-none : 2 ≤ length b → r ≡ Ok None → (ix : Index) → ix ≡ empty_at 0 → ReadsItems b (locals_at b offset s) (Ok ix)
  unfolding locals_at
  locals-none h q ix i =
      subst (λ x. ReadsItems b (locals_at b offset s) (Ok x)) (sym i)
      (none-held b h, ap (locals_at b offset) (sym e ∙ q) ∙ ap Ok (sym (none-items b)))

  pub locals-read : (v : ℕ) → r ≡ Ok (Some v) → (x : Result Index Refusal) → x ≡ index_at b (offset + v) → IfOk x (Holds b) → ReadsItems b (locals_at b offset s) x
  unfolding locals_at
  locals-read v q x i h = subst (λ g. ReadsItems b g x) (sym (ap (locals_at b offset) (sym e ∙ q))) (reads-index b (offset + v) x i h)

-- ---- a Private DICT

module _ (b : List ℕ) (size offset : ℕ) where
  pub private-short : length b < offset + size → ReadsPrivate b (private_data b size offset) (Err Truncated)
  unfolding private_data
  private-short h = rw (lt-ltb (length b) (offset + size) h)

  module _ (fits : offset + size ≤ length b) (d : List ℕ) (part : d ≡ part_of b offset size) where
    pub private-bad : (n : Refusal) → refusal_of (dict_of d) ≡ Some n → ReadsPrivate b (private_data b size offset) (Err n)
    unfolding private_data
    private-bad n checked =
        rw (le-ltb (length b) (offset + size) fits)
        (then_refused _ _ n (ap dict_of (sym part) ∙ dict_refused d n checked))

    module _ (checked : refusal_of (dict_of d) ≡ None) where
      whole : dict_of (part_of b offset size) ≡ Ok (entries_of d)
      whole = ap dict_of (sym part) ∙ dict-entries d (dict-good d checked)

      pub private-unread : (n : Refusal) → ReadsItems b (locals_at b offset (offset_in subrs (entries_of d))) (Err n) → ReadsPrivate b (private_data b size offset) (Err n)
      unfolding private_data
      private-unread n reads = rw (le-ltb (length b) (offset + size) fits) (then-got _ _ (entries_of d) whole ∙ then_refused _ _ n reads)

      pub private-found : (ix : Index) → ReadsItems b (locals_at b offset (offset_in subrs (entries_of d))) (Ok ix)
          → ReadsPrivate b (private_data b size offset) (Ok (record { start = offset; size = size; locals = ix }))
      unfolding private_data
      private-found ix reads = (
        record { within = fits; dict = subst GoodDict part (dict-good d checked); locals = reads.0 },
        rw (le-ltb (length b) (offset + size) fits)
            (then-got _ _ (entries_of d) whole ∙ then-got _ _ (items_of b ix) reads.1 ∙ ap (λ x. Ok (record { entries = entries_of x; locals = items_of b ix })) part),
      )

-- the entry is refused
pub private_refused : (b : List ℕ) (s : Result (Option PrivateEntry) Refusal) (n : Refusal) → Err n ≡ s → private_at b s ≡ Err n
unfolding private_at
private_refused b s n e = ap (private_at b) (sym e)

module _ (b : List ℕ) (s r : Result (Option PrivateEntry) Refusal) (e : r ≡ s) where
  pub private-none : 2 ≤ length b → r ≡ Ok None → (q : PrivateAt) → q ≡ no_private → ReadsPrivate b (private_at b s) (Ok q)
  unfolding private_at
  private-none h f q i =
      subst (λ x. ReadsPrivate b (private_at b s) (Ok x)) (sym i) (
        record { within = omega arith; dict = empty-dict; locals = none-held b h },
        ap (private_at b) (sym e ∙ f)
            ∙ ap (λ es. Ok (record { entries = es; locals = [] })) (sym empty-entries)
            ∙ ap (λ l. Ok (record { entries = entries_of []; locals = l })) (sym (none-items b)),
      )

  pub private-read : (size offset : ℕ) → r ≡ private_there size offset → (x : Result PrivateAt Refusal) → ReadsPrivate b (private_data b size offset) x → ReadsPrivate b (private_at b s) x
  unfolding private_at
  private-read size offset f x h = subst (λ g. ReadsPrivate b g x) (sym (ap (private_at b) (sym e ∙ f))) h

  -- ---- the next FD's

  pub next-read : (size offset : ℕ) → r ≡ private_there size offset → (x : Result SeenPrivate Refusal) → ReadsNext b (private_data b size offset) x → ReadsNext b (private_at b s) x
  unfolding private_at
  next-read size offset f x h = subst (λ g. ReadsNext b g x) (sym (ap (private_at b) (sym e ∙ f))) h

-- no Private DICT is one of no bytes at 0
pub none-data : (b : List ℕ) → private_data b 0 0 ≡ Ok empty_private
unfolding private_data locals_at last_of last_from
none-data b =
    rw (le-ltb (length b) 0 (omega arith))
    (then-got _ _ [] (dict-entries [] empty-dict ∙ ap Ok empty-entries))

-- none is remembered so
abbrev pub no_words : PrivateWords
no_words = record { size = 0; offset = 0; words = 0 }

known-none : (b : List ℕ) → Known b no_words
known-none b = record { private = empty_private; few = lit< tt; counted = refl; is = none-data b }

pub next-none : (b : List ℕ) (s r : Result (Option PrivateEntry) Refusal) → r ≡ s → r ≡ Ok None → (x : Result SeenPrivate Refusal) → ReadsNext b (private_data b 0 0) x → ReadsNext b (private_at b s) x
unfolding private_at
next-none b s r e f x h = subst (λ g. ReadsNext b g x) (none-data b ∙ sym (ap (private_at b) (sym e ∙ f))) h

-- ---- those that are remembered

both : (s t : Bool) → (s && t) ≡ true → (s ≡ true) × (t ≡ true)
both true true e = (refl, refl)
both true false e = (refl, e)
both false t e = absurd (no cc)

-- at first all are none
pub known_start : (b : List ℕ) (n : ℕ) → All (Known b) (replicate n no_words)
known_start b n = All-replicate (Known b) n no_words (known-none b)

-- a Private DICT that is remembered
pub next-seen : (b : List ℕ) (last : List PrivateWords) → All (Known b) last → (size offset place : ℕ) → recall last size offset ≡ Some place → length last ≡ 128
    → ReadsNext b (private_data b size offset) (Ok (record { read = get_or last place no_words; place = place }))
next-seen b last known size offset place e long =
    let q = get_or last place no_words in
    let p = position-Some (λ (q : PrivateWords). eqb q.size size && eqb q.offset offset) last place no_words e in
    let same = both (eqb q.size size) (eqb q.offset offset) p.1 in
    let k = All-get_or (Known b) last place no_words p.0 known in
    (k, subst (λ x. private_data b x offset ≡ Ok k.private) (eqb-true q.size size same.0) (subst (λ x. private_data b q.size x ≡ Ok k.private) (eqb-true q.offset offset same.1) k.is), omega (arith, p.0, long))

-- a Private DICT that was found has few local subroutines
pub few-locals : (b : List ℕ) (g : Result Private Refusal) (q : PrivateAt) → ReadsPrivate b g (Ok q) → q.locals.count < 4294967296
few-locals b g q reads = let k = reads.0.locals.few in omega (arith, k)

pub counted-found : (b : List ℕ) (size offset : ℕ) (q : PrivateAt) → ReadsPrivate b (private_data b size offset) (Ok q) → (w : ℕ) → w ≡ words_for q.locals.count → (place : ℕ)
    → place < 128 → ReadsNext b (private_data b size offset) (Ok (record { read = record { size = size; offset = offset; words = w }; place = place }))
counted-found b size offset q reads w is place low =
    (record { private = private_of b q; few = let k = reads.0.locals.few in omega (arith, is); counted = ap words_for (items-length b q.locals) ∙ sym is; is = reads.1 }, reads.1, low)

-- ---- an FD's

module _ (b d : List ℕ) where
  pub fd-read : refusal_of (dict_of d) ≡ None → (x : Result SeenPrivate Refusal) → ReadsNext b (private_at b (private_in (entries_of d))) x → ReadsNext b (fd_private b d) x
  fd-read checked x reads = subst (λ g. ReadsNext b g x) (sym (then-got _ (λ es. private_at b (private_in es)) (entries_of d) (dict-entries d (dict-good d checked)))) reads

-- what is read of it names its Private DICT
named-by : (b : List ℕ) (g : Result (List Entry) Refusal) → private_at b (private_read g) ≡ then g (λ es. private_at b (private_in es))
unfolding private_at
named-by b (Err n) = refl
named-by b (Ok es) = refl

pub fd-told : (b d : List ℕ) (x : Result SeenPrivate Refusal) → ReadsNext b (private_at b (private_read (dict_of d))) x → ReadsNext b (fd_private b d) x
fd-told b d x reads = subst (λ g. ReadsNext b g x) (named-by b (dict_of d)) reads

pub fd_unread : (b d : List ℕ) (n : Refusal) → Err n ≡ private_read (dict_of d) → fd_private b d ≡ Err n
fd_unread b d n e = sym (named-by b (dict_of d)) ∙ private_refused b (private_read (dict_of d)) n e

-- ---- all FDs'

then-then : {A B C : Type 0} (g : Result A Refusal) (f : A → Result B Refusal) (h : B → Result C Refusal) → then g (λ a. then (f a) h) ≡ then (then g f) h
then-then (Err n) f h = refl
then-then (Ok a) f h = refl

pub privates-split : (b d : List ℕ) (ds : List (List ℕ)) → privates_at b (d ∷ ds) ≡ then (fd_private b d) (λ p. then (privates_at b ds) (λ ps. Ok (p ∷ ps)))
unfolding privates_at
privates-split b d ds = then-then (dict_of d) (λ es. private_at b (private_in es)) (λ p. then (privates_at b ds) (λ ps. Ok (p ∷ ps)))

-- t more than the words of the local subroutines of all
abbrev pub added : ℕ → Result (List Private) Refusal → Result ℕ Refusal
added t g = then g (λ ps. Ok (t + locals_words ps))

added-one : (t : ℕ) (p : Private) (m : ℕ) (g : Result (List Private) Refusal) → words_for (length p.locals) ≡ m → added t (then g (λ ps. Ok (p ∷ ps))) ≡ added (t + m) g
unfolding locals_words
added-one t p m (Err n) e = refl
added-one t p m (Ok ps) e = let f : t + (words_for (length p.locals) + locals_words ps) ≡ t + m + locals_words ps = omega arith in ap Ok f

-- before FD k, the FDs behind which have as many more as the whole
pub record Adding (b : List ℕ) (items : List (List ℕ)) (total k : ℕ) : Type 0 where
  pub within : k ≤ length items
  pub few : total ≤ 65536 * k
  pub rest : added 0 (privates_at b items) ≡ added total (privates_at b (drop k items))

pub adding_start : (b : List ℕ) (items : List (List ℕ)) → Adding b items 0 0
adding_start b items = record { within = omega arith; few = omega arith; rest = refl }

refused_added : (g : Result (List Private) Refusal) (n : Refusal) → added 0 g ≡ Err n → g ≡ Err n
refused_added (Err m) n e = cc
refused_added (Ok ps) n e = absurd (no cc)

got-added : (g : Result (List Private) Refusal) (t : ℕ) → t ≤ 4294967296 → added 0 g ≡ Ok t → ReadsLocals g (Ok t)
got-added (Err m) t k e = absurd (no cc)
got-added (Ok ps) t k e = let f : 0 + locals_words ps ≡ t = cc in (ps, omega arith, refl, k)

module _ (b : List ℕ) (items : List (List ℕ)) (total k : ℕ) (a : Adding b items total k) where
  module _ (h : k < length items) (d : List ℕ) (i : d ≡ get_or items k []) where
    split : drop k items ≡ d ∷ drop (k + 1) items
    split = drop-cons items k [] h ∙ rw (add-one, i)

    pub adding_refused : (n : Refusal) → ReadsNext b (fd_private b d) (Err n) → ReadsLocals (privates_at b items) (Err n)
    adding_refused n reads =
        refused_added (privates_at b items) n
        (a.rest ∙ ap (λ l. added total (privates_at b l)) split ∙ ap (added total) (privates-split b d (drop (k + 1) items) ∙ then_refused _ _ n reads))

    pub adding_more : (l : SeenPrivate) → ReadsNext b (fd_private b d) (Ok l) → Adding b items (total + l.read.words) (k + 1)
    adding_more l reads =
        let f = reads.0.few in
        record {
          within = omega arith;
          few = omega (arith, a.few);
          rest =
              a.rest ∙ ap (λ l. added total (privates_at b l)) split
              ∙ ap (added total) (privates-split b d (drop (k + 1) items) ∙ then-got _ (λ p. then (privates_at b (drop (k + 1) items)) (λ ps. Ok (p ∷ ps))) reads.0.private reads.1)
              ∙ added-one total reads.0.private l.read.words (privates_at b (drop (k + 1) items)) reads.0.counted;
        }

  pub adding_over : length items ≤ k → length items < 65536 → ReadsLocals (privates_at b items) (Ok total)
  unfolding privates_at locals_words
  adding_over h m =
      let e : drop k items ≡ [] = drop-over k items h in
      let z : total + 0 ≡ total = omega arith in
      got-added (privates_at b items) total (omega (arith, a.few, a.within)) (a.rest ∙ ap (λ l. added total (privates_at b l)) e ∙ ap Ok z)
