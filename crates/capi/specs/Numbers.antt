-- What the number that a call returns says (document 01, 'Entries and their refusals'): 0 exactly where the answer was written; any other is a refusal, and nothing was written.
use Rattle.std.specs.Prelude.{ℕ, zero, suc, ◌≤◌, ◌≡◌, refl, Bool, true, false, List, [], ◌∷◌, ltb, eqb, length, None, Option, Some, Result, Ok, Err}
use Rattle.std.proofs.Common.{sym, ◌∙◌, subst, arith, ne_eqb}
use Rattle.octets.specs.Pick.{pick}
use Rattle.octets.specs.Octets.{put}
use Rattle.refusal.specs.declared.Refusal.{Refusal}
use Rattle.cff.specs.Font.{Program, read_font}
use Rattle.cff.specs.Find.{read_as, name_as, cid_as, item_of}
use Rattle.cff.specs.declared.Counts.{Counts}
use Rattle.cff_entries.specs.Kinds.{kind_of}
use Rattle.capi.specs.Capi.{Answer, refused, given, read_answer, found_answer, Answers, lookup_refusal, looked_up, item_answer, AnswersItem}
use Rattle.capi.specs.CapiLaws.{number_least, number_most}

-- an answer of the entries: the number of a refusal, or what is given
data Sound : Answer → Type 0 where
  sound_refused : {n : ℕ} → 1 ≤ n → n ≤ 15 → Sound (refused n)
  sound_given : {ws : List ℕ} → Sound (given ws)

-- a call with one lent slice: by 0 it was answered, and by a refusal not
pub data Says (a : Answer) (old new : List ℕ) : ℕ → Type 0 where
  answered : (ws : List ℕ) → a ≡ given ws → new ≡ put old 0 ws → Says a old new 0
  not_answered : {r : ℕ} → 1 ≤ r → new ≡ old → Says a old new r

-- a lookup of an item
pub data SaysItem (a : Answer) (out out' size size' : List ℕ) : ℕ → Type 0 where
  answered-item : (bs : List ℕ) → a ≡ given bs → out' ≡ put out 0 bs → size' ≡ put size 0 (length bs ∷ []) → SaysItem a out out' size size' 0
  no_item : {r : ℕ} → 1 ≤ r → out' ≡ out → size' ≡ size → SaysItem a out out' size size' r

-- too little room is a refusal
eleven : 1 ≤ 11
eleven = omega arith

-- what is given, by whether there was room
says_given : (ws old new : List ℕ) (r : ℕ) (t : Bool) → r ≡ pick t 11 0 → new ≡ pick t old (put old 0 ws) → Says (given ws) old new r
says_given ws old new r true e f = subst (Says (given ws) old new) (sym e) (not_answered eleven f)
says_given ws old new r false e f = subst (Says (given ws) old new) (sym e) (answered ws refl f)

-- by the answer
says : (a : Answer) (old new : List ℕ) (r : ℕ) → Sound a → Answers a old new r → Says a old new r
says (refused n) old new r (sound_refused l m) h = subst (Says (refused n) old new) (sym h.number) (not_answered l h.written)
says (given ws) old new r sound_given h = says_given ws old new r (ltb (length old) (length ws)) h.number h.written

-- ---- the answers are sound

read_sound : (r : Result Counts Refusal) → Sound (read_answer r)
read_sound (Err n) = sound_refused (number_least n) (number_most n)
read_sound (Ok c) = sound_given

found_sound : (r : Result (Option ℕ) Refusal) → Sound (found_answer r)
found_sound (Err n) = sound_refused (number_least n) (number_most n)
found_sound (Ok None) = sound_given
found_sound (Ok (Some g)) = sound_given

looked_sound : (r : Result Unit Refusal) (bs : List ℕ) → Sound (looked_up r bs)
looked_sound (Err n) bs = sound_refused (number_least n) (number_most n)
looked_sound (Ok u) bs = sound_given

item_sound : (g : Result Program Refusal) (kind number : ℕ) → Sound (item_answer g kind number)
unfolding item_answer
item_sound g kind number = looked_sound (lookup_refusal g kind number) (item_of g (kind_of kind) number)

-- ---- the entries

pub read_says : (b old new : List ℕ) (r : ℕ) → Answers (read_answer (read_as (read_font b))) old new r → Says (read_answer (read_as (read_font b))) old new r
read_says b old new r = says (read_answer (read_as (read_font b))) old new r (read_sound (read_as (read_font b)))

-- finding by name
pub name_says : (b name old new : List ℕ) (r : ℕ) → Answers (found_answer (name_as (read_font b) name)) old new r
    → Says (found_answer (name_as (read_font b) name)) old new r
name_says b name old new r = says (found_answer (name_as (read_font b) name)) old new r (found_sound (name_as (read_font b) name))

-- finding by CID
pub cid_says : (b : List ℕ) (cid : ℕ) (old new : List ℕ) (r : ℕ) → Answers (found_answer (cid_as (read_font b) cid)) old new r
    → Says (found_answer (cid_as (read_font b) cid)) old new r
cid_says b cid old new r = says (found_answer (cid_as (read_font b) cid)) old new r (found_sound (cid_as (read_font b) cid))

-- a refusal writes nothing
unwritten : (k : ℕ) (xs ys : List ℕ) → pick (eqb (suc k) 0) xs ys ≡ ys
unwritten k xs ys =
    let h : suc k ≡ 0 → ⊥ = λ z. omega (arith, z) in
    let t = ne_eqb (suc k) 0 h in
    rw t

module _ (out out' size size' : List ℕ) where
  item-given : (bs : List ℕ) (r : ℕ) (t u : Bool) → r ≡ pick t 11 (pick u 11 0) → out' ≡ pick (eqb r 0) (put out 0 bs) out
      → size' ≡ pick (eqb r 0) (put size 0 (length bs ∷ [])) size → SaysItem (given bs) out out' size size' r
  item-given bs zero true u e f g = absurd (let z : ◌≡◌ {A = ℕ} 0 11 = e in omega arith)
  item-given bs zero false u e f g = answered-item bs refl f g
  item-given bs (suc k) t u e f g = let l : 1 ≤ suc k = omega arith in no_item l (f ∙ unwritten k _ _) (g ∙ unwritten k _ _)

  item_refused : (n r : ℕ) → 1 ≤ n → r ≡ n → (o s : List ℕ) → out' ≡ pick (eqb r 0) o out → size' ≡ pick (eqb r 0) s size
      → SaysItem (refused n) out out' size size' r
  item_refused n zero l e o s f g = absurd (let z : 1 ≤ 0 = omega (arith, e) in omega arith)
  item_refused n (suc k) l e o s f g = let m : 1 ≤ suc k = omega arith in no_item m (f ∙ unwritten k _ _) (g ∙ unwritten k _ _)

  says_item : (a : Answer) (r : ℕ) → Sound a → AnswersItem a out out' size size' r → SaysItem a out out' size size' r
  says_item (refused n) r (sound_refused l m) h = item_refused n r l h.number _ _ h.item h.measured
  says_item (given bs) r sound_given h =
      item-given bs r (ltb (length out) (length bs)) (ltb (length size) 1) h.number h.item h.measured

-- an item
pub item_says : (b : List ℕ) (kind number : ℕ) (out out' size size' : List ℕ) (r : ℕ)
    → AnswersItem (item_answer (read_font b) kind number) out out' size size' r → SaysItem (item_answer (read_font b) kind number) out out' size size' r
item_says b kind number out out' size size' r =
    says_item out out' size size' (item_answer (read_font b) kind number) r (item_sound (read_font b) kind number)
