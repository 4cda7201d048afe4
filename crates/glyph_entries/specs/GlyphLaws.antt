-- Laws of what is asked of one glyph, by the code's ways out.
use Rattle.std.specs.Prelude.{ℕ, ◌+◌, ◌≤◌, ◌<◌, ◌≡◌, refl, Bool, List, [], ◌∷◌, length, get_or, set, Result, Ok, Err}
use Rattle.std.proofs.Math.Path.{sym, ap}
use Rattle.std.proofs.Common.{◌∙◌, subst, arith}
use Rattle.std.proofs.Math.Bool.{true, false}
use Rattle.std.proofs.Math.Dec.{ltb}
use borrow.Author.Tests.{lt-ltb, le-ltb}
use Rattle.octets.specs.Pick.{pick}
use Rattle.octets.specs.Octets.{put, Wrote}
use Rattle.index.specs.Index.{items_of}
use Rattle.index.specs.IndexLaws.{items-length}
use Rattle.strings.specs.Strings.{string_text}
use Rattle.charset.specs.CharsetPlaces.{ids_of}
use Rattle.charset.specs.FdPlaces.{fd_of}
use Rattle.charset.specs.FdFound.{fd-at}
use Rattle.cff.specs.Reads.{program_of, GoodFont}
use Rattle.cff.specs.declared.font.Font.{Font}
use Rattle.glyph_entries.specs.Glyph.{Told, refused, told, text_of, words_of, glyph_in, Tells}
use Rattle.refusal.specs.declared.Refusal.{Refusal}
use Rattle.refusal.specs.declared.Refusal.TheVariants.{NoSuchNumber}

-- ---- by the ways out

module _ (name answer : List ℕ) where
  -- a refusal writes nothing
  pub tells_refused : (n : Refusal) → Tells (refused n) name name answer answer (Err n)
  tells_refused n = record { result = refl; text = refl; words = refl }

  -- the name and the words stand in front
  pub tells-told : (text ws : List ℕ) → length text ≤ length name → length ws ≤ length answer → (name' answer' : List ℕ) → name' ≡ put name 0 text → answer' ≡ put answer 0 ws
      → Tells (told text ws) name name' answer answer' (Ok tt)
  tells-told text ws h k name' answer' e f =
      let t = le-ltb (length name) (length text) h in
      let u = le-ltb (length answer) (length ws) k in
      record { result = rw (t, u); text = rw (t, u) e; words = rw (t, u) f }

pub tells_as : {s t : Told} {name name' answer answer' : List ℕ} {r : Result Unit Refusal} → Tells s name name' answer answer' r → t ≡ s → Tells t name name' answer answer' r
tells_as {s} {t} {name} {name'} {answer} {answer'} {r} h e = subst (λ (x : Told). Tells x name name' answer answer' r) (sym e) h

-- four words stored
four-stored : (old : List ℕ) (a b c d : ℕ) → 4 ≤ length old → set (set (set (set old 0 a) 1 b) 2 c) 3 d ≡ put old 0 (a ∷ b ∷ c ∷ d ∷ [])
unfolding put
four-stored [] a b c d h = absurd (let k : 4 ≤ 0 = h in omega arith)
four-stored (v ∷ []) a b c d h = absurd (let k : 4 ≤ 1 = h in omega arith)
four-stored (v ∷ w ∷ []) a b c d h = absurd (let k : 4 ≤ 2 = h in omega arith)
four-stored (v ∷ w ∷ x ∷ []) a b c d h = absurd (let k : 4 ≤ 3 = h in omega arith)
four-stored (v ∷ w ∷ x ∷ y ∷ old) a b c d h = refl

pub tells-stored : (name answer text : List ℕ) (k id fd : ℕ) → length text ≤ length name → 4 ≤ length answer → (name' : List ℕ) (end : ℕ) → Wrote name 0 text name' end
    → Tells (told text (k ∷ id ∷ fd ∷ length text ∷ [])) name name' answer (set (set (set (set answer 0 k) 1 id) 2 fd) 3 end) (Ok tt)
tells-stored name answer text k id fd h l name' end w =
    let o : 0 + end ≡ 0 + length text = omega (arith, w.behind) in
    let s : end ≡ length text = omega (arith, o) in
    tells-told name answer text (k ∷ id ∷ fd ∷ length text ∷ []) h l name' _ w.is
    (four-stored answer k id fd end l ∙ ap (λ (x : ℕ). put answer 0 (k ∷ id ∷ fd ∷ x ∷ [])) s)

-- ---- a glyph of a font that was read

-- by the keying, with the id, the FD and the text
abbrev told_by : Bool → List ℕ → ℕ → ℕ → Told
told_by cid text id fd = told (pick cid [] text) (pick cid 1 0 ∷ id ∷ fd ∷ length (pick cid [] text) ∷ [])

module _ (b : List ℕ) (f : Font) (good : GoodFont b f) (g : ℕ) where
  pub glyph_none : f.charstrings.count ≤ g → glyph_in (program_of b f) g ≡ refused NoSuchNumber
  unfolding glyph_in
  glyph_none h =
      let t : ltb g (length (items_of b f.charstrings)) ≡ false = le-ltb g (length (items_of b f.charstrings)) (omega (arith, items-length b f.charstrings)) in
      ap (λ (x : Bool). pick x (told (text_of (program_of b f) g) (words_of (program_of b f) g)) (refused NoSuchNumber)) t

  module _ (h : g < f.charstrings.count) (id fd : ℕ) (i : id ≡ get_or (ids_of b f.charset f.charstrings.count) g 0) (d : fd ≡ fd_of b f.select g) where
    glyph_there : glyph_in (program_of b f) g ≡ told_by f.cid (string_text (items_of b f.strings) id) id fd
    unfolding glyph_in
    glyph_there =
        let t : ltb g (length (items_of b f.charstrings)) ≡ true = lt-ltb g (length (items_of b f.charstrings)) (omega (arith, items-length b f.charstrings)) in
        let p = program_of b f in
        ap (λ (x : Bool). pick x (told (text_of p g) (words_of p g)) (refused NoSuchNumber)) t
        ∙ ap (λ (x : Bool). told_by x (string_text (items_of b f.strings) (get_or p.ids g 0)) (get_or p.ids g 0) (get_or p.fds g 0)) (sym good.cid)
        ∙ ap (λ (x : ℕ). told_by f.cid (string_text (items_of b f.strings) x) x (get_or p.fds g 0)) (sym i)
        ∙ ap (λ (x : ℕ). told_by f.cid (string_text (items_of b f.strings) id) id x) (fd-at b f.select f.charstrings.count g h ∙ sym d)

    pub glyph_by_cid : f.cid ≡ true → (text : List ℕ) → text ≡ [] → glyph_in (program_of b f) g ≡ told text (1 ∷ id ∷ fd ∷ length text ∷ [])
    glyph_by_cid c text e =
        glyph_there ∙ ap (λ (x : Bool). told_by x (string_text (items_of b f.strings) id) id fd) c ∙ sym (ap (λ (x : List ℕ). told x (1 ∷ id ∷ fd ∷ length x ∷ [])) e)

    pub glyph_by-name : f.cid ≡ false → (text : List ℕ) → text ≡ string_text (items_of b f.strings) id
        → glyph_in (program_of b f) g ≡ told text (0 ∷ id ∷ fd ∷ length text ∷ [])
    glyph_by-name c text e =
        glyph_there ∙ ap (λ (x : Bool). told_by x (string_text (items_of b f.strings) id) id fd) c ∙ sym (ap (λ (x : List ℕ). told x (0 ∷ id ∷ fd ∷ length x ∷ [])) e)
