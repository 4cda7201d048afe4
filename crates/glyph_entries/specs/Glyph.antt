-- What is asked of one glyph: its name, which is the text of its string id (TN5176, section 10), or its CID (section 13), and its FD (section 19). A
-- refusal writes nothing: reading's comes first, then that of a glyph past the font, then that of too little room.
use Rattle.std.specs.Prelude.{ℕ, ◌≡◌, List, [], ◌∷◌, ltb, length, get_or, Result, Ok, Err}
use Rattle.octets.specs.Pick.{pick}
use Rattle.octets.specs.Octets.{put}
use Rattle.dict.specs.Lookup.{cid_keyed}
use Rattle.cff.specs.Font.{Program}
use Rattle.subset.specs.Texts.{name_of}
use Rattle.refusal.specs.declared.Refusal.{Refusal}
use Rattle.refusal.specs.declared.Refusal.TheVariants.{NoSuchNumber, Output}

-- what a call tells: a refusal, or the name, and the words that say the rest
pub data Told : Type 0 where
  refused : Refusal → Told
  told : List ℕ → List ℕ → Told

-- the name of a glyph: none in a CID-keyed font
abbrev pub text_of : Program → ℕ → List ℕ
text_of p g = pick (cid_keyed p.top) [] (name_of p g)

-- the words: 1 in a CID-keyed font and 0 in a name-keyed one; the CID, or the string id; the FD, 0 in a name-keyed font; the length of the name
abbrev pub words_of : Program → ℕ → List ℕ
words_of p g = pick (cid_keyed p.top) 1 0 ∷ get_or p.ids g 0 ∷ get_or p.fds g 0 ∷ length (text_of p g) ∷ []

-- a glyph of a font: refused where there is none of that number
unfoldable pub glyph_in : Program → ℕ → Told
glyph_in p g = pick (ltb g (length p.charstrings)) (told (text_of p g) (words_of p g)) (refused NoSuchNumber)

abbrev pub glyph_of : Result Program Refusal → ℕ → Told
glyph_of (Err n) g = refused n
glyph_of (Ok p) g = glyph_in p g

-- the same where so many bytes and words are lent: refused where they are too few
abbrev pub within : Told → ℕ → ℕ → Told
within (refused n) bytes words = refused n
within (told name ws) bytes words = pick (ltb bytes (length name)) (refused Output) (pick (ltb words (length ws)) (refused Output) (told name ws))

-- the result that the call returns, and what is lent after it
abbrev pub result_of : Told → Result Unit Refusal
result_of (refused n) = Err n
result_of (told name ws) = Ok tt

abbrev pub leaves_name : Told → List ℕ → List ℕ
leaves_name (refused n) old = old
leaves_name (told name ws) old = put old 0 name

abbrev pub leaves_words : Told → List ℕ → List ℕ
leaves_words (refused n) old = old
leaves_words (told name ws) old = put old 0 ws

-- a call's result, and the lent bytes and words before and after
pub record Tells (t : Told) (name name' answer answer' : List ℕ) (r : Result Unit Refusal) : Type 0 where
  pub result : r ≡ result_of (within t (length name) (length answer))
  pub text : name' ≡ leaves_name (within t (length name) (length answer)) name
  pub words : answer' ≡ leaves_words (within t (length name) (length answer)) answer
