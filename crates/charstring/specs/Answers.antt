-- The code's answers for what the definitions of tokens (TN5177, sections 3 and 4.3) say: its tokens hold an f32 and the place of a mask, theirs a reading and its bytes.
use Rattle.std.specs.Prelude.{ℕ, ◌+◌, ◌-◌, ◌≤◌, ◌<◌, ◌≡◌, true, List, length, take, drop, leb, None, Option, Some, Ok, Err, Result}
use Rattle.octets.specs.Pick.{pick}
use Rattle.octets.specs.Octets.{put}
use Rattle.octets.specs.declared.out.Out.{Out}
use Rattle.type2_number.specs.Encoding.{encoded}
use Rattle.type2_number.specs.Floats.{float_of, scaled_of, HoldsReading}
use Rattle.charstring.specs.Token.{Tok, num, op, esc, mask, Lexeme, lost, got_num, got_op, got_esc, got_mask}
use Rattle.charstring.specs.Encode.{tok_bytes, encode}
use Rattle.charstring.specs.declared.Token.{Token}
use Rattle.charstring.specs.declared.Token.TheVariants.{Num, Op, Esc, Mask}
use Rattle.charstring.specs.declared.Cursor.{Cursor}
use Rattle.charstring.specs.declared.MaskLen.{MaskLen}
use Rattle.charstring.specs.declared.MaskLen.TheVariants.{Own}
use Rattle.charstring.specs.declared.RecodeError.{RecodeError}
use Rattle.charstring.specs.declared.RecodeError.TheVariants.{Cut, Full}

-- what a step answers
abbrev pub step_of : Lexeme → Option (Token × Cursor)
step_of lost = None
step_of (got_num z c) = Some (Num (float_of z), c)
step_of (got_op b c) = Some (Op b, c)
step_of (got_esc b c) = Some (Esc b, c)
step_of (got_mask start n c) = Some (Mask start n, c)

-- the token of a body s that a token of the code stands for
abbrev pub told : List ℕ → Token → Tok
told s (Num v) = num (scaled_of v)
told s (Op b) = op b
told s (Esc b) = esc b
told s (Mask start len) = mask (take len (drop start s))

-- its bytes
abbrev pub token_bytes : List ℕ → Token → List ℕ
token_bytes s t = tok_bytes (told s t)

-- what writing a token asks: its number is a reading, its mask lies in the body
abbrev pub Writable : List ℕ → Token → Type 0
Writable s (Num v) = HoldsReading v
Writable s (Op b) = Unit
Writable s (Esc b) = Unit
Writable s (Mask start len) = start + len ≤ length s

-- how many bytes a token takes
abbrev pub token_len_lem : Token → ℕ
token_len_lem (Num v) = length (encoded (scaled_of v))
token_len_lem (Op b) = 1
token_len_lem (Esc b) = 2
token_len_lem (Mask start len) = len

-- what measuring a token asks
abbrev pub Measurable : Token → Type 0
Measurable (Num v) = HoldsReading v
Measurable (Op b) = Unit
Measurable (Esc b) = Unit
Measurable (Mask start len) = Unit

-- a cursor that reading the body s can reach: each number and each stem had a byte
pub record Within (s : List ℕ) (c : Cursor) : Type 0 where
  pub inside : c.at ≤ length s
  pub counted : c.stems + c.args ≤ c.at
  pub behind : c.due ≡ true → 0 < c.at

-- the length that is passed on for the token at a cursor: only a mask that is due asks for one
abbrev pub given_at : (ℕ → MaskLen) → Cursor → MaskLen
given_at given c = pick c.due (given (c.at - 1)) Own

-- how long a body is once it is written back
abbrev pub measured_of : Option (List Tok) → Option ℕ
measured_of None = None
measured_of (Some ts) = Some (length (encode ts))

-- what writing a body back from a place of old on answers, and what it leaves
abbrev pub recoded_of : List ℕ → ℕ → Option (List Tok) → Result ℕ RecodeError
recoded_of old to None = Err Cut
recoded_of old to (Some ts) = pick (leb (to + length (encode ts)) (length old)) (Ok (to + length (encode ts))) (Err Full)

abbrev pub recoded_in : List ℕ → ℕ → Option (List Tok) → List ℕ
recoded_in old to None = old
recoded_in old to (Some ts) = pick (leb (to + length (encode ts)) (length old)) (put old to (encode ts)) old

pub record Recodes (old : List ℕ) (to : ℕ) (body : Option (List Tok)) (new : List ℕ) (r : Result ℕ RecodeError) : Type 0 where
  pub answer : r ≡ recoded_of old to body
  pub leaves : new ≡ recoded_in old to body

-- the same at an output's place, where the answer says no place: the output's is behind the bytes
abbrev pub placed : ℕ → Result Unit RecodeError → Result ℕ RecodeError
placed at (Ok done) = Ok at
placed at (Err why) = Err why

pub record RecodesAt (old : Out) (body : Option (List Tok)) (new : Out) (r : Result Unit RecodeError) : Type 0 where
  pub recodes : Recodes old.bytes.now old.at body new.bytes.now (placed new.at r)
  pub same : new.bytes.ghost_name ≡ old.bytes.ghost_name
  pub size : length new.bytes.now ≡ length old.bytes.now
  -- where it fails the output is as it was, its place too
  pub stays : (why : RecodeError) → r ≡ Err why → new ≡ old
