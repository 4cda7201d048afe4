-- A body renumbered token by token (the Rust's renumber_charstring; document 01, 'Corners in write.rs'), as the code goes: a number token is
-- held until the next token, which writes it as it is, or, being a call, its new operand. The code's answers for what the definitions say.
use Rattle.std.specs.Prelude.{ℕ, ◌≤◌, Bool, true, false, List, [], ◌++◌, ℤ, length, None, Option, Some, Result, Ok, Err, Float}
use Rattle.octets.specs.Pick.{pick}
use Rattle.type2_number.specs.Encoding.{encoded}
use Rattle.type2_number.specs.Floats.{scaled_of}
use Rattle.charstring.specs.declared.Token.{Token}
use Rattle.charstring.specs.declared.Token.TheVariants.{Num, Op, Esc, Mask}
use Rattle.charstring.specs.declared.Cursor.{Cursor}
use Rattle.charstring.specs.Answers.{token_bytes, token_len_lem}
use Rattle.prune.specs.Renumber.{Calls, is_call}
use Rattle.renumber.specs.Ranks.{Ranked}
use Rattle.renumber.specs.declared.Ranks.{Ranks}
use Rattle.renumber.specs.declared.turns.Stuck.{Stuck}
use Rattle.renumber.specs.declared.Turned.{Turned}

-- what a call's operand becomes: where there is none the renumbering fails
abbrev pub turn_for : Option ℤ → Result (Option ℤ) Stuck
turn_for None = Err (record {})
turn_for (Some z) = Ok (Some z)

-- a call takes the number just before it
abbrev pub call_turn : (ℤ → Option ℤ) → Option ℤ → Result (Option ℤ) Stuck
call_turn operand None = Err (record {})
call_turn operand (Some v) = turn_for (operand v)

-- what a token brings: the number that is written just before it
abbrev pub turn_of : Calls → Option ℤ → Token → Result (Option ℤ) Stuck
turn_of calls h (Num v) = Ok h
turn_of calls h (Op b) = pick (is_call b) (call_turn (calls b) h) (Ok h)
turn_of calls h (Esc b) = Ok h
turn_of calls h (Mask start len) = Ok h

-- the number that is held after a token, and as the definitions say it
abbrev pub after : Token → Option Float
after (Num v) = Some v
after (Op b) = None
after (Esc b) = None
after (Mask start len) = None

abbrev pub waiting_in : Option Float → Option ℤ
waiting_in None = None
waiting_in (Some v) = Some (scaled_of v)

abbrev pub held_after : Token → Option ℤ
held_after t = waiting_in (after t)

-- where reading stands, by its four numbers
abbrev pub cursor : ℕ → ℕ → ℕ → Bool → Cursor
cursor at args stems due = record { at = at; args = args; stems = stems; due = due }

-- a step of reading, and what its token brings
abbrev pub a_turn : Option ℤ → Token → Cursor → Option Turned
a_turn v t d = Some (record { before = v; token = t; next = d })

abbrev pub turned_by : Result (Option ℤ) Stuck → Token → Cursor → Option Turned
turned_by (Err w) t d = None
turned_by (Ok v) t d = a_turn v t d

abbrev pub turned_at : Calls → Option ℤ → Option (Token × Cursor) → Option Turned
turned_at calls h None = None
turned_at calls h (Some (t, d)) = turned_by (turn_of calls h t) t d

-- the bytes of the number that was held, and of a token: a number is held, so it has none
abbrev pub held_bytes_lem : Option ℤ → List ℕ
held_bytes_lem None = []
held_bytes_lem (Some v) = encoded v

abbrev pub own_bytes : List ℕ → Token → List ℕ
own_bytes s (Num v) = []
own_bytes s t = token_bytes s t

abbrev pub sent_bytes : List ℕ → Option ℤ → Token → List ℕ
sent_bytes s h t = held_bytes_lem h ++ own_bytes s t

-- how many they are
abbrev pub held_len_lem : Option ℤ → ℕ
held_len_lem None = 0
held_len_lem (Some v) = length (encoded v)

abbrev pub own_len : Token → ℕ
own_len (Num v) = 0
own_len t = token_len_lem t

-- what renumbering a body asks: ranks in the words, and a body of a font
pub record Inputs (s ws : List ℕ) (locals globals : Ranks) : Type 0 where
  pub local_ranks : Ranked ws locals
  pub global_ranks : Ranked ws globals
  pub size : length s ≤ 67108864

-- how long a body is once it is renumbered, its bytes, and whether there are any
abbrev pub sized_of : Option (List ℕ) → Option ℕ
sized_of None = None
sized_of (Some bs) = Some (length bs)

abbrev pub body_of_lem : Option (List ℕ) → List ℕ
body_of_lem None = []
body_of_lem (Some bs) = bs

abbrev pub is_yes : Option (List ℕ) → Bool
is_yes None = false
is_yes (Some bs) = true
