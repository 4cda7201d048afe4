-- A charset (TN5176, section 13) in place, as the code holds it: by its ranges, and by a cursor that goes from glyph to glyph.
use Rattle.std.specs.Prelude.{ℕ, ◌+◌, ◌-◌, ◌≤◌, ◌<◌, ◌≡◌, List, length, drop, get_or, eqb, Result, Ok, Err}
use Rattle.octets.specs.Pick.{pick}
use Rattle.octets.specs.Octets.{num_at}
use Rattle.charset.specs.Listed.{numbers_of}
use Rattle.charset.specs.Charset.{ids_from}
use Rattle.charset.specs.declared.Charset.{Charset}
use Rattle.charset.specs.declared.CharsetCursor.{CharsetCursor}
use Rattle.charset.specs.declared.IdStep.{IdStep}
use Rattle.refusal.specs.declared.Refusal.{Refusal}

-- the charset by the table at a place: glyph 0 has no entry
abbrev pub table_at : List ℕ → ℕ → Charset
table_at b at = record { own = 1; width = get_or b at 0; at = at + 1 }

-- ISOAdobe: no glyph has an entry
abbrev pub predefined : Charset
predefined = record { own = 65536; width = 0; at = 0 }

-- the ids of n glyphs by a charset that was read: the first `own` glyphs have their own numbers
unfoldable pub ids_of : List ℕ → Charset → ℕ → List ℕ
ids_of b c n = numbers_of (ids_from c.width n 0 c.own (drop c.at b))

-- a charset for n glyphs that reading does not refuse
pub record GoodCharset (b : List ℕ) (c : Charset) (n : ℕ) : Type 0 where
  pub narrow : c.width ≤ 2
  pub few : n < 65536
  pub sound : ids_from c.width n 0 c.own (drop c.at b) ≡ Ok (ids_of b c n)

-- what reading answers: the charset where the ids are not refused
abbrev pub charset_answer : Charset → Result (List ℕ) Refusal → Result Charset Refusal
charset_answer c (Err e) = Err e
charset_answer c (Ok l) = Ok c

-- ---- glyph after glyph

-- before glyph 0
abbrev pub charset_start : Charset → CharsetCursor
charset_start c = record { id = 0; left = c.own; width = c.width; at = c.at }

-- the id where a cursor stands, and the cursor behind it
unfoldable pub next_id : List ℕ → CharsetCursor → IdStep
next_id b u =
    pick (eqb u.left 0)
    (record {
      id = num_at b u.at 2;
      next = record { id = num_at b u.at 2 + 1; left = num_at b (u.at + 2) u.width; width = u.width; at = u.at + 2 + u.width };
    })
    (record { id = u.id; next = record { id = u.id + 1; left = u.left - 1; width = u.width; at = u.at } })

-- a cursor that stands before glyphs with these ids
pub record StandsId (b : List ℕ) (u : CharsetCursor) (ids : List ℕ) : Type 0 where
  pub narrow : u.width ≤ 2
  pub gives : ids_from u.width (length ids) u.id u.left (drop u.at b) ≡ Ok ids

-- what the next step asks: a range, where none is under way
pub record ReadyId (b : List ℕ) (u : CharsetCursor) : Type 0 where
  pub narrow : u.width ≤ 2
  pub small : 0 < u.left → u.id < 65536
  pub room : u.left ≡ 0 → u.at + 2 + u.width ≤ length b
