-- The unfolding of a glyph, sentence by sentence from document 01, 'Plain glyphs' (TN5177, sections 4 and 5 and appendix B for the
-- operators and limits): from the subroutines a glyph can call and its charstring to `not plain`, or its tokens and the rows met.
use Rattle.std.specs.Prelude.{ℕ, zero, suc, ◌+◌, ◌-◌, ◌/◌, Bool, true, false, List, [], ◌∷◌, ◌++◌, ltb, eqb, ℤ, length, take, drop, get_or, None, Option, Some}
use Rattle.octets.specs.Pick.{pick}
use Rattle.octets.specs.Steps.{and}
use Rattle.type2_number.specs.Number.{Read, cut, operator, number as a_number, number_at}
use Rattle.charstring.specs.Bias.{bias_of, numbered}
use Rattle.charstring.specs.Token.{is_mask}

-- a token that is left: a number by its reading, an operator, an escape, or a mask, 19 or 20 with its bytes
pub data Tok : Type 0 where
  num : ℤ → Tok
  op : ℕ → Tok
  esc : ℕ → Tok
  mask : ℕ → List ℕ → Tok

-- a row of the reach record: kind (0 local, 1 global reached; 2, 3, 4 mask in glyph, local, global), FD, number, offset, length
pub record Row : Type 0 where
  pub kind : ℕ
  pub fd : ℕ
  pub number : ℕ
  pub offset : ℕ
  pub len : ℕ

-- the body that runs: the glyph's charstring, a local or a global subroutine
pub data Site : Type 0 where
  glyph : ℕ → Site
  local : ℕ → ℕ → Site
  global : ℕ → Site

-- the row of a subroutine entered, and of a mask met
abbrev pub entered : Site → Row
entered (glyph g) = record { kind = 2; fd = 0; number = g; offset = 0; len = 0 }
entered (local fd k) = record { kind = 0; fd = fd; number = k; offset = 0; len = 0 }
entered (global k) = record { kind = 1; fd = 0; number = k; offset = 0; len = 0 }

abbrev pub masked : Site → ℕ → ℕ → Row
masked (glyph g) offset len = record { kind = 2; fd = 0; number = g; offset = offset; len = len }
masked (local fd k) offset len = record { kind = 3; fd = fd; number = k; offset = offset; len = len }
masked (global k) offset len = record { kind = 4; fd = 0; number = k; offset = offset; len = len }

abbrev pub is_glyph : Site → Bool
is_glyph (glyph g) = true
is_glyph (local fd k) = false
is_glyph (global k) = false

-- what has run so far: operands waiting, stems, tokens and calls spent, the tokens left, the rows met
pub record State : Type 0 where
  pub args : ℕ
  pub stems : ℕ
  pub spent : ℕ
  pub out : List Tok
  pub met : List Row

-- how a body's run ends: in what is not plain, by return, or by endchar
pub data Run : Type 0 where
  broken : Run
  returned : State → Run
  ended : State → Run

-- one token more, its operands cleared; at most 65,536 tokens and calls
unfoldable pub leave : Tok → ℕ → ℕ → State → (State → Run) → Run
leave t args stems st go =
    pick (ltb st.spent 65536) (go (record { args = args; stems = stems; spent = st.spent + 1; out = st.out ++ (t ∷ []); met = st.met })) broken

-- the tokens without the last: a call's operand leaves no token
unfoldable pub but : List Tok → List Tok
but [] = []
but (t ∷ []) = []
but (t ∷ u ∷ ts) = t ∷ but (u ∷ ts)

-- the state in which a subroutine starts: its operand is taken back, and what it had spent is the call's
abbrev pub calling : Site → State → State
calling site st = record { args = st.args - 1; stems = st.stems; spent = st.spent; out = but st.out; met = st.met ++ (entered site ∷ []) }

-- the subroutine that a call's operand, the number just before it in the same body, names: whole, and with the bias a number of one that exists
unfoldable pub target_of : ℕ → Option ℤ → Option ℕ
target_of count l = and (and l (numbered (bias_of count))) (λ (i : ℕ). pick (ltb i count) (Some i) None)

-- after a subroutine: on in the caller, or the end
abbrev pub after : Run → (State → Run) → Run
after broken go = broken
after (returned st) go = go st
after (ended st) go = ended st

-- the stem operators
abbrev pub is_stem : ℕ → Bool
is_stem b = pick (eqb b 1) true (pick (eqb b 3) true (pick (eqb b 18) true (eqb b 23)))

-- the other operators, the masks aside, that clear the operands and leave themselves: 4 to 8, 21, 22, 24 to 27, 30, 31
abbrev pub is_path : ℕ → Bool
is_path b = pick (ltb b 4) false (pick (ltb b 9) true (pick (ltb b 21) false (pick (ltb b 28) true (pick (ltb b 30) false (ltb b 32)))))

-- a row met
abbrev pub meeting : Row → State → State
meeting r st = record { args = st.args; stems = st.stems; spent = st.spent; out = st.out; met = st.met ++ (r ∷ []) }

-- entering a subroutine one call deeper; going on in the same body, at a place and after what
abbrev Enter : Type 0
Enter = Site → List ℕ → State → Run

abbrev On : Type 0
On = ℕ → Option ℤ → State → Run

-- a call of the subroutine i of those that `which` names; the caller goes on at `next`
abbrev pub call_to : Enter → On → (ℕ → Site) → List (List ℕ) → ℕ → State → Option ℕ → Run
call_to enter on which subrs next st None = broken
call_to enter on which subrs next st (Some i) = after (enter (which i) (get_or subrs i []) (calling (which i) st)) (on next None)

-- a stem operator with n stems then: at most 96
abbrev pub stem_at : On → ℕ → ℕ → ℕ → State → Run
stem_at on b at n st = pick (ltb 96 n) broken (leave (op b) 0 n st (on (at + 1) None))

-- a mask with n stems, its own included: one bit each, rounded up to bytes, which must be there
abbrev pub mask_at : On → Site → List ℕ → ℕ → ℕ → ℕ → State → Run
mask_at on site s b at n st =
    let len = (n + 7) / 8 in
    pick (ltb 96 n) broken
    (pick (ltb (length s - (at + 1)) len) broken
    (leave (mask b (take len (drop (at + 1) s))) 0 n (meeting (masked site at len) st) (on (at + 1 + len) None)))

-- an escape: 34 to 37
abbrev pub escape_at : On → List ℕ → ℕ → State → Run
escape_at on s at st =
    let e = get_or s (at + 1) 0 in
    pick (ltb (length s - at) 2) broken
    (pick (ltb e 34) broken (pick (ltb 37 e) broken (leave (esc e) 0 st.stems st (on (at + 2) None))))

module _ (globals locals : List (List ℕ)) (fd : ℕ) where
  -- the operator b at a place
  unfoldable pub operator_at : Enter → On → Site → List ℕ → ℕ → Option ℤ → State → ℕ → Run
  operator_at enter on site s at l st b =
      pick (eqb b 10) (call_to enter on (local fd) locals (at + 1) st (target_of (length locals) l))
      (pick (eqb b 29) (call_to enter on global globals (at + 1) st (target_of (length globals) l))
      (pick (eqb b 11) (pick (is_glyph site) broken (returned st))
      (pick (eqb b 14) (pick (ltb 1 st.args) broken (leave (op 14) 0 st.stems st ended))
      (pick (eqb b 12) (escape_at on s at st)
      (pick (is_mask b) (mask_at on site s b at (st.stems + st.args / 2) st)
      (pick (is_stem b) (stem_at on b at (st.stems + st.args / 2) st)
      (pick (is_path b) (leave (op b) 0 st.stems st (on (at + 1) None)) broken)))))))

  -- what stands at a place: a number waits, at most 48 of them
  unfoldable pub step_at : Enter → On → Site → List ℕ → ℕ → Option ℤ → State → Read → Run
  step_at enter on site s at l st cut = broken
  step_at enter on site s at l st (a_number z n) = pick (ltb st.args 48) (leave (num z) (st.args + 1) st.stems st (on n (Some z))) broken
  step_at enter on site s at l st operator = operator_at enter on site s at l st (get_or s at 0)

  -- a body from a place on, k tokens at most; running off its end is not plain
  unfoldable pub walk : Enter → ℕ → Site → List ℕ → ℕ → Option ℤ → State → Run
  walk enter zero site s at l st = broken
  walk enter (suc k) site s at l st =
      pick (ltb at (length s)) (step_at enter (λ n m x. walk enter k site s n m x) site s at l st (number_at s at)) broken

  -- a body from its start, with calls d deep at most: each token has a byte, so that its length is enough
  unfoldable pub run_body : ℕ → Site → List ℕ → State → Run
  run_body zero site s st = walk (λ t b x. broken) (length s) site s 0 None st
  run_body (suc d) site s st = walk (run_body d) (length s) site s 0 None st

-- a glyph: not plain, or its tokens and the rows it meets
pub data Glyph : Type 0 where
  not_plain_lem : Glyph
  plain : List Tok → List Row → Glyph

abbrev pub glyph_of : Run → Glyph
glyph_of broken = not_plain_lem
glyph_of (returned st) = not_plain_lem
glyph_of (ended st) = plain st.out st.met

abbrev pub fresh : State
fresh = record { args = 0; stems = 0; spent = 0; out = []; met = [] }

-- glyph g of FD fd with its charstring; an empty one is plain and empty
unfoldable pub unfold_glyph : List (List ℕ) → List (List ℕ) → ℕ → ℕ → List ℕ → Glyph
unfold_glyph globals locals fd g [] = plain [] []
unfold_glyph globals locals fd g (b ∷ bs) = glyph_of (run_body globals locals fd 10 (glyph g) (b ∷ bs) fresh)
