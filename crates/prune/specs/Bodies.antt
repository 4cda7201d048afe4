-- How a subset's bodies relate to the font's, as far as the unfolding of one glyph (document 01, 'Plain glyphs') is concerned: the hypotheses of the theorem that
-- renumbering leaves what a plain glyph unfolds to.
use Rattle.std.specs.Prelude.{ℕ, ◌≡◌, List, [], ◌∷◌, ℤ, length, get_or, Some}
use Rattle.octets.specs.Octets.{Octets}
use Rattle.type2_number.specs.Number.{Reading}
use Rattle.charstring.specs.declared.MaskLen.{MaskLen}
use Rattle.charstring.specs.declared.MaskLen.TheVariants.{Given}
use Rattle.unfold.specs.Unfold.{Row, Site, local, global, masked, target_of}
use Rattle.prune.specs.Renumber.{Calls, renumber_charstring}

-- every row of a list is one of those listed
pub data All (listed : Row → Type 0) : List Row → Type 0 where
  empty : All listed []
  one : {r : Row} {rs : List Row} → listed r → All listed rs → All listed (r ∷ rs)

-- the font's subroutines and the subset's, for a glyph of FD fd there and fd' here: which rows the record lists, the lengths it gives for a
-- body's masks, what becomes of a body's calls, and which old subroutine is which new one
pub record Renumbers (globals locals globals' locals' : List (List ℕ)) (fd : ℕ) (listed : Row → Type 0) (given : Site → ℕ → MaskLen)
    (calls : Site → Calls) (is_local isGlobal : ℕ → ℕ → Type 0) : Type 1 where
  -- a mask that is listed has its length given
  pub lengths : (site : Site) (offset len : ℕ) → listed (masked site offset len) → given site offset ≡ Given len
  -- a call that is rewritten calls the new subroutine of the one it called
  pub local_call : (site : Site) (z y : ℤ) (i : ℕ) → calls site 10 z ≡ Some y → target_of (length locals) (Some z) ≡ Some i
      → (n : ℕ) × (target_of (length locals') (Some y) ≡ Some n) × is_local i n
  pub global_call : (site : Site) (z y : ℤ) (i : ℕ) → calls site 29 z ≡ Some y → target_of (length globals) (Some z) ≡ Some i
      → (n : ℕ) × (target_of (length globals') (Some y) ≡ Some n) × isGlobal i n
  -- its operand is a reading
  pub operand : (site : Site) (b : ℕ) (z y : ℤ) → calls site b z ≡ Some y → Reading y
  -- the new subroutine is the old one, renumbered
  pub local_body : (i n : ℕ) → is_local i n → renumber_charstring (calls (local fd i)) (given (local fd i)) (get_or locals i []) ≡ Some (get_or locals' n [])
  pub global_body : (i n : ℕ) → isGlobal i n → renumber_charstring (calls (global i)) (given (global i)) (get_or globals i []) ≡ Some (get_or globals' n [])
  -- bodies are bytes
  pub local_octets : (i : ℕ) → Octets (get_or locals i [])
  pub global_octets : (i : ℕ) → Octets (get_or globals i [])
