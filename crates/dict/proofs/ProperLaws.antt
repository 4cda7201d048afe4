-- What was read is proper: operators that there are, and numbers within the limits.
use Prim.Native.Nat.{ℕ, zero, suc}
use Rattle.std.specs.Prelude.{◌≡◌, true, ltb, length, Ok}
use Rattle.std.proofs.Math.Path.{refl, subst}
use mathlib.Core.List.{List, [], ◌∷◌}
use Rattle.octets.specs.Pick.{pick_ind}
use Rattle.octets.specs.Octets.{Octets}
use Rattle.decimal.specs.declared.Decimal.{Decimal}
use Rattle.dict.specs.Op.{is_operator}
use Rattle.dict.specs.Dict.{Entry, Token, bad, operand, operator, token_at, Reading, stopped, got, after, onward, entry_from, entry_at, followed, readings_from, readings_at, dict_of}
use Rattle.dict.specs.Places.{listed, entries_of}
use Rattle.dict.specs.Proper.{AllNormal, AllProper}
use Rattle.dict.specs.TokenLaws.{operator_is}
use Rattle.dict.proofs.LookupLaws.{Chain, chain, operands_normal, entries_are}

-- the operator of an entry is one
abbrev pub Named : Reading → Type 0
Named (stopped n) = Unit
Named (got op ds end next) = is_operator op ≡ true

unfoldable AllNamed : List Reading → Type 0
AllNamed [] = Unit
AllNamed (r ∷ rs) = Named r × AllNamed rs

after-named : (d : Decimal) (r : Reading) → Named r → Named (after d r)
after-named d (stopped n) h = tt
after-named d (got op ds end next) h = h

module _ (b : List ℕ) (o : Octets b) where
  onward-named : (at : ℕ) (t : Token) → token_at b at ≡ t → (f : ℕ → Reading) → ((next : ℕ) → Named (f next)) → Named (onward at t f)
  onward-named at (bad n) e f h = tt
  onward-named at (operand d next) e f h = after-named d (f next) (h next)
  onward-named at (operator op next) e f h = operator_is b at o op next e

  from_named : (k at : ℕ) → Named (entry_from k b at)
  unfolding entry_from
  from_named zero at = tt
  from_named (suc k) at = pick_ind Named (ltb at (length b)) _ _ (λ e. onward-named at (token_at b at) refl (entry_from k b) (from_named k)) (λ e. tt)

  pub entry_named : (at : ℕ) → Named (entry_at b at)
  unfolding entry_at
  entry_named at = from_named (length b) at

  followed-named : (r : Reading) → Named r → (f : ℕ → List Reading) → ((next : ℕ) → AllNamed (f next)) → AllNamed (followed r f)
  unfolding AllNamed
  followed-named (stopped n) h f g = (tt, tt)
  followed-named (got op ds end next) h f g = (h, g next)

  all_named : (k at : ℕ) → AllNamed (readings_from k b at)
  unfolding AllNamed readings_from
  all_named zero at = tt
  all_named (suc k) at = pick_ind AllNamed (ltb at (length b)) _ _ (λ e. followed-named (entry_at b at) (entry_named at) (readings_from k b) (all_named k)) (λ e. tt)

  listed_proper : (rs : List Reading) (at : ℕ) → Chain b at rs → AllNamed rs → AllProper (listed rs)
  unfolding Chain AllNamed listed AllProper
  listed_proper [] at c n = tt
  listed_proper (stopped m ∷ rs) at c n = tt
  listed_proper (got op ds end next ∷ rs) at c n =
      (record { operator = n.0; numbers = subst AllNormal c.0 (operands_normal b o (length ds) at) }, listed_proper rs next c.1 n.1)

  pub entries_proper : AllProper (entries_of b)
  unfolding readings_at
  entries_proper = listed_proper (readings_at b 0) 0 (chain b 0) (all_named (length b) 0)

  -- the entries of a DICT that is not refused
  pub dict_proper : (es : List Entry) → dict_of b ≡ Ok es → AllProper es
  dict_proper es e = subst AllProper (entries_are b es e) entries_proper
