-- Laws of a walk over the tokens of a body that asks a part of its rows: at an offset of the part it reads what it reads by the whole record.
use Rattle.std.specs.Prelude.{ℕ, ◌-◌, ◌≤◌, ◌<◌, ◌≡◌, refl, Bool, true, false, List, take, None, Option, ℤ}
use Rattle.std.proofs.Common.{sym, ap, ◌∙◌, arith}
use Rattle.std.proofs.lemmas.Bool.{false≢true}
use Rattle.octets.specs.Pick.{pick}
use Rattle.charstring.specs.declared.MaskLen.{MaskLen}
use Rattle.charstring.specs.declared.MaskLen.TheVariants.{Own}
use Rattle.charstring.specs.declared.Cursor.{Cursor}
use Rattle.charstring.specs.Token.{token_at}
use Rattle.charstring.specs.Answers.{step_of, given_at}
use Rattle.unfold.specs.Unfold.{Row, Site}
use Rattle.record.specs.Record.{rows_of, given_in, two_lengths_lem}
use Rattle.prune.specs.Renumber.{Calls, renumber_charstring}
use Rattle.subset.specs.Pruned.{renumbered_body}
use Rattle.unfold.specs.Sites.{site_of}
use Rattle.unfold.specs.declared.Site as code
use Rattle.renumber.specs.Turn.{turned_at, is_yes}
use Rattle.renumber.specs.declared.Turned.{Turned}
use Rattle.long_bodies.specs.Offsets.{Gives}
use Rattle.long_bodies.specs.declared.part.Part.{Part}

-- THE LAW of a part: the token at its offset
pub turned-alike : {rec bytes shown : List ℕ} {site : code.Site} {w : Part} → Gives rec bytes site w → shown ≡ take w.len bytes → (calls : Calls) (h : Option ℤ) (s : List ℕ) (c : Cursor) (offset : ℕ)
    → offset ≡ c.at - 1 → w.from ≤ offset → offset < w.end → (r : Option Turned)
    → r ≡ turned_at calls h (step_of (token_at s (given_at (given_in (rows_of shown) (site_of site)) c) c))
    → r ≡ turned_at calls h (step_of (token_at s (given_at (given_in (rows_of rec) (site_of site)) c) c))
turned-alike {rec} {bytes} {shown} {site} g there calls h s c offset e from to r f =
    f ∙ ap (λ (l : List ℕ). turned_at calls h (step_of (token_at s (given_at (given_in (rows_of l) (site_of site)) c) c))) there
    ∙ ap (λ (m : MaskLen). turned_at calls h (step_of (token_at s (pick c.due m Own) c))) (sym (g.same (c.at - 1) (omega (arith, e)) (omega (arith, e))))

-- a body that is renumbered has one length at each offset
pub one_each : (rows : List Row) (calls : Calls) (site : Site) (s : List ℕ) → is_yes (renumbered_body rows calls site s) ≡ true → two_lengths_lem rows site ≡ false
unfolding renumbered_body
one_each rows calls site s e = by (two_lengths_lem rows site) (renumber_charstring calls (given_in rows site) s) e
  where
    by : (t : Bool) (m : Option (List ℕ)) → is_yes (pick t None m) ≡ true → t ≡ false
    by true m f = absurd (false≢true f)
    by false m f = refl
