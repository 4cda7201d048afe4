-- What a plain glyph unfolds to (document 01, demand 3 and 'Plain glyphs') stays the same in a subset, if the record lists the rows that the
-- glyph meets: over subroutines that stay as they are where they are listed, and over charstrings and subroutines that are renumbered.
use Rattle.std.specs.Prelude.{ℕ, ◌≡◌, refl, List, [], ◌∷◌, length, get_or, Some}
use Rattle.std.proofs.Common.{sym, ap, ◌∙◌, subst}
use Rattle.unfold.specs.Unfold.{Tok, Row, Site, glyph, local, global, entered, Run, broken, returned, ended, walk, run_body, plain, glyph_of, fresh, unfold_glyph}
use Rattle.octets.specs.Octets.{Octets}
use Rattle.charstring.specs.Token.{tokens_from, tokens_of}
use Rattle.charstring.specs.Encode.{encode}
use Rattle.charstring.specs.declared.MaskLen.{MaskLen}
use Rattle.prune.specs.Renumber.{Calls, renumber, renumber_charstring}
use Rattle.prune.specs.Bodies.{All, Renumbers}
use Rattle.prune.specs.StepLaws.{zero_one}
use Rattle.prune.specs.AlikeLaws.{Listed, Alike}
use Rattle.prune.specs.SameLaws.{Same, same_body}
use Rattle.prune.proofs.WalkLaws.{renumbered-body}

-- runs that are alike give glyphs that are alike
alike_glyph : (listed : Row → Type 0) (r other : Run) (ts : List Tok) (rows : List Row) → glyph_of r ≡ plain ts rows → All listed rows
    → (Listed listed r → Alike r other) → (rows' : List Row) × (glyph_of other ≡ plain ts rows')
alike_glyph listed broken other ts rows e h alike = absurd (zero_one cc)
alike_glyph listed (returned st) other ts rows e h alike = absurd (zero_one cc)
alike_glyph listed (ended st) other ts rows e h alike =
    let o : st.out ≡ ts = cc in
    let m : st.met ≡ rows = cc in
    let a = alike (subst (All listed) (sym m) h) in
    (a.0, ap glyph_of a.1 ∙ ap (λ (x : List Tok). plain x a.0) o)

-- a body that ends has bytes
run_glyph : (globals locals : List (List ℕ)) (fd g : ℕ) (s : List ℕ) (ts : List Tok) (rows : List Row)
    → glyph_of (run_body globals locals fd 10 (glyph g) s fresh) ≡ plain ts rows → unfold_glyph globals locals fd g s ≡ plain ts rows
unfolding unfold_glyph run_body walk
run_glyph globals locals fd g [] ts rows e = absurd (zero_one cc)
run_glyph globals locals fd g (b ∷ bs) ts rows e = e

renumbered-nothing : (calls : Calls) (given : ℕ → MaskLen) (s' : List ℕ) → renumber_charstring calls given [] ≡ Some s' → [] ≡ s'
unfolding renumber_charstring tokens_of tokens_from renumber encode
renumbered-nothing calls given s' e = cc

-- THE THEOREM for stubbed and copied subroutines
pub same_unfolds : (globals locals globals' locals' : List (List ℕ)) (fd fd' g g' : ℕ) (listed : Row → Type 0)
    → length locals' ≡ length locals → length globals' ≡ length globals
    → ((i : ℕ) → listed (entered (local fd i)) → get_or locals' i [] ≡ get_or locals i [])
    → ((i : ℕ) → listed (entered (global i)) → get_or globals' i [] ≡ get_or globals i [])
    → (s : List ℕ) (ts : List Tok) (rows : List Row) → unfold_glyph globals locals fd g s ≡ plain ts rows → All listed rows
    → (rows' : List Row) × (unfold_glyph globals' locals' fd' g' s ≡ plain ts rows')
unfolding unfold_glyph
same_unfolds globals locals globals' locals' fd fd' g g' listed ll gl lb gb [] ts rows e h = (rows, e)
same_unfolds globals locals globals' locals' fd fd' g g' listed ll gl lb gb (b ∷ bs) ts rows e h =
    let same : Same globals locals globals' locals' fd listed
    = record { locals-length = ll; globals-length = gl; local_body = lb; global_body = gb } in
    alike_glyph listed (run_body globals locals fd 10 (glyph g) (b ∷ bs) fresh) (run_body globals' locals' fd' 10 (glyph g') (b ∷ bs) fresh) ts rows e h
    (λ l. (same_body globals locals globals' locals' fd fd' listed same 10 (glyph g) (glyph g') (b ∷ bs) fresh _ refl refl l).alike [])

-- THE THEOREM for renumbered charstrings and subroutines
pub renumbered_unfolds : (globals locals globals' locals' : List (List ℕ)) (fd fd' g g' : ℕ) (listed : Row → Type 0) (given : Site → ℕ → MaskLen) (calls : Site → Calls)
    (is_local isGlobal : ℕ → ℕ → Type 0) → Renumbers globals locals globals' locals' fd listed given calls is_local isGlobal
    → (s s' : List ℕ) → Octets s → renumber_charstring (calls (glyph g)) (given (glyph g)) s ≡ Some s'
    → (ts : List Tok) (rows : List Row) → unfold_glyph globals locals fd g s ≡ plain ts rows → All listed rows
    → (rows' : List Row) × (unfold_glyph globals' locals' fd' g' s' ≡ plain ts rows')
unfolding unfold_glyph
renumbered_unfolds globals locals globals' locals' fd fd' g g' listed given calls is_local isGlobal renumbers [] s' o q ts rows e h =
    (rows, ap (unfold_glyph globals' locals' fd' g') (sym (renumbered-nothing (calls (glyph g)) (given (glyph g)) s' q)) ∙ e)
renumbered_unfolds globals locals globals' locals' fd fd' g g' listed given calls is_local isGlobal renumbers (b ∷ bs) s' o q ts rows e h =
    let x = alike_glyph listed (run_body globals locals fd 10 (glyph g) (b ∷ bs) fresh) (run_body globals' locals' fd' 10 (glyph g') s' fresh) ts rows e h
    (λ l. (renumbered-body globals locals globals' locals' fd fd' listed given calls is_local isGlobal renumbers 10 (glyph g) (glyph g') (b ∷ bs) s'
    (record { kind = refl; octets = o; is = q }) fresh _ refl l).alike []) in
    (x.0, run_glyph globals' locals' fd' g' s' ts x.0 x.1)
