-- How many work words a call asks for changes nothing but refusal 9: with enough of them the outcome is the same, whatever is asked for.
use Rattle.std.specs.Prelude.{ℕ, ◌≤◌, ◌≡◌, refl, Bool, List, [], ◌∷◌, Result, Ok}
use Rattle.std.proofs.Common.{sym, ap, ◌∙◌, arith, le-ltb}
use Rattle.cff.specs.Font.{Private, Program, read_font}
use Rattle.cff.specs.Find.{locals_total, locals_words, work_size}
use Rattle.subset.specs.Cut.{cut_read, cut_with}
use Rattle.subset.specs.Before.{work_before}
use Rattle.refusal.specs.declared.Refusal.{Refusal}

-- two sizes, and words enough for each
pub enough_same : (s t : Program → ℕ) (cid ask : Bool) (font name keep rec : List ℕ) (flag words words' room : ℕ) (p : Program) → read_font font ≡ Ok p
    → s p ≤ words → t p ≤ words' → cut_with s cid ask font name keep rec flag words room ≡ cut_with t cid ask font name keep rec flag words' room
unfolding cut_with
enough_same s t cid ask font name keep rec flag words words' room p is a b =
    ap (λ (g : Result Program Refusal). cut_read s cid ask g name keep rec flag words room) is
    ∙ rw (le-ltb _ _ a, le-ltb _ _ b) refl
    ∙ sym (ap (λ (g : Result Program Refusal). cut_read t cid ask g name keep rec flag words' room) is)

-- ---- Wish 7: bits in place of words

-- bits take no more words than numbers
locals-less : (qs : List Private) → locals_words qs ≤ locals_total qs
unfolding locals_words locals_total
locals-less [] = omega arith
locals-less (q ∷ qs) = let h = locals-less qs in omega (arith, h)

pub less-work : (p : Program) → work_size p ≤ work_before p
less-work p = let h = locals-less p.privates in omega (arith, h)

-- THE THEOREM: the reply is what it was wherever the words were enough before
pub same_reply : (cid ask : Bool) (font name keep rec : List ℕ) (flag words room : ℕ) (p : Program) → read_font font ≡ Ok p → work_before p ≤ words
    → cut_with work_size cid ask font name keep rec flag words room ≡ cut_with work_before cid ask font name keep rec flag words room
same_reply cid ask font name keep rec flag words room p is h =
    let l = less-work p in enough_same work_size work_before cid ask font name keep rec flag words words room p is (omega (arith, l, h)) h
