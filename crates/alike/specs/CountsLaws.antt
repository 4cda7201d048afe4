-- How many work words a call asks for (document 01, 'Entries and their refusals'): W goes by counts alone.
use Rattle.std.specs.Prelude.{ℕ, suc, ◌≡◌, refl, Bool, List, [], ◌∷◌, length, get_or}
use Rattle.std.proofs.Common.{arith}
use Rattle.prune.specs.StepLaws.{zero_one}
use Rattle.cff.specs.Font.{Private, Program, empty_private}
use Rattle.cff.specs.Find.{locals_words, work_size}
use Rattle.alike.specs.Alike.{Alike, SameCounts, CountsAlone}

-- as many local subroutines of each FD, and so of all
locals_same : (xs ys : List Private) → length xs ≡ length ys → ((f : ℕ) → length (get_or xs f empty_private).locals ≡ length (get_or ys f empty_private).locals)
    → locals_words xs ≡ locals_words ys
unfolding locals_words
locals_same [] [] many same = refl
locals_same [] (y ∷ ys) many same = absurd (zero_one (omega arith))
locals_same (x ∷ xs) [] many same = absurd (zero_one (omega arith))
locals_same (x ∷ xs) (y ∷ ys) many same =
    let first : length x.locals ≡ length y.locals = same 0 in
    rw (first, locals_same xs ys (omega arith) (λ f. same (suc f)))

pub work_counts : CountsAlone work_size
work_counts p q c = rw (c.charstrings, c.globals, locals_same p.privates q.privates c.privates c.locals)

-- fonts that are alike have the same counts
pub alike_counts : {keep : List ℕ} {global : ℕ → Bool} {local : ℕ → ℕ → Bool} {p q : Program} → Alike keep global local p q → SameCounts p q
alike_counts a =
    record {
      charstrings = a.charstrings.many;
      globals = a.globals.many;
      privates = a.many_privates;
      locals = λ f. (a.privates f).locals.many;
    }
