-- A font set of one font that was written (document 01, 'Layout'): header, names, top DICT, strings, globals and the rest. It is read as the
-- font that its top DICT gives.
use Rattle.std.specs.Prelude.{ℕ, ◌+◌, ◌≤◌, ◌<◌, ◌≡◌, refl, Bool, List, [], ◌∷◌, ◌++◌, ltb, length, drop, Result, Ok, Err}
use Rattle.std.proofs.Math.Path.{ap}
use Rattle.std.proofs.Common.{◌∙◌, le-ltb, length-append}
use native.Mathlib.Omega.{arith}
use Rattle.octets.specs.Pick.{pick, pick_ind}
use Rattle.octets.specs.Octets.{be, num_at}
use Rattle.index.specs.Index.{Read, found}
use Rattle.index.specs.Write.{size_for, index_bytes}
use Rattle.cff.specs.Font.{then, Program, font_at, fonts_at, first_of, index_then, set_at, read_table, read_font}
use Rattle.cff.specs.FileLaws.{bare}
use Rattle.faithful.specs.LiesLaws.{lies_behind, index_back}
use Rattle.refusal.specs.declared.Refusal.{Refusal}
use Rattle.refusal.specs.declared.Refusal.TheVariants.{Truncated}

-- an INDEX that is found, and what stands after it
pub read-then : {B : Type 0} {r : Read} {items : List (List ℕ)} {end : ℕ} (f : List (List ℕ) → ℕ → Result B Refusal) → r ≡ found items end → index_then r f ≡ f items end
read-then f e = ap (λ (x : Read). index_then x f) e

-- a font set of one font
abbrev pub set_bytes : ℕ → List ℕ → List ℕ → List (List ℕ) → List (List ℕ) → List ℕ → List ℕ
set_bytes offSize name top own globals rest =
    1 ∷ 0 ∷ 4 ∷ offSize ∷ (index_bytes (name ∷ []) ++ (index_bytes (top ∷ []) ++ (index_bytes own ++ (index_bytes globals ++ rest))))

-- where its top DICT, its strings, its globals and the rest stand
abbrev pub top_at : List ℕ → ℕ
top_at name = 4 + length (index_bytes (name ∷ []))

abbrev pub strings_at : List ℕ → List ℕ → ℕ
strings_at name top = top_at name + length (index_bytes (top ∷ []))

abbrev pub globals_at : List ℕ → List ℕ → List (List ℕ) → ℕ
globals_at name top own = strings_at name top + length (index_bytes own)

abbrev pub rest_at : List ℕ → List ℕ → List (List ℕ) → List (List ℕ) → ℕ
rest_at name top own globals = globals_at name top own + length (index_bytes globals)

-- an offset size is a byte
pub size_small : (v : ℕ) → size_for v < 256
unfolding size_for
size_small v =
    pick_ind (λ (n : ℕ). n < 256) (ltb v 256) 1 _ (λ e. omega arith)
    (λ e. pick_ind (λ (n : ℕ). n < 256) (ltb v 65536) 2 _ (λ e. omega arith)
    (λ e. pick_ind (λ (n : ℕ). n < 256) (ltb v 16777216) 3 4 (λ e. omega arith) (λ e. omega arith)))

module _ (offSize : ℕ) (name top : List ℕ) (own globals : List (List ℕ)) (rest : List ℕ) where
  -- the bytes
  abbrev bs : List ℕ
  bs = set_bytes offSize name top own globals rest

  -- each part stands at its place
  names_lie : drop 4 bs ≡ index_bytes (name ∷ []) ++ (index_bytes (top ∷ []) ++ (index_bytes own ++ (index_bytes globals ++ rest)))
  names_lie = refl

  top_lies : drop (top_at name) bs ≡ index_bytes (top ∷ []) ++ (index_bytes own ++ (index_bytes globals ++ rest))
  top_lies = lies_behind bs 4 (index_bytes (name ∷ [])) _ names_lie

  strings_lie : drop (strings_at name top) bs ≡ index_bytes own ++ (index_bytes globals ++ rest)
  strings_lie = lies_behind bs (top_at name) (index_bytes (top ∷ [])) _ top_lies

  globals_lie : drop (globals_at name top own) bs ≡ index_bytes globals ++ rest
  globals_lie = lies_behind bs (strings_at name top) (index_bytes own) _ strings_lie

  -- the rest stands behind
  pub rest_lies : drop (rest_at name top own globals) bs ≡ rest
  rest_lies = lies_behind bs (globals_at name top own) (index_bytes globals) rest globals_lie

  -- and within the bytes
  pub rest-within : rest_at name top own globals ≤ length bs
  rest-within = simp length-append (omega arith)

  module _ (small : offSize < 256) (manyStrings : length own < 65536) (manyGlobals : length globals < 65536) (short : length bs ≤ 67108864) where
    -- the INDEXes read back
    set-read : set_at bs 4 ≡ then (fonts_at bs own globals (top ∷ [])) first_of
    unfolding set_at
    set-read =
        read-then _ (index_back bs 4 (name ∷ []) _ (omega arith) short names_lie)
        ∙ read-then _ (index_back bs (top_at name) (top ∷ []) _ (omega arith) short top_lies)
        ∙ read-then _ (index_back bs (strings_at name top) own _ manyStrings short strings_lie)
        ∙ read-then _ (index_back bs (globals_at name top own) globals _ manyGlobals short globals_lie)

    -- it begins with 1 and not with `OTTO`, so it is a bare font
    begins : num_at bs 0 4 ≡ 16778240 + offSize
    unfolding num_at be
    begins = omega arith

    set-bare : read_font bs ≡ read_table bs
    set-bare = bare bs short (λ e. omega (arith, begins, e, small))

    -- it is read as its one font
    pub set_back : (p : Program) → font_at bs own globals top ≡ Ok p → read_font bs ≡ Ok p
    unfolding read_table fonts_at
    set_back p e =
        set-bare
        ∙ ap (λ (t : Bool). pick t (Err Truncated) (set_at bs 4)) (le-ltb (length bs) 4 (omega arith))
        ∙ set-read
        ∙ ap (λ (g : Result Program Refusal). then (then g (λ p. then (fonts_at bs own globals []) (λ ps. Ok (p ∷ ps)))) first_of) e
