-- That a font was read, that it was in a file, and that Private DICTs are remembered, is one fact each, so that a type may hold it.
use Rattle.std.specs.Prelude.{List, ℕ, length, ◌≡◌, ◌<◌, All, Result, Ok}
use Rattle.std.proofs.Common.{arith}
use Rattle.std.proofs.Props.{props}
use mathlib.Core.HLevel.{is_prop→PathP}
use Rattle.bits.specs.Bits.{words_for}
use Rattle.index.specs.Alone.{good_prop}
use Rattle.cff.specs.Font.{Private, private_data}
use Rattle.cff.specs.Reads.{GoodFont, Known}
use Rattle.cff.specs.File.{InFile}
use Rattle.cff.specs.declared.font.Font.{Font}
use Rattle.cff.specs.declared.private.PrivateWords.{PrivateWords}
use Rattle.refusal.specs.declared.Refusal.{Refusal}

pub good_font_prop : (b : List ℕ) (f : Font) → IsProp (GoodFont b f)
good_font_prop b f = Prim.hlevel (props, good_prop)

pub in_file_prop : (file : List ℕ) (f : Font) (b : List ℕ) → IsProp (InFile file f b)
in_file_prop file f b = Prim.hlevel (props, good_font_prop)

read_once : (r : Result Private Refusal) (p q : Private) → r ≡ Ok p → r ≡ Ok q → p ≡ q
read_once r p q e f = Prim.grind arith

answers_set : IsSet (Result Private Refusal)
answers_set = Prim.hlevel props

numbers_set : IsSet ℕ
numbers_set = Prim.hlevel props

below_prop : (m n : ℕ) → IsProp (m < n)
below_prop m n = Prim.hlevel props

-- what is remembered of a Private DICT is what reading it gives
pub known_prop : (b : List ℕ) (q : PrivateWords) → IsProp (Known b q)
known_prop b q x y =
    let r = private_data b q.size q.offset in
    let same : x.private ≡ y.private = read_once r _ _ x.is y.is in
    λ i. record {
      private = same i;
      few = below_prop _ _ x.few y.few i;
      counted = is_prop→PathP (λ j. words_for (length (same j).locals) ≡ q.words) (λ j. numbers_set _ _) x.counted y.counted i;
      is = is_prop→PathP (λ j. r ≡ Ok (same j)) (λ j. answers_set _ _) x.is y.is i;
    }

pub all_known_prop : (b : List ℕ) (last : List PrivateWords) → IsProp (All (Known b) last)
all_known_prop b last = Prim.hlevel (props, known_prop)
