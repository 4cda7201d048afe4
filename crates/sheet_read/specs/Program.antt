-- The program `cut` (document 01, 'One sheet, whole'): what it says of the input that it takes in pieces, and of what it prints. A read says how many bytes it gave, and nothing of which
-- they are; so a text is told by what is in the buffer.
use Rattle.std.specs.Prelude.{ℕ, zero, suc, min, ◌≡◌, List, ℤ, pos, negsuc, length, take}
use Rattle.octets.specs.Octets.{Wrote}
use Rattle.sheet.specs.Sheet.{cut_sheet}
use Rattle.sheet.specs.Taking.{Took}
use Rattle.sheet.specs.Pieces.{TakesOn}
use Rattle.sheet.specs.declared.taking.Taking.{Taking}
use Rattle.sheet_read.specs.declared.Next.{Next}
use Rattle.sheet_read.specs.declared.Next.TheVariants.{Failed, End, More}

-- a piece is taken behind any text that was taken before
pub data Takes (piece : List ℕ) (old new : Taking) (r : Next) : Type 0 where
  takes : r ≡ More → TakesOn piece old new → Takes piece old new r

-- what comes of so many bytes in front of a piece: none are the end of the input
unfoldable pub Came : ℕ → List ℕ → Taking → Taking → Next → Type 0
Came zero piece old new r = (r ≡ End) × (new ≡ old)
Came (suc n) piece old new r = Takes (take (suc n) piece) old new r

-- what comes of a read that answered got: a negative answer is a failure, any other a number of bytes
unfoldable pub Goes : ℤ → List ℕ → Taking → Taking → Next → Type 0
Goes (negsuc k) piece old new r = (r ≡ Failed) × (new ≡ old)
Goes (pos k) piece old new r = Came (min k (length piece)) piece old new r

-- some text was taken
pub data Begun (len mode : ℕ) (buffer : List ℕ) : Type 0 where
  begun : (text : List ℕ) → Took text len mode buffer → Begun len mode buffer

-- what document 01 has the program print of the text that was taken is in front of new
pub data Prints (old new : List ℕ) (r : ℕ) : Type 0 where
  prints : (text : List ℕ) → Wrote old 0 (cut_sheet text) new r → Prints old new r
