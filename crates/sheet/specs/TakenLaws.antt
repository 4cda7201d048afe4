-- A text that was taken is read from the buffer: what is read there is what the whole text holds.
use Rattle.std.specs.Prelude.{ℕ, ◌≤◌, ◌<◌, List, take, Option, None}
use Rattle.std.proofs.Common.{ap, ◌∙◌, subst, arith}
use Rattle.sheet.specs.Sheet.{Sheet, sheet_of}
use Rattle.sheet.specs.Reading.{Reads}
use Rattle.sheet.specs.PartsLaws.{reads_other}
use Rattle.sheet.specs.Taking.{squeezed, Held, whole, over, Took}
use Rattle.sheet.specs.SqueezedLaws.{sheet-squeezed, sheet-over}
use Rattle.sheet.specs.declared.reading.Parts.{Parts}

module _ (text : List ℕ) (len : ℕ) (buffer font name keep rec : List ℕ) where
  held_reads : (r : Option Parts) → Held (squeezed 0 text) len buffer → len ≤ 48134 → Reads (sheet_of (take len buffer)) font name keep rec r
      → Reads (sheet_of text) font name keep rec r
  held_reads r (whole n m t) h x = subst (λ (o : Option Sheet). Reads o font name keep rec r) (ap sheet_of t ∙ sheet-squeezed text) x
  held_reads r (over n m) h x = absurd (omega (arith, n, h))

  held_other : Held (squeezed 0 text) len buffer → 48134 < len → Reads (sheet_of text) font name keep rec None
  held_other (whole n m t) h = absurd (omega (arith, m, h))
  held_other (over n m) h = reads_other text font name keep rec (sheet-over text m)

  -- all of it is in the buffer
  pub taken-reads : (mode : ℕ) (r : Option Parts) → len ≤ 48134 → Reads (sheet_of (take len buffer)) font name keep rec r → Took text len mode buffer
      → Reads (sheet_of text) font name keep rec r
  taken-reads mode r h x t = held_reads r t.held h x

  -- there was too much
  pub taken_other : (mode : ℕ) → 48134 < len → Took text len mode buffer → Reads (sheet_of text) font name keep rec None
  taken_other mode h t = held_other t.held h
