-- Laws of the cut by either keying: parts of words that stay, what gathering the kept glyphs asks and gives, and what measures ask of a plan.
use Rattle.std.specs.Prelude.{ℕ, zero, suc, ◌+◌, ◌≤◌, ◌<◌, ◌≡◌, refl, true, List, [], ◌∷◌, length, take, drop}
use Rattle.std.proofs.Common.{sym, ap, ◌∙◌, arith, take-take}
use Rattle.octets.specs.Lists.{all_below}
use Rattle.index.specs.IndexLaws.{items-length}
use Rattle.unfold.specs.Unfold.{Row}
use Rattle.cff.specs.Reads.{program_of, GoodFont}
use Rattle.cff.specs.declared.font.Font.{Font}
use Rattle.subset.specs.Kept.{kept_of, written_order}
use Rattle.small.specs.Small.{small_size}
use Rattle.bits.specs.Bits.{words_for}
use Rattle.order.specs.Order.{kept_in}
use Rattle.order.specs.Walks.{many_in}
use Rattle.order_window.specs.Window.{glyphs_of}
use Rattle.subset.specs.Cut.{all_found_lem}
use Rattle.faithful.specs.FontHeld.{FontHeld}
use Rattle.renumber.specs.declared.Ranks.{Ranks}
use Rattle.bodies.specs.Ways.{kept_count}
use Rattle.fds.specs.Parts.{PartsFit}
use Rattle.parts.specs.Ready.{Ready, Summed}
use Rattle.parts.specs.declared.Planned.{Planned}
use Rattle.parts.specs.CodeLaws.{globals-few}
use Rattle.parts.specs.PrivateLaws.{parts_fit}

-- ---- words

part-take : (n k m : ℕ) (l : List ℕ) → n + k ≤ m → take k (drop n (take m l)) ≡ take k (drop n l)
part-take zero k m l h = take-take k m l (omega arith)
part-take (suc n) k zero l h = absurd (omega arith)
part-take (suc n) k (suc m) [] h = refl
part-take (suc n) k (suc m) (x ∷ xs) h = part-take n k m xs (omega arith)

-- a part of the words that did not change is as it was
pub part_stays : (n k m : ℕ) (old new : List ℕ) → n + k ≤ m → take m new ≡ take m old → take k (drop n new) ≡ take k (drop n old)
part_stays n k m old new h e = sym (part-take n k m new h) ∙ ap (λ (l : List ℕ). take k (drop n l)) e ∙ part-take n k m old h

-- ---- the order

-- what gathering the kept glyphs asks
pub gather_asks : (b : List ℕ) (f : Font) (keep ws window : List ℕ) → all_below (length (program_of b f).charstrings) keep ≡ true
    → all_found_lem (program_of b f) (kept_of (length (program_of b f).charstrings) keep) ≡ true → small_size (program_of b f) ≤ length ws → 0 < length window
    → (all_below (many_in f) keep ≡ true) × (all_found_lem (program_of b f) (kept_of (many_in f) keep) ≡ true) × (words_for (many_in f) ≤ length ws) × (0 < length window)
gather_asks b f keep ws window below found words some =
    let many : length (program_of b f).charstrings ≡ many_in f = items-length b f.charstrings in
    let wide : words_for (length (program_of b f).charstrings) ≡ words_for (many_in f) = ap words_for many in (
      ap (λ (m : ℕ). all_below m keep) (sym many) ∙ below,
      ap (λ (m : ℕ). all_found_lem (program_of b f) (kept_of m keep)) (sym many) ∙ found,
      omega (arith, words, wide),
      some,
    )

-- and that the font is good
pub gather_asked : (b : List ℕ) (f : Font) → FontHeld b f → (keep ws window : List ℕ) → all_below (length (program_of b f).charstrings) keep ≡ true
    → all_found_lem (program_of b f) (kept_of (length (program_of b f).charstrings) keep) ≡ true → small_size (program_of b f) ≤ length ws → 0 < length window
    → GoodFont b f × (all_below (many_in f) keep ≡ true) × (all_found_lem (program_of b f) (kept_of (many_in f) keep) ≡ true) × (words_for (many_in f) ≤ length ws) × (0 < length window)
gather_asked b f held keep ws window below found words some =
    let g = gather_asks b f keep ws window below found words some in
    (held.font, g.0, g.1, g.2, g.3)

-- the glyphs that are gathered are the kept ones as they are written
pub gathered-order : (b : List ℕ) (f : Font) (keep ws : List ℕ) → kept_in (many_in f) ws ≡ kept_of (many_in f) keep
    → glyphs_of b f ws ≡ written_order (program_of b f) (kept_of (length (program_of b f).charstrings) keep)
gathered-order b f keep ws e = ap (written_order (program_of b f)) (e ∙ ap (λ (m : ℕ). kept_of m keep) (sym (items-length b f.charstrings)))

-- ---- measures

module _ (b : List ℕ) (rows : List Row) (used ws : List ℕ) (table : List Ranks) (r : Planned) (ready : Ready b rows used ws r table) where
  -- the INDEXes of the globals and of the charstrings can be measured
  pub globals-measured : (kept_count r.how.way r.how.globals.reached r.how.globals.count ≤ 65535) × (r.globals_total ≤ 281474976710656)
  globals-measured = (globals-few b rows used ws table r ready, omega (arith, ready.globals_few))

  pub glyphs-measured : (r.order.count ≤ 65535) × (r.glyphs_total ≤ 281474976710656)
  glyphs-measured = (omega (arith, ready.few), omega (arith, ready.glyphs_few))

  -- and so can the Private parts
  pub parts-measured : (totals : List ℕ) → Summed b rows used ws r table totals → (256 ≤ length totals) × PartsFit (program_of b r.order.f) r.how.way table totals used
  parts-measured totals summed = (summed.long, parts_fit b rows used ws table r ready totals summed)
