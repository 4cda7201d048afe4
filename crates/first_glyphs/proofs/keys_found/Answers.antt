-- `first_glyphs::keys_found` meets its contract.
use Rattle.std.proofs.Common.{List, arith, get_or, length, refl, rules, sym, ℕ, ◌<◌, ◌≤◌, ◌∙◌, ◌≡◌}
use Rattle.bits.specs.Bits.{bit_in}
use Rattle.charset.specs.AheadLaws.{passed-start, passed_all, passed_inside, passed_id, passed-next}
use Rattle.charset.specs.CharsetFound.{good_length}
use Rattle.charset.specs.Ids.{ids}
use Rattle.subset.specs.EachLaws.{length-mapped, mapped_at}
use Rattle.subset.specs.Pruned.{mapped}
use Rattle.first_glyphs.specs.FoundLaws.{all_start, all_stops, all-passed, all_either, all_done, seen_none, seen_not, seen-found, seen_next}
use Rattle.first_glyphs.proofs.keys_found.Goals as goal
use Rattle.first_glyphs.proofs.keys_found.Goals.{else-see-via-then-see+else-has_bit, else-see-via-else-see}

-- an id below 65536
small : (all : List ℕ) (g id : ℕ) → id ≡ get_or all g 0 → get_or all g 0 < 65536 → id < 65536
small all g id e h = omega arith

-- the key of the glyph of the turn
key-is : (all : List ℕ) (g id k : ℕ) (key_of : ℕ → ℕ) → g < length all → id ≡ get_or all g 0 → k ≡ key_of id → k ≡ get_or (mapped key_of all) g 0
key-is all g id k key_of h e f = f ∙ rw e (sym (mapped_at key_of all g 0 h))

pub key-k-requires : goal.key-k-requires
key-k-requires g c =
    let l = c.loop-g in
    let more = c.in-Some.ensures.steps in
    let h = c.requires.callable c.in-Some.id (small _ l.g _ (passed_id _ _ _ l.invariant.0 _ _ more) (c.iter-id-items.ensures.small l.g)) in search rules

pub see-requires : goal.see-requires
see-requires g c =
    let l = c.loop-g in
    let more = c.in-Some.ensures.steps in
    let h = small _ l.g _ (passed_id _ _ _ l.invariant.0 _ _ more) (c.iter-id-items.ensures.small l.g) in
    omega (arith, c.requires.small _ _ h c.key-k.ensures, l.auto.seen, c.requires.unseen.size)

pub has_bit-requires : goal.has_bit-requires
has_bit-requires g c =
    let f = c.args.flagged.now in
    omega (arith, passed_inside _ _ _ c.loop-g.invariant.0 _ _ c.in-Some.ensures.steps, good_length _ _ _ f.glyphs.good, f.enough)

pub returns-then-has_bit : goal.returns-then-has_bit
returns-then-has_bit g c = λ key_of gives.
    let l = c.loop-g in
    let f = c.args.flagged.now in
    let all = ids f.glyphs in
    let more = c.in-Some.ensures.steps in
    let inside = passed_inside _ _ _ l.invariant.0 _ _ more in
    let is = passed_id _ _ _ l.invariant.0 _ _ more in
    let h = small all l.g _ is (c.iter-id-items.ensures.small l.g) in
    let key = key-is all l.g _ _ key_of inside is (gives _ _ h c.key-k.ensures) in
    let i = l.invariant.1 key_of gives in
    all_stops _ (bit_in f.flags.now 0) f.glyphs.n l.g (omega (arith, inside, good_length _ _ _ f.glyphs.good)) (sym c.has_bit.ensures ∙ c.if-has_bit.true)
    (seen_not _ _ _ i.0 _ key (omega (arith, inside, length-mapped key_of all)) (sym c.see.ensures.was ∙ c.if-see.true)) ∙ i.1

pub overflow_step-g : goal.overflow_step-g
overflow_step-g g c =
    let n = c.args.flagged.now.glyphs.good in
    omega (arith, passed_inside _ _ _ c.loop-g.invariant.0 _ _ c.in-Some.ensures.steps, good_length _ _ _ n, n.few)

pub loop-g-preserved : goal.loop-g-preserved
loop-g-preserved g c =
    let l = c.loop-g in
    let more = c.in-Some.ensures.steps in (
      passed-next _ _ _ l.invariant.0 _ _ more,
      λ key_of gives.
          let f = c.args.flagged.now in
          let all = ids f.glyphs in
          let inside = passed_inside _ _ _ l.invariant.0 _ _ more in
          let is = passed_id _ _ _ l.invariant.0 _ _ more in
          let h = small all l.g _ is (c.iter-id-items.ensures.small l.g) in
          let key = key-is all l.g _ _ key_of inside is (gives _ _ h c.key-k.ensures) in
          let i = l.invariant.1 key_of gives in
          let m : l.g < f.glyphs.n = omega (arith, inside, good_length _ _ _ f.glyphs.good) in
          let flags = bit_in f.flags.now 0 in (
            seen_next _ l.g _ i.0 _ key _ c.see.ensures.bits,
            elim c.else-see.branch [
              | else-see-via-then-see+else-has_bit w ↦ all-passed _ flags f.glyphs.n l.g m (sym w.has_bit.ensures ∙ w.if-has_bit.false) ∙ i.1
              | else-see-via-else-see w ↦
                  all_either _ flags f.glyphs.n l.g m (seen-found _ _ _ i.0 _ key (omega (arith, inside, length-mapped key_of all)) (sym c.see.ensures.was ∙ w.if-see.false)) (flags l.g) refl ∙ i.1
            ],
          ),
    )

pub returns : goal.returns
returns g c = λ key_of gives.
    let l = c.loop-g in
    let n = good_length _ _ _ c.args.flagged.now.glyphs.good in
    all_done _ _ _ _ (omega (arith, n, passed_all _ _ _ l.invariant.0 c.in-None.ensures.steps.0)) ∙ (l.invariant.1 key_of gives).1
