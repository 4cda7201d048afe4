-- Laws of what stays: nothing but the lent memory's words and bytes changes, so the same search goes on.
use Rattle.std.specs.Prelude.{ℕ, ◌≡◌, refl, Bool, List, length, set}
use Rattle.std.proofs.Common.{ap, ◌∙◌}
use Rattle.cff.specs.Font.{Program}
use Rattle.cff.specs.Loaded.{program}
use Rattle.culprit.specs.Culprit.{has_way}
use Rattle.blocking.specs.Stays.{over, cut_by, Stays}
use Rattle.blocking.specs.declared.search.Search.{Search}
use Rattle.subset.specs.declared.Way.TheVariants.{Renumbered}

pub stays-refl : (s : Search) → Stays s s
stays-refl s = record { font = refl; name = refl; words = refl; words_long = refl; slice = refl; slice_long = refl }

pub stays-then : {old mid new : Search} → Stays old mid → Stays mid new → Stays old new
stays-then a b =
    record {
      font = b.font ∙ a.font;
      name = b.name ∙ a.name;
      words = b.words ∙ a.words;
      words_long = b.words_long ∙ a.words_long;
      slice = b.slice ∙ a.slice;
      slice_long = b.slice_long ∙ a.slice_long;
    }

pub over-stays : {A : Type 0} (of : Program → List ℕ → ℕ → ℕ → A) (old new : Search) → Stays old new → over of new ≡ over of old
over-stays of old new h =
    ap (λ f. of (program f.loaded) new.name.now (length new.words.now) (length new.slice.now)) h.font
    ∙ ap (λ n. of (program old.font.loaded) n.now (length new.words.now) (length new.slice.now)) h.name
    ∙ ap (λ w. of (program old.font.loaded) old.name.now w (length new.slice.now)) h.words_long
    ∙ ap (λ t. of (program old.font.loaded) old.name.now (length old.words.now) t) h.slice_long

-- a list that was tried, by the list and the search of the start
pub tried-as : (list first : List ℕ) (old new : Search) (g : ℕ) (r : Bool) → list ≡ first → Stays old new → r ≡ has_way Renumbered (over (cut_by (set list g 0)) new)
    → r ≡ has_way Renumbered (over (cut_by (set first g 0)) old)
tried-as list first old new g r a h e =
    e ∙ ap (has_way Renumbered) (over-stays (cut_by (set list g 0)) old new h) ∙ ap (λ (l : List ℕ). has_way Renumbered (over (cut_by (set l g 0)) old)) a
