-- Laws of the preparing: the own strings that the code counts are the subset's.
use Rattle.std.specs.Prelude.{ℕ, ◌≤◌, ◌≡◌, true, false, List, [], length, Option}
use Rattle.std.proofs.Common.{sym, ap, ◌∙◌, arith, take_all}
use Rattle.index.specs.Index.{items_of}
use Rattle.index.specs.Write.{total}
use Rattle.index.specs.declared.Index.{Index}
use Rattle.cff.specs.Font.{Program}
use Rattle.cff.specs.Reads.{program_of}
use Rattle.cff.specs.declared.font.Font.{Font}
use Rattle.cff.specs.declared.loaded.Loaded.{Loaded}
use Rattle.cff.specs.Loaded.{program}
use Rattle.subset.specs.Texts.{own_strings_lem}
use Rattle.subset.specs.Subset.{own_by_name, own_by_cid}
use Rattle.order.specs.Walks.{order_in}
use Rattle.order_window.specs.declared.Order.{Order}
use Rattle.order_window.specs.declared.window.Kept.{Kept}
use Rattle.order_window.specs.Window.{glyphs_of, Gathered}
use Rattle.order_window.specs.Stays.{order_of, kept_glyphs}
use Rattle.own_strings.specs.declared.Own.{Own}
use Rattle.own_strings.specs.declared.slots.Slot.{Slot}
use Rattle.own_strings.specs.Slots.{sids_of, slot_texts, own_of, slots_own, all_own}
use Rattle.own_strings.specs.Ready.{HasStrings}
use Rattle.own_strings.specs.SlotTexts.{cid_texts}
use Rattle.own_strings.specs.TurnLaws.{text-short, sids-length}
use Rattle.own_strings.specs.StageLaws.{own-bound}
use Rattle.name_strings.specs.Names.{NamesApart, strings_of, Naming}
use Rattle.name_strings.specs.NamingLaws.{naming-bound}
use Rattle.name_strings.specs.NamesLaws.{order-own}
use Rattle.front.specs.Front.{SmallFont, kept_program, SlotsReady, Measured}

-- the strings of a font can be read
pub has-strings : (b : List ℕ) (f : Font) → SmallFont b f → HasStrings b f.strings
has-strings b f s = record { good = s.good.begun.strings-held.good; small = s.small }

-- ---- of a CID-keyed subset

-- the own strings of the slots of a CID-keyed font are the subset's
pub cid_own : (p : Program) (slots : List Slot) → SlotsReady p true slots → slots_own p.strings slots ≡ own_by_cid p
cid_own p slots g = ap (λ (l : List (Option ℕ)). own_strings_lem [] (slot_texts p.strings l)) g.front ∙ ap (own_strings_lem []) (cid_texts p)

-- how many they are, and how long
pub slots-bound : (b : List ℕ) (ix : Index) → HasStrings b ix → (slots : List Slot) → length slots ≡ 8
    → (length (slots_own (items_of b ix) slots) ≤ 8) × (total (slots_own (items_of b ix) slots) ≤ 536870912)
unfolding total
slots-bound b ix has slots eight =
    let e : length (sids_of slots) ≡ 8 = sids-length slots ∙ eight in
    let f = own-bound (items_of b ix) (text-short b ix has) [] (sids_of slots) in
    (omega (arith, f.0, e), omega (arith, f.1, e))

pub cid_measured : (font : Loaded) → length font.bytes.now ≤ 67108864 → (slots : List Slot) → SlotsReady (program font) true slots → (own : Own)
    → own ≡ own_of (slots_own (program font).strings slots) → Measured (own_by_cid (program font)) own
cid_measured font small slots g own e =
    let m = slots-bound font.bytes.now font.f.strings (record { good = font.good.begun.strings-held.good; small = small }) slots g.given.eight in
    let c = ap (λ (o : Own). o.count) e in
    let t = ap (λ (o : Own). o.total) e in
    record { is = e ∙ ap own_of (cid_own (program font) slots g); few = omega (arith, c, m.0); short = omega (arith, t, m.1) }

-- ---- of a name-keyed subset

pub named-measured : (b : List ℕ) (o : Order) (ws window : List ℕ) (slots : List Slot) → SmallFont b o.f → SlotsReady (program_of b o.f) false slots
    → Gathered b ws window o → NamesApart b o.f ws → (own : Own) → own ≡ own_of (all_own (items_of b o.f.strings) slots (order_in b o.f ws))
    → Measured (own_by_name (program_of b o.f) (glyphs_of b o.f ws)) own
named-measured b o ws window slots s g gathered apart own e =
    let all = order_in b o.f ws in
    let n : Naming b o.f ws slots own (length all)
    = record {
      has = has-strings b o.f s;
      given = g.given;
      apart = apart;
      few = omega (arith, gathered.many, gathered.few);
      within = omega arith;
      counts = e ∙ ap (λ (l : List ℕ). own_of (all_own (items_of b o.f.strings) slots l)) (sym (take_all (length all) all (omega arith)));
    } in
    let m = naming-bound b o.f ws slots own (length all) n in
    record { is = e ∙ ap own_of (order-own b o.f ws s.good.glyphs.held.few slots g.front); few = m.0; short = m.1 }

-- the same of kept glyphs, their names being counted within these bounds
pub counted-measured : (k : Kept) (slots : List Slot) → SlotsReady (kept_program k) false slots → (own : Own) → own ≡ own_of (all_own (strings_of k) slots (order_of k))
    → own.count ≤ 65544 → own.total ≤ 4398583382016 → Measured (own_by_name (kept_program k) (kept_glyphs k)) own
counted-measured k slots g own e few short =
    record {
      is = e ∙ ap own_of (order-own k.font.now k.o.f k.words.now k.gathered.good.glyphs.held.few slots g.front);
      few = few;
      short = short;
    }
