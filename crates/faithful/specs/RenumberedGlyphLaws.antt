-- A kept glyph of a font whose charstrings and subroutines are renumbered unfolds to what it did, if the record lists the rows that it meets
-- (document 01, demand 3).
use Rattle.std.specs.Prelude.{ℕ, ◌<◌, ◌≡◌, refl, Bool, true, false, List, [], eqb, ℤ, length, get_or, Some}
use Rattle.std.proofs.Common.{ap, ◌∙◌, subst}
use Rattle.octets.specs.Pick.{pick}
use Rattle.type2_number.specs.Number.{Reading}
use Rattle.charstring.specs.declared.MaskLen.TheVariants.{Given}
use Rattle.unfold.specs.Unfold.{Tok, Row, Site, glyph, local, global, entered, masked, plain, unfold_glyph}
use Rattle.prune.specs.Bodies.{All, Renumbers}
use Rattle.prune.proofs.Unfolds.{renumbered_unfolds}
use Rattle.prune.specs.BelongsLaws.{Belongs, rows_belong}
use Rattle.record.specs.Record.{lists, given_in, two_lengths_lem}
use Rattle.cff.specs.Font.{Program}
use Rattle.subset.specs.Kept.{is_in, new_fd, locals_of}
use Rattle.subset.specs.Pruned.{Bodies, local_set, global_set, renumbered_subrs, local_operand, global_operand, calls_in, calls_across}
use Rattle.faithful.specs.Laid.{GoodProgram}
use Rattle.subset.specs.EachLaws.{each_at}
use Rattle.faithful.specs.UsedLaws.{new-fd-at}
use Rattle.faithful.specs.RecordLaws.{given-listed}
use Rattle.faithful.specs.RenumberedLaws.{Turned, Ranked, body-turned, subrs_there, subrs-body, subrs_call, subrs-reading, calls_of, calls-in, Renews}

-- rows that a record lists
abbrev pub IsListed : List Row → Row → Type 0
IsListed rows r = lists rows r ≡ true

module _ (p : Program) (good : GoodProgram p) (rows : List Row) (small : (q : Row) → lists rows q ≡ true → q.number < 65536)
    (used order : List ℕ) (b : Bodies) (new : Renews p rows used order b) (i : ℕ) (there : i < length order) where
  -- the glyph, and its FD
  abbrev g : ℕ
  g = get_or order i 0

  abbrev fd : ℕ
  fd = get_or p.fds g 0

  -- its charstring is turned
  glyph_turned : Turned rows (calls_in p rows fd) (glyph g) (get_or p.charstrings g []) (get_or b.charstrings i [])
  glyph_turned = body-turned rows (calls_in p rows fd) (glyph g) (get_or p.charstrings g []) (get_or b.charstrings i []) (each_at _ order b.charstrings new.charstrings i [] there)

  module _ (in_use_lem : is_in fd used ≡ true) where
    -- the FD's local subroutines in the subset
    abbrev ls : List (List ℕ)
    ls = get_or b.locals (new_fd used fd) []

    -- they are those of the font, renumbered
    locals-turned : renumbered_subrs rows (local_set rows fd) (calls_in p rows fd) (local fd) (locals_of p fd) ≡ Some ls
    locals-turned =
        let k = new-fd-at used fd in_use_lem in
        subst (λ (f : ℕ). renumbered_subrs rows (local_set rows f) (calls_in p rows f) (local f) (locals_of p f) ≡ Some ls) k.1
        (each_at (λ f. renumbered_subrs rows (local_set rows f) (calls_in p rows f) (local f) (locals_of p f)) used b.locals new.locals (new_fd used fd) [] k.0)

    -- a listed subroutine's number has two bytes
    small_local : (n : ℕ) → local_set rows fd n ≡ true → n < 65536
    small_local n h = small (entered (local fd n)) h

    small_global : (n : ℕ) → global_set rows n ≡ true → n < 65536
    small_global n h = small (entered (global n)) h

    -- a listed mask of a body that the glyph runs has its length given
    lengths : (site : Site) (offset len : ℕ) → Belongs (IsListed rows) fd g (masked site offset len) → given_in rows site offset ≡ Given len
    lengths (glyph n) offset len h =
        let o : two_lengths_lem rows (glyph n) ≡ false = ap (λ (m : ℕ). two_lengths_lem rows (glyph m)) (h.in_glyph refl) ∙ glyph_turned.one in
        given-listed rows (glyph n) offset len o h.is
    lengths (local f k) offset len h =
        let q = h.in_local refl in
        let t = subrs_there rows (local_set rows fd) (calls_in p rows fd) (local fd) (locals_of p fd) ls locals-turned small_local k q.1 in
        let u = subrs-body rows (local_set rows fd) (calls_in p rows fd) (local fd) (locals_of p fd) ls locals-turned k _ (record { member = q.1; there = t; at = refl }) in
        let o : two_lengths_lem rows (local f k) ≡ false = ap (λ (m : ℕ). two_lengths_lem rows (local m k)) q.0 ∙ u.one in
        given-listed rows (local f k) offset len o h.is
    lengths (global k) offset len h =
        let q = h.in_global refl in
        let t = subrs_there rows (global_set rows) (calls_across p rows used) global p.globals b.globals new.globals small_global k q in
        let u = subrs-body rows (global_set rows) (calls_across p rows used) global p.globals b.globals new.globals k _ (record { member = q; there = t; at = refl }) in
        given-listed rows (global k) offset len u.one h.is

    -- an operand that a call becomes is a reading
    call_reading : (c : ℕ) (z y : ℤ) → calls_in p rows fd c z ≡ Some y → Reading y
    call_reading c z y e = go (eqb c 10) e
      where
        go : (t : Bool) → pick t (local_operand p rows fd z) (global_operand p rows z) ≡ Some y → Reading y
        go true h =
            subrs-reading rows (local_set rows fd) (calls_in p rows fd) (local fd) (locals_of p fd) ls locals-turned small_local z y h (good.locals fd).count
        go false h =
            subrs-reading rows (global_set rows) (calls_across p rows used) global p.globals b.globals new.globals small_global z y h good.globals.count

    -- the bodies stand to each other as the theorem over bodies asks
    renumbers : Renumbers p.globals (locals_of p fd) b.globals ls fd (Belongs (IsListed rows) fd g) (given_in rows) (calls_of p rows used fd)
        (Ranked (local_set rows fd) (locals_of p fd)) (Ranked (global_set rows) p.globals)
    renumbers =
        record {
          lengths = lengths;
          local_call = λ site z y n e t.
              subrs_call rows (local_set rows fd) (calls_in p rows fd) (local fd) (locals_of p fd) ls locals-turned small_local z y (calls-in p rows used fd in_use_lem site 10 z y e) n t;
          global_call = λ site z y n e t.
              subrs_call rows (global_set rows) (calls_across p rows used) global p.globals b.globals new.globals small_global z y
              (calls-in p rows used fd in_use_lem site 29 z y e) n t;
          operand = λ site c z y e. call_reading c z y (calls-in p rows used fd in_use_lem site c z y e);
          local_body = λ k n r. (subrs-body rows (local_set rows fd) (calls_in p rows fd) (local fd) (locals_of p fd) ls locals-turned k n r).is;
          global_body = λ k n r. (subrs-body rows (global_set rows) (calls_across p rows used) global p.globals b.globals new.globals k n r).is;
          local_octets = (good.locals fd).octets;
          global_octets = good.globals.octets;
        }

    -- the glyph unfolds to what it did
    pub renumbered_glyph : (fd' g' : ℕ) (ts : List Tok) (met : List Row)
        → unfold_glyph p.globals (locals_of p fd) fd g (get_or p.charstrings g []) ≡ plain ts met → All (IsListed rows) met
        → (met' : List Row) × (unfold_glyph b.globals ls fd' g' (get_or b.charstrings i []) ≡ plain ts met')
    renumbered_glyph fd' g' ts met e h =
        renumbered_unfolds p.globals (locals_of p fd) b.globals ls fd fd' g g' (Belongs (IsListed rows) fd g) (given_in rows) (calls_of p rows used fd)
        (Ranked (local_set rows fd) (locals_of p fd)) (Ranked (global_set rows) p.globals) renumbers (get_or p.charstrings g []) (get_or b.charstrings i [])
        (good.charstrings.octets g) glyph_turned.is ts met e (rows_belong p.globals (locals_of p fd) fd g (IsListed rows) (get_or p.charstrings g []) ts met e h)
