-- Laws of a part: the rows of a body from an offset on, as many as a window holds, give what the whole record gives up to the last of their offsets.
use Rattle.std.specs.Prelude.{ℕ, ◌+◌, ◌-◌, ◌*◌, ◌/◌, ◌%◌, ◌≤◌, ◌<◌, ◌≡◌, refl, Bool, true, false, List, ◌++◌, map, length, take, get_or}
use Rattle.std.proofs.Common.{sym, ap, ◌∙◌, subst, arith, lt-ltb, le-ltb, length-take-le, get_or-take}
use Rattle.std.proofs.lemmas.Bool.{false≢true}
use Rattle.octets.specs.Pick.{pick}
use Rattle.octets.specs.PickLaws.{not_true}
use Rattle.octets.specs.Octets.{Octets, Wrote}
use Rattle.octets.specs.PutLaws.{wrote-length}
use Rattle.unfold.specs.Unfold.{Row, Site, masked}
use Rattle.record.specs.Record.{rows_of, lists, given_in, two_lengths_lem}
use Rattle.subset.specs.Kept.{is_in}
use Rattle.unfold.specs.Sites.{site_of}
use Rattle.reach.specs.Reach.{rises}
use Rattle.reach.specs.RowLaws.{all_fit}
use Rattle.reach.specs.Cases.{by_order}
use Rattle.unfold.specs.declared.Site as code
use Rattle.unfold.specs.declared.Site.TheVariants.{Glyph, Local, Global}
use Rattle.row_window.specs.Window.{within, Below, Gathers}
use Rattle.row_window.specs.MergeLaws.{gathers-few}
use Rattle.row_window.specs.NextLaws.{window-whole, window-next, front-inside}
use Rattle.mask_rows.specs.MaskRows.{keys_end, keys_in, row_for, rows_bytes, room_in, HasRoom}
use Rattle.mask_rows.specs.KeyLaws.{mask, in_both, keys_list, lists-none, rows-length, rows-rise}
use Rattle.mask_rows.specs.FillLaws.{rows_fit, below_more, window-below, rows_written}
use Rattle.mask_rows.specs.SameLaws.{given-alike, two_back}
use Rattle.long_bodies.specs.Offsets.{body_in, keys_to, end_of, Sited, Gives}
use Rattle.long_bodies.specs.TwoLaws.{in_at, in_to, site_mask, listed}
use Rattle.long_bodies.specs.declared.offsets.Body.{Body}

module _ (rec : List ℕ) (octets : Octets rec) (b : Body) (kind_fits : b.kind < 256) (fd_fits : b.fd < 256) (few : b.number < 65535) (site : Site)
    (is : (offset len : ℕ) → masked site offset len ≡ mask b.kind b.fd b.number offset len) (once : two_lengths_lem (rows_of rec) site ≡ false)
    (offset to : ℕ) (past : offset < to) (near : to ≤ 4294967296) (old keys : List ℕ) (n : ℕ)
    (g : Gathers (within ((b.number * 4294967296 + offset) * 65536) ((b.number * 4294967296 + to) * 65536) (keys_in b.kind b.fd rec)) old keys n) (some : 1 < room_in old) where
  abbrev low : ℕ
  low = (b.number * 4294967296 + offset) * 65536

  abbrev high : ℕ
  high = (b.number * 4294967296 + to) * 65536

  abbrev all : List ℕ
  all = keys_to rec b low high

  abbrev key : ℕ → ℕ → ℕ
  key o l = (b.number * 4294967296 + o) * 65536 + l

  below : Below keys_end (take n keys)
  below = below_more high keys_end (omega arith) (take n keys) (window-below low high (keys_in b.kind b.fd rec) old keys n g)

  -- ---- a full window

  module _ (full : room_in keys ≤ n) where
    count : n ≡ room_in old
    count = omega (arith, gathers-few g, g.room)

    first : take n keys ≡ take n all
    first = g.holds ∙ ap (λ (m : ℕ). take m all) (sym count)

    abbrev last : ℕ
    last = get_or keys (n - 1) 0

    abbrev rest : List ℕ
    rest = keys_to rec b (last + 1) high

    parts : all ≡ take n keys ++ rest
    parts = let c = count in window-next low high n keys (keys_in b.kind b.fd rec) (omega arith) g.window.fits first

    last_in : is_in last all ≡ true
    last_in =
        let c = count in
        let size : n ≤ length all = front-inside n all (sym (ap length first) ∙ length-take-le n keys g.window.fits) in
        let e : last ≡ get_or all (n - 1) 0
        = sym (get_or-take n keys (n - 1) 0 (omega arith)) ∙ ap (λ (l : List ℕ). get_or l (n - 1) 0) first ∙ get_or-take n all (n - 1) 0 (omega arith) in
        ap (λ (k : ℕ). is_in k all) e ∙ in_at all (n - 1) (omega arith)

    last_within : (low ≤ last) × (last < high)
    last_within = in_to rec b low high last last_in

    -- no key of an offset up to the last one's is behind it: that offset would have two lengths
    none-behind : (o l : ℕ) → o < 4294967296 → l < 65536 → offset ≤ o → o ≤ last / 65536 % 4294967296 → is_in (key o l) rest ≡ false
    none-behind o l small short from up = not_true (is_in (key o l) rest) (λ e.
        let w = last_within in
        let q = in_to rec b (last + 1) high (key o l) e in
        let same : last / 65536 % 4294967296 ≡ o = omega (arith, w.0, w.1, q.0) in
        let k : key o (last % 65536) ≡ last = omega (arith, w.0, w.1, same) in
        false≢true (sym once
        ∙ two_back (rows_of rec) site o (last % 65536) l (λ h. absurd (omega (arith, h, k, q.0)))
        (listed rec octets b few site is low high o (last % 65536) small (omega arith) (omega (arith, k, w.0)) (omega (arith, k, w.1)) ∙ ap (λ (x : ℕ). is_in x all) k ∙ last_in)
        (listed rec octets b few site is (last + 1) high o l small short q.0 q.1 ∙ e)))

  -- ---- what the window has

  has : (o l : ℕ) → o < 4294967296 → l < 65536 → offset ≤ o → o < end_of keys n to → is_in (key o l) all ≡ is_in (key o l) (take n keys)
  has o l small short from up =
      by_order n (room_in keys)
      (λ s. ap (is_in (key o l)) (sym (window-whole (room_in old) n keys all g.window.fits (omega (arith, g.room)) g.holds)))
      (λ s. let e : end_of keys n to ≡ last s / 65536 % 4294967296 + 1 = rw (le-ltb n (room_in keys) s) in
      let z = none-behind s o l small short from (omega (arith, e)) in
      ap (is_in (key o l)) (parts s) ∙ in_both (key o l) (take n keys) (rest s) ∙ either (is_in (key o l) (take n keys)) (is_in (key o l) (rest s)) z)
    where
      either : (t u : Bool) → u ≡ false → pick t true u ≡ t
      either true u e = refl
      either false u e = e

  end_near : end_of keys n to ≤ to
  end_near =
      by_order n (room_in keys)
      (λ s. let e : end_of keys n to ≡ to = rw (lt-ltb n (room_in keys) s) in omega (arith, e))
      (λ s. let e : end_of keys n to ≡ last s / 65536 % 4294967296 + 1 = rw (le-ltb n (room_in keys) s) in
      let w = last_within s in
      omega (arith, e, w.0, w.1))

  pub end_past : offset < end_of keys n to
  end_past =
      by_order n (room_in keys)
      (λ s. let e : end_of keys n to ≡ to = rw (lt-ltb n (room_in keys) s) in omega (arith, e))
      (λ s. let e : end_of keys n to ≡ last s / 65536 % 4294967296 + 1 = rw (le-ltb n (room_in keys) s) in
      let w = last_within s in
      omega (arith, e, w.0, w.1))

  -- ---- the record that it is

  module _ (was bytes : List ℕ) (room : 10 * room_in old ≤ length was) (len : ℕ) (w : Wrote was 0 (rows_bytes b.kind b.fd (take n keys)) bytes len) where
    rows_are : rows_of (take len bytes) ≡ map (row_for b.kind b.fd) (take n keys)
    rows_are = rows_written b.kind b.fd kind_fits fd_fits (take n keys) below w

    long : length (rows_bytes b.kind b.fd (take n keys)) ≡ 10 * n
    long = rows-length b.kind b.fd (take n keys) ∙ omega (arith, length-take-le n keys g.window.fits)

    alike : (o : ℕ) → offset ≤ o → o < end_of keys n to → (l : ℕ) → lists (rows_of rec) (masked site o l) ≡ lists (rows_of (take len bytes)) (masked site o l)
    alike o from up l =
        by_order l 65536
        (λ short. listed rec octets b few site is low high o l (omega (arith, end_near)) short (omega arith) (omega (arith, end_near))
        ∙ has o l (omega (arith, end_near)) short from up
        ∙ sym (keys_list b.kind b.fd b.number o l few (omega (arith, end_near)) short (take n keys))
        ∙ ap (λ (rows : List Row). lists rows (mask b.kind b.fd b.number o l)) (sym rows_are)
        ∙ ap (lists (rows_of (take len bytes))) (sym (is o l)))
        (λ long. ap (lists (rows_of rec)) (is o l)
        ∙ lists-none (rows_of rec) (mask b.kind b.fd b.number o l) (all_fit rec octets) (λ r f p q. absurd (omega (arith, f.len, q)))
        ∙ sym (ap (lists (rows_of (take len bytes))) (is o l) ∙ ap (λ (rows : List Row). lists rows (mask b.kind b.fd b.number o l)) rows_are
        ∙ lists-none (map (row_for b.kind b.fd) (take n keys)) (mask b.kind b.fd b.number o l) (rows_fit b.kind b.fd kind_fits fd_fits (take n keys) below)
        (λ r f p q. absurd (omega (arith, f.len, q)))))

    pub part-fits : len ≤ length bytes
    part-fits = omega (arith, w.behind, long, room, gathers-few g, wrote-length w (omega (arith, long, room, gathers-few g)))

    pub part-rises : rises (rows_of (take len bytes)) ≡ true
    part-rises = ap rises rows_are ∙ rows-rise b.kind b.fd (take n keys) g.window.rises

    pub part_same : (o : ℕ) → offset ≤ o → o < end_of keys n to → given_in (rows_of rec) site o ≡ given_in (rows_of (take len bytes)) site o
    part_same o from up = given-alike (rows_of rec) (rows_of (take len bytes)) site once o (alike o from up)

-- ---- by the site

kind-small : (s : code.Site) → (body_in s).kind < 256
kind-small (Glyph g) = omega arith
kind-small (Local fd k) = omega arith
kind-small (Global k) = omega arith

module _ (rec : List ℕ) (octets : Octets rec) (s : code.Site) (once : two_lengths_lem (rows_of rec) (site_of s) ≡ false) (offset to : ℕ) (past : offset < to) (near : to ≤ 4294967296)
    (old was : List ℕ) (lent : HasRoom old was) (sited : Sited s) (b : Body) (e : b ≡ body_in s) (fd_fits : b.fd < 256) (keys : List ℕ) (n : ℕ)
    (g : Gathers (within ((b.number * 4294967296 + offset) * 65536) ((b.number * 4294967296 + to) * 65536) (keys_in b.kind b.fd rec)) old keys n) where
  kind_fits : b.kind < 256
  kind_fits = subst (λ (x : Body). x.kind < 256) (sym e) (kind-small s)

  few : b.number < 65535
  few = subst (λ (x : Body). x.number < 65535) (sym e) sited.few

  is : (o l : ℕ) → masked (site_of s) o l ≡ mask b.kind b.fd b.number o l
  is o l = site_mask s o l ∙ ap (λ (x : Body). mask x.kind x.fd x.number o l) (sym e)

  -- what writing the rows asks
  pub fill_room : 10 * length (take n keys) ≤ length was
  fill_room = omega (arith, length-take-le n keys g.window.fits, gathers-few g, lent.room)

  -- the end is behind the offset
  pub fill_past : (end : ℕ) → end ≡ end_of keys n to → offset < end
  fill_past end is-end = omega (arith, is-end, end_past rec octets b kind_fits fd_fits few (site_of s) is once offset to past near old keys n g lent.some)

  pub fill_end : (end : ℕ) → end ≡ end_of keys n to → end ≤ 4294967296
  fill_end end is-end = omega (arith, is-end, near, end_near rec octets b kind_fits fd_fits few (site_of s) is once offset to past near old keys n g lent.some)

  -- THE LAW of filling
  pub fill_gives : (end : ℕ) → end ≡ end_of keys n to → (bytes : List ℕ) (len : ℕ) → Wrote was 0 (rows_bytes b.kind b.fd (take n keys)) bytes len
      → Gives rec bytes s (record { from = offset; end = end; len = len }) × (offset ≤ offset) × (offset < end) × (end ≤ 4294967296)
  fill_gives end is-end bytes len w = (
    record {
      fits = part-fits rec octets b kind_fits fd_fits few (site_of s) is once offset to past near old keys n g lent.some was bytes lent.room len w;
      rising = part-rises rec octets b kind_fits fd_fits few (site_of s) is once offset to past near old keys n g lent.some was bytes lent.room len w;
      same = λ o from up. part_same rec octets b kind_fits fd_fits few (site_of s) is once offset to past near old keys n g lent.some was bytes lent.room len w o from (omega (arith, is-end));
    },
    omega arith,
    fill_past end is-end,
    fill_end end is-end,
  )
