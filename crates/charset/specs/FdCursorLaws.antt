-- Laws of a cursor through an FDSelect: it begins before glyph 0, and each step gives the next glyph's FD.
use Rattle.std.specs.Prelude.{ℕ, zero, suc, ◌+◌, ◌-◌, ◌≤◌, ◌<◌, ◌≡◌, refl, List, length, drop, get_or, ltb, Ok}
use Rattle.std.proofs.Common.{sym, ◌∙◌, subst, not-suc-le-zero, sub-one, arith, lt-ltb, le-ltb, ltb-true, ltb-false}
use Rattle.std.proofs.Math.Path.{ap}
use Rattle.octets.specs.Pick.{pick, pick_ind}
use Rattle.charset.specs.FdSelect.{range_end, fd_in, ranges_refusal}
use Rattle.charset.specs.FdPlaces.{fd_of, select_start, into_next_lem, into_range_lem, stepped, next_fd, fd_from, GoodSelect, ReadyFd, StandsFd}
use Rattle.charset.specs.FdLaws.{ranges-rise, fd-none, fd-before, fd-here, fd-behind}
use Rattle.charset.specs.declared.fd_select.FdSelect.{FdSelect}
use Rattle.charset.specs.declared.fd_select.FdCursor.{FdCursor}

-- ---- the way into a glyph's range, as the code goes it

pub into_here : (b : List ℕ) (m : ℕ) (u : FdCursor) → 0 < m → u.gid < u.end → u ≡ into_range_lem b m u
unfolding into_range_lem
into_here b zero u some h = absurd (not-suc-le-zero some)
into_here b (suc m) u some h = simp (lt-ltb u.gid u.end h)

into_next : (b : List ℕ) (m : ℕ) (u : FdCursor) → 0 < m → u.end ≤ u.gid → into_range_lem b (m - 1) (into_next_lem b u) ≡ into_range_lem b m u
unfolding into_range_lem
into_next b zero u some h = absurd (not-suc-le-zero some)
into_next b (suc m) u some h = simp (le-ltb u.gid u.end h, sub-one)

pub into_last : (b : List ℕ) (m : ℕ) (u : FdCursor) → m ≡ 0 → u ≡ into_range_lem b m u
unfolding into_range_lem
into_last b m u e = rw e

-- a turn: the next range's entry is there, behind it the cursor is ready again, and the way from there ends where the whole way ends
module _ (b : List ℕ) (u : FdCursor) (r : ReadyFd b u) (some : 0 < u.count) where
  pub entry_there : u.at + 1 + u.wide ≤ length b
  entry_there = (ranges-rise b u.at u.wide u.count u.end some r.sound).there

  module _ (end : ℕ) (e : end ≡ range_end u.wide u.end (drop u.at b)) where
    abbrev entered : ℕ → FdCursor
    entered x = record { gid = u.gid; fd = get_or b u.at 0; end = x; count = u.count - 1; wide = u.wide; at = u.at + 1 + u.wide }

    pub turn_ready : ReadyFd b (entered end)
    turn_ready =
        subst (λ (x : ℕ). ReadyFd b (entered x)) (sym e)
        (record { narrow = r.narrow; low = r.low; sound = (ranges-rise b u.at u.wide u.count u.end some r.sound).rest })

    pub turn-same : u.end ≤ u.gid → into_range_lem b (u.count - 1) (entered end) ≡ into_range_lem b u.count u
    turn-same h = ap (λ (x : ℕ). into_range_lem b (u.count - 1) (entered x)) e ∙ into_next b u.count u some h

-- ---- the step

pub into_gid : (b : List ℕ) (m : ℕ) (u : FdCursor) → (into_range_lem b m u).gid ≡ u.gid
unfolding into_range_lem
into_gid b zero u = refl
into_gid b (suc m) u =
    pick_ind (λ (v : FdCursor). v.gid ≡ u.gid) (ltb u.gid u.end) u (into_range_lem b m (into_next_lem b u)) (λ t. refl) (λ t. into_gid b m (into_next_lem b u))

module _ (b : List ℕ) (u v : FdCursor) (e : v ≡ into_range_lem b u.count u) where
  pub step-low : u.gid < 65536 → v.gid < 65536
  step-low h = let z = ap (λ (w : FdCursor). w.gid) e ∙ into_gid b u.count u in omega arith

  pub step_in : v.gid < v.end
      → record { fd = v.fd; next = record { gid = v.gid + 1; fd = v.fd; end = v.end; count = v.count; wide = v.wide; at = v.at } } ≡ next_fd b u
  unfolding next_fd
  step_in h = let z : record { fd = v.fd; next = record { gid = v.gid + 1; fd = v.fd; end = v.end; count = v.count; wide = v.wide; at = v.at } } ≡ stepped v
      = simp (lt-ltb v.gid v.end h) in z ∙ ap stepped e

  pub step_out : v.end ≤ v.gid
      → record { fd = 0; next = record { gid = v.gid + 1; fd = v.fd; end = v.end; count = v.count; wide = v.wide; at = v.at } } ≡ next_fd b u
  unfolding next_fd
  step_out h = let z : record { fd = 0; next = record { gid = v.gid + 1; fd = v.fd; end = v.end; count = v.count; wide = v.wide; at = v.at } } ≡ stepped v
      = simp (le-ltb v.gid v.end h) in z ∙ ap stepped e

-- ---- what the way into a glyph's range keeps: the FDs from that glyph on

record Keeps (b : List ℕ) (u v : FdCursor) : Type 0 where
  place : v.gid ≡ u.gid
  narrow : v.wide ≤ 2
  sound : ranges_refusal v.wide v.count v.end (drop v.at b) ≡ Ok tt
  rest : (i : ℕ) → u.gid ≤ i → fd_from b v i ≡ fd_from b u i
  arrived : (v.end ≤ v.gid) → v.count ≡ 0

next-same : (b : List ℕ) (u : FdCursor) → 0 < u.count → u.end ≤ u.gid → (i : ℕ) → u.gid ≤ i → fd_from b (into_next_lem b u) i ≡ fd_from b u i
unfolding fd_from
next-same b u some h i z =
    let e = range_end u.wide u.end (drop u.at b) in
    let o : u.end ≤ i = omega arith in
    simp (le-ltb i u.end o)
    (pick_ind (λ (x : ℕ). x ≡ fd_in u.wide u.count u.end (drop u.at b) i) (ltb i e) (get_or b u.at 0)
    (fd_in u.wide (u.count - 1) e (drop (u.at + 1 + u.wide) b) i)
    (λ t. sym (fd-here b u.at u.wide u.count u.end i some o (ltb-true i e t)))
    (λ t. sym (fd-behind b u.at u.wide u.count u.end i some o (ltb-false i e t))))

keeps-next : (b : List ℕ) (u v : FdCursor) → 0 < u.count → u.end ≤ u.gid → Keeps b (into_next_lem b u) v → Keeps b u v
keeps-next b u v some h k =
    record { place = k.place; narrow = k.narrow; sound = k.sound; rest = λ i z. k.rest i z ∙ next-same b u some h i z; arrived = k.arrived }

keeps : (b : List ℕ) (m : ℕ) (u : FdCursor) → m ≡ u.count → u.wide ≤ 2 → ranges_refusal u.wide u.count u.end (drop u.at b) ≡ Ok tt
    → Keeps b u (into_range_lem b m u)
unfolding into_range_lem
keeps b zero u e n s = record { place = refl; narrow = n; sound = s; rest = λ i h. refl; arrived = λ h. sym e }
keeps b (suc m) u e n s =
    let some : 0 < u.count = omega arith in
    pick_ind (Keeps b u) (ltb u.gid u.end) u (into_range_lem b m (into_next_lem b u))
    (λ t. let h : u.gid < u.end = ltb-true u.gid u.end t in
    record { place = refl; narrow = n; sound = s; rest = λ i z. refl; arrived = λ z. absurd (omega arith) })
    (λ t. keeps-next b u (into_range_lem b m (into_next_lem b u)) some (ltb-false u.gid u.end t)
    (keeps b m (into_next_lem b u) (omega arith) n (ranges-rise b u.at u.wide u.count u.end some s).rest))

-- ---- a cursor that stands before a glyph

-- it begins before all glyphs
pub fd-start : (b : List ℕ) (s : FdSelect) → GoodSelect b s → StandsFd b s 0 (select_start s)
unfolding fd_from fd_of
fd-start b s g =
    record {
      place = refl;
      narrow = g.narrow;
      sound = g.sound;
      rest = λ i h. pick_ind (λ (x : ℕ). x ≡ fd_in s.wide s.count s.first (drop s.at b) i) (ltb i s.first) 0
          (fd_in s.wide s.count s.first (drop s.at b) i)
          (λ t. sym (fd-before s.wide s.count s.first (drop s.at b) i (ltb-true i s.first t))) (λ t. refl);
    }

-- before glyph g a step can be taken, gives its FD, and ends before glyph g + 1
module _ (b : List ℕ) (s : FdSelect) (g : ℕ) (u : FdCursor) (st : StandsFd b s g u) where
  pub fd_ready : g < 65536 → ReadyFd b u
  fd_ready h = record { narrow = st.narrow; low = omega (arith, st.place); sound = st.sound }

  into : Keeps b u (into_range_lem b u.count u)
  into = keeps b u.count u refl st.narrow st.sound

  -- the FD that the cursor has for its own glyph
  own-fd : (v : FdCursor) → (v.end ≤ v.gid → v.count ≡ 0) → (stepped v).fd ≡ fd_from b v v.gid
  unfolding fd_from
  own-fd v arrived =
      pick_ind (λ (x : ℕ). pick (ltb v.gid v.end) v.fd 0 ≡ x) (ltb v.gid v.end) v.fd (fd_in v.wide v.count v.end (drop v.at b) v.gid)
      (λ t. rw t)
      (λ t. let z = arrived (ltb-false v.gid v.end t) in
      rw t (sym (ap (λ (k : ℕ). fd_in v.wide k v.end (drop v.at b) v.gid) z ∙ fd-none v.wide v.end (drop v.at b) v.gid)))

  pub fd-step : (next_fd b u).fd ≡ fd_of b s g
  unfolding next_fd
  fd-step =
      let e : (into_range_lem b u.count u).gid ≡ g = into.place ∙ st.place in
      own-fd (into_range_lem b u.count u) into.arrived ∙ ap (fd_from b (into_range_lem b u.count u)) e ∙ into.rest g (omega (arith, st.place)) ∙ st.rest g (omega arith)

  pub fd-next : StandsFd b s (g + 1) (next_fd b u).next
  unfolding next_fd fd_from
  fd-next =
      record {
        place = ap (λ (k : ℕ). k + 1) (into.place ∙ st.place);
        narrow = into.narrow;
        sound = into.sound;
        rest = λ i h. into.rest i (omega (arith, st.place)) ∙ st.rest i (omega arith);
      }
