-- Laws of the loop that runs a body: where it stands, and each turn as the code takes it.
use Rattle.std.specs.Prelude.{ℕ, ◌+◌, ◌-◌, ◌≤◌, ◌<◌, ◌≡◌, refl, Bool, List, [], ◌∷◌, length, Ok, Err}
use Rattle.std.specs.Result.{IsErrAnd}
use Rattle.std.proofs.Common.{sym, subst, arith}
use Rattle.index.specs.IndexLaws.{items-length, item-short}
use Rattle.unfold.specs.Unfold.{Site, entered, masked, is_glyph}
use Rattle.row_window.specs.Filled.{Keeps, adds_keep, keeps_none, keeps_then}
use Rattle.row_window.specs.declared.filling.Filling.{Filling}
use Rattle.turns.specs.Turns.{of_kind, turn_at_lem}
use Rattle.turns.specs.declared.Counts.{Counts}
use Rattle.turns.specs.declared.Turn.TheVariants.{Breaks, Returns, Ends, Goes, Masks, Calls}
use Rattle.turns.specs.declared.Turn.{Turn}
use Rattle.turns.specs.declared.Kind.{Kind}
use Rattle.turns.specs.declared.Kind.TheVariants.{Local, Global}
use Rattle.interpret.specs.declared.NotPlain.{NotPlain}
use Rattle.interpret.specs.Trace.{Trace, site_for, body_for, trace_body}
use Rattle.unfold.specs.Sites.{site_of}
use Rattle.interpret.specs.Run.{site_in, globals_in, locals_in, Ready, Notes, Ran, Telling, Tells, whole_of, call_of}
use Rattle.interpret.specs.RunLaws.{nothing, turn-told, site_as, Going, going_start, sound, going_breaks, going_returns, going-ends, going_on, going-mask, going-returned, going_ended, going_broken, going_off, call_deep, call_runs}
use Rattle.interpret.specs.declared.Subrs.{Subrs}
use Rattle.interpret.specs.declared.Range.{Range}
use Rattle.unfold.specs.declared.Site.{Site as Body}
use Rattle.interpret.specs.declared.End.TheVariants.{Returned, Ended}

-- what `?` hands on: where a part is not plain, so is the whole
handed_on : (o : Ran) (e : NotPlain) (P : Ran → Type 0) → IsErrAnd o (λ y. y ≡ e) → P (Err e) → P o
handed_on (Ok x) e P h p = absurd h
handed_on (Err y) e P h p = subst (λ z. P (Err z)) (sym h) p

pub record Standing (font : List ℕ) (q : Subrs) (depth : ℕ) (site : Body) (code : List ℕ) (start : Counts) (range : Range) (old : Filling) (own : Bool)
    (now : Filling) (at prev : ℕ) (x : Counts) : Type 0 where
  pub ready : Ready font q
  pub size : length code ≤ 67108864
  pub kind : own ≡ is_glyph (site_of site)
  pub going : Going (globals_in font q) (locals_in font q) q.fd depth (site_of site) code (whole_of font q depth site code start) range old now at prev x

pub stand_start : (font : List ℕ) (q : Subrs) (depth : ℕ) (site : Body) (code : List ℕ) (start : Counts) (range : Range) (w : Filling) (own : Bool)
    → Ready font q → length code ≤ 67108864 → own ≡ is_glyph (site_of site)
    → Standing font q depth site code start range w own w 0 0 start
stand_start font q depth site code start range w own r s e =
    record { ready = r; size = s; kind = e; going = going_start (globals_in font q) (locals_in font q) q.fd depth (site_of site) code range w start }

-- a subroutine that is named, by the counts
counted : (font : List ℕ) (q : Subrs) (kind : Kind) (i : ℕ) → i < of_kind kind (length (locals_in font q)) (length (globals_in font q)) → i < of_kind kind q.locals.count q.globals.count
counted font q Local i h = subst (λ (k : ℕ). i < k) (items-length font q.locals) h
counted font q Global i h = subst (λ (k : ℕ). i < k) (items-length font q.globals) h

pub number_small : (font : List ℕ) (q : Subrs) → Ready font q → (kind : Kind) (i : ℕ) → i < of_kind kind q.locals.count q.globals.count → i < 65536
number_small font q r Local i h = omega (arith, r.few_locals)
number_small font q r Global i h = omega (arith, r.few_globals)

body-small : (font : List ℕ) (q : Subrs) → Ready font q → (kind : Kind) (i : ℕ) → i < of_kind kind q.locals.count q.globals.count
    → length (body_for (globals_in font q) (locals_in font q) kind i) ≤ 67108864
body-small font q r Local i h = omega (arith, item-short font q.locals r.locals i h, r.size)
body-small font q r Global i h = omega (arith, item-short font q.globals r.globals i h, r.size)

module _ {font : List ℕ} {q : Subrs} {depth : ℕ} {site : Body} {code : List ℕ} {start : Counts} {range : Range} {old : Filling} {own : Bool}
    {now : Filling} {at prev : ℕ} {x : Counts} (w : Standing font q depth site code start range old own now at prev x) where
  abbrev G : List (List ℕ)
  G = globals_in font q

  abbrev L : List (List ℕ)
  L = locals_in font q

  abbrev whole : Trace
  whole = whole_of font q depth site code start

  kept : Keeps old now
  kept = adds_keep w.going.noting

  -- the same with the loop further on
  onward : {new : Filling} {at' prev' : ℕ} {y : Counts} → Going G L q.fd depth (site_of site) code whole range old new at' prev' y
      → Standing font q depth site code start range old own new at' prev' y
  onward g = record { ready = w.ready; size = w.size; kind = w.kind; going = g }

  pub stand_off : length code ≤ at → Tells whole range old now nothing
  stand_off h = record { says = going_off G L q.fd depth (site_of site) code whole range old now at prev x w.going h; keeps = kept }

  module _ (h : at < length code) {r : Turn} (e : r ≡ turn_at_lem q.locals.count q.globals.count own code at prev x) where
    told : r ≡ turn_at_lem (length L) (length G) (is_glyph (site_of site)) code at prev x
    told = turn-told font q site own w.kind code at prev x r e

    pub stand_breaks : r ≡ Breaks → Tells whole range old now nothing
    stand_breaks f = record { says = going_breaks G L q.fd depth (site_of site) code whole range old now at prev x w.going h r told f; keeps = kept }

    pub stand_returns : (y : Counts) → r ≡ Returns y → Tells whole range old now (Ok (Returned y))
    stand_returns y f = record { says = going_returns G L q.fd depth (site_of site) code whole range old now at prev x w.going h r told y f; keeps = kept }

    pub stand_ends : r ≡ Ends → Tells whole range old now (Ok Ended)
    stand_ends f = record { says = going-ends G L q.fd depth (site_of site) code whole range old now at prev x w.going h r told f; keeps = kept }

    -- on in the same body
    module _ (m p : ℕ) (y : Counts) (f : r ≡ Goes m p y) where
      pub stand_further : at < m
      stand_further = (sound G L q.fd depth (site_of site) code whole range old now at prev x w.going h r told (Goes m p y) f).0

      pub stand_goes : Standing font q depth site code start range old own now m p y
      stand_goes = onward (going_on G L q.fd depth (site_of site) code whole range old now at prev x w.going h r told m p y f)

    -- a mask
    module _ (len : ℕ) (y : Counts) (f : r ≡ Masks len y) where
      pub mask-short : len < 16
      mask-short =
          let k = sound G L q.fd depth (site_of site) code whole range old now at prev x w.going h r told (Masks len y) f in omega (arith, k.0)

      pub mask-room : at + 1 + len ≤ length code
      mask-room = (sound G L q.fd depth (site_of site) code whole range old now at prev x w.going h r told (Masks len y) f).1

      pub stand_masks : {new : Filling} → Notes range (masked (site_of site) at len ∷ []) now new
          → Standing font q depth site code start range old own new (at + 1 + len) (at + 1 + len) y
      stand_masks {new} t =
          onward (going-mask G L q.fd depth (site_of site) code whole range old now at prev x w.going h r told len y f new t (at + 1 + len) refl)

    -- a call
    module _ (kind : Kind) (i : ℕ) (y : Counts) (f : r ≡ Calls kind i y) where
      pub call_asks : i < of_kind kind q.locals.count q.globals.count
      call_asks =
          let k = sound G L q.fd depth (site_of site) code whole range old now at prev x w.going h r told (Calls kind i y) f in
          counted font q kind i k

      module _ {new : Filling} {v : Ran} (u : Tells (call_of font q depth kind i y) range now new v) where
        pub stand_broken : (e : NotPlain) → v ≡ Err e → (o : Ran) → IsErrAnd o (λ y. y ≡ e) → Tells whole range old new o
        stand_broken e k o l =
            handed_on o e (Tells whole range old new) l
            (record { says = going_broken G L q.fd depth (site_of site) code whole range old now at prev x w.going h r told kind i y f new v u.says k; keeps = keeps_then kept u.keeps })

        pub stand_ended : v ≡ Ok Ended → Tells whole range old new (Ok Ended)
        stand_ended k = record { says = going_ended G L q.fd depth (site_of site) code whole range old now at prev x w.going h r told kind i y f new v u.says k; keeps = keeps_then kept u.keeps }

        pub stand_returned : (z : Counts) → v ≡ Ok (Returned z) → Standing font q depth site code start range old own new (at + 1) (at + 1) z
        stand_returned z k = onward (going-returned G L q.fd depth (site_of site) code whole range old now at prev x w.going h r told kind i y f new v u.says z k)

-- ---- a call

module _ {font : List ℕ} {q : Subrs} (ready : Ready font q) (kind : Kind) (i : ℕ) (within : i < of_kind kind q.locals.count q.globals.count) {t : Body}
    (a : t ≡ site_in q.fd kind i) where
  module _ {b : List ℕ} (d : b ≡ body_for (globals_in font q) (locals_in font q) kind i) where
    pub body-fits : length b ≤ 67108864
    body-fits = subst (λ (s : List ℕ). length s ≤ 67108864) (sym d) (body-small font q ready kind i within)

    pub entered_ran : (depth : ℕ) (x : Counts) (range : Range) (old : Filling) → (depth ≡ 0 → ⊥) → {mid : Filling} → Notes range (entered (site_of t) ∷ []) old mid
        → {new : Filling} {v : Ran} → Tells (whole_of font q (depth - 1) t b x) range mid new v → Tells (call_of font q depth kind i x) range old new v
    entered_ran depth x range old deep {mid} c {new} {v} u =
        record { says = call_runs (globals_in font q) (locals_in font q) q.fd depth kind i x range old deep mid noted new v ran; keeps = keeps_then (adds_keep c) u.keeps }
      where
        noted : Notes range (entered (site_for q.fd kind i) ∷ []) old mid
        noted = subst (λ (s : Site). Notes range (entered s ∷ []) old mid) (site_as q.fd kind i t a) c

        ran : Telling (trace_body (globals_in font q) (locals_in font q) q.fd (depth - 1) (site_for q.fd kind i) (body_for (globals_in font q) (locals_in font q) kind i) x) range mid new v
        ran =
            subst (λ (s : List ℕ). Telling (trace_body (globals_in font q) (locals_in font q) q.fd (depth - 1) (site_for q.fd kind i) s x) range mid new v) d
            (subst (λ (s : Site). Telling (trace_body (globals_in font q) (locals_in font q) q.fd (depth - 1) s b x) range mid new v) (site_as q.fd kind i t a) u.says)

-- a call too deep
pub too_deep : (font : List ℕ) (q : Subrs) (depth : ℕ) (kind : Kind) (i : ℕ) (x : Counts) (range : Range) (w : Filling) → depth ≡ 0
    → Tells (call_of font q depth kind i x) range w w nothing
too_deep font q depth kind i x range w z = record { says = call_deep (globals_in font q) (locals_in font q) q.fd depth kind i x range w z; keeps = keeps_none w }
