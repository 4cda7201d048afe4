-- Laws of the tracer for C: a record has room where it is written, so the front that is lent for it, put back, is the slice with the record in front.
use Rattle.std.specs.Prelude.{ℕ, ◌≤◌, ◌≡◌, refl, Bool, true, false, List, [], ◌∷◌, ◌++◌, ltb, length, take, drop, None, Option, Some, Result, Ok, Err}
use Rattle.std.proofs.Common.{sym, ap, ◌∙◌, subst, append-nil, arith, ltb-false, take-append-drop}
use Rattle.std.proofs.Math.Seq.{take-length, drop-length}
use Rattle.octets.specs.Pick.{pick, pick_ind}
use Rattle.octets.specs.Octets.{put}
use Rattle.octets.specs.PutLaws.{put_nil}
use Rattle.octets.specs.Lists.{all_below}
use Rattle.refusal.specs.declared.Refusal.{Refusal}
use Rattle.refusal.specs.declared.Refusal.TheVariants.{NoSuchNumber, NotFound, Output}
use Rattle.unfold.specs.Unfold.{Row}
use Rattle.cff.specs.Font.{Program, read_font}
use Rattle.subset.specs.Kept.{kept_of}
use Rattle.subset.specs.Cut.{all_found_lem}
use Rattle.traced.specs.Traced.{Traced, refused, traced, record_of, met_all, answered, trace_read, trace_of, traced_as, leaves_record, Traces}
use Rattle.traced.specs.declared.Recorded.{Recorded}
use Rattle.capi.specs.Capi.{Answers}
use Rattle.capi.specs.Subset.{room_for}
use Rattle.capi.specs.SubsetLaws.{room-taken}
use Rattle.capi.specs.Trace.{traced_answer, AnswersTrace}

-- ---- a record has room

abbrev Fits : ℕ → Traced → Type 0
Fits room (refused n) = Unit
Fits room (traced flag rec) = length rec ≤ room

answered-fits : (room : ℕ) (m : Option (List Row)) → Fits room (answered room m)
answered-fits room None = omega arith
answered-fits room (Some rows) =
    pick_ind (Fits room) (ltb room (length (record_of rows))) (refused Output) (traced 1 (record_of rows)) (λ e. tt) (λ e. ltb-false room (length (record_of rows)) e)

read_fits : (room : ℕ) (keep : List ℕ) (g : Result Program Refusal) → Fits room (trace_read g keep room)
read_fits room keep (Err n) = tt
read_fits room keep (Ok p) =
    let kept = kept_of (length p.charstrings) keep in
    pick_ind (Fits room) (all_below (length p.charstrings) keep) _ (refused NoSuchNumber)
    (λ e. pick_ind (Fits room) (all_found_lem p kept) (answered room (met_all p kept)) (refused NotFound) (λ f. answered-fits room (met_all p kept)) (λ f. tt)) (λ e. tt)

trace_fits : (font keep : List ℕ) (room : ℕ) → Fits room (trace_of font keep room)
unfolding trace_of
trace_fits font keep room = read_fits room keep (read_font font)

-- ---- the front, put back

no_bytes : (rec : List ℕ) → length rec ≤ 0 → rec ≡ []
no_bytes [] h = refl
no_bytes (x ∷ xs) h = absurd (omega arith)

-- in all of the slice, or in none of it
front-whole : (t : Traced) (out : List ℕ) → leaves_record t (take (length out) out) ++ drop (length out) out ≡ leaves_record t out
front-whole t out =
    ap (λ (l : List ℕ). leaves_record t l ++ drop (length out) out) (take-length out) ∙ ap (λ (l : List ℕ). leaves_record t out ++ l) (drop-length out)
    ∙ append-nil (leaves_record t out)

front-none : (t : Traced) (out : List ℕ) → Fits 0 t → leaves_record t (take 0 out) ++ drop 0 out ≡ leaves_record t out
front-none (refused n) out h = take-append-drop 0 out
front-none (traced flag rec) out h =
    let e = no_bytes rec h in
    ap (λ (l : List ℕ). put (take 0 out) 0 l ++ drop 0 out) e ∙ ap (λ (l : List ℕ). l ++ drop 0 out) (put_nil (take 0 out) 0) ∙ take-append-drop 0 out
    ∙ sym (put_nil out 0) ∙ ap (put out 0) (sym e)

front-back : (b : Bool) (t : Traced) (out : List ℕ) → Fits (pick b 0 (length out)) t
    → leaves_record t (take (pick b 0 (length out)) out) ++ drop (pick b 0 (length out)) out ≡ leaves_record t out
front-back true t out h = front-none t out h
front-back false t out h = front-whole t out

-- ---- the code

pub trace_answers : (font keep out answer : List ℕ) (r : ℕ) → r ≡ room_for (length answer) (length out) → (part answer' : List ℕ) (a : Result Recorded Refusal) (n : ℕ)
    → Traces font keep (take r out) part a → Answers (traced_answer a) answer answer' n
    → AnswersTrace font keep out answer (part ++ drop r out) answer' n
trace_answers font keep out answer r is part answer' a n h k =
    let room = room_for (length answer) (length out) in
    let e : trace_of font keep (length (take r out)) ≡ trace_of font keep room = ap (trace_of font keep) (sym (room-taken (length answer) out r is) ∙ is) in
    record {
      answers = subst (λ (x : Result Recorded Refusal). Answers (traced_answer x) answer answer' n) (h.answers ∙ ap traced_as e) k;
      output =
          ap (λ (l : List ℕ). l ++ drop r out) (h.output ∙ ap (λ (t : Traced). leaves_record t (take r out)) e)
          ∙ ap (λ (m : ℕ). leaves_record (trace_of font keep room) (take m out) ++ drop m out) is
          ∙ front-back (ltb (length answer) 2) (trace_of font keep room) out (trace_fits font keep room);
    }
