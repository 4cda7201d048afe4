-- The refusals of a traced cut before the work words are used (document 02, Wish 12).
use Rattle.std.specs.Prelude.{ℕ, Bool, true, false, List, ltb, Result, Ok, Err}
use Rattle.octets.specs.Pick.{pick}
use Rattle.refusal.specs.declared.Refusal.{Refusal}
use Rattle.refusal.specs.declared.Refusal.TheVariants.{Malformed, Unsupported, TooLong, Work}
use Rattle.dict.specs.Lookup.{ros_in, cid_keyed}
use Rattle.cff.specs.Font.{Program}
use Rattle.cff.specs.Find.{work_size}
use Rattle.subset.specs.Cut.{has_ros_lem, unsupported_in}
use Rattle.traced.specs.Traced.{Traced, refused, traced, trace_program}

-- a trace is not refused
abbrev pub fits_in : Traced → Bool
fits_in (refused n) = false
fits_in (traced flag rec) = true

-- the refusal of a trace, or what comes behind it
abbrev pub refused_or : Traced → Result Unit Refusal → Result Unit Refusal
refused_or (refused n) r = Err n
refused_or (traced flag rec) r = r

-- 3, 2, 4; the trace's 6, 7 and 11; 9; or none
unfoldable pub early_of : Program → ℕ → List ℕ → ℕ → ℕ → Result Unit Refusal
early_of p name keep words lent =
    pick (unsupported_in false p) (Err Unsupported)
    (pick (pick (cid_keyed p.top) (has_ros_lem (ros_in p.top)) true)
    (pick (ltb 65535 name) (Err TooLong) (refused_or (trace_program p keep lent) (pick (ltb words (work_size p)) (Err Work) (Ok tt)))) (Err Malformed))
