-- The theorem used: the moved font gives the reply of the bare one, whatever stands in the bodies that the record does not list; without a record too, where
-- these are the same.
use Rattle.std.specs.Prelude.{ℕ, zero, suc, ◌≡◌, refl, Bool, true, false, [], ◌∷◌, get_or}
use Rattle.std.proofs.Common.{arith}
use Rattle.octets.specs.Pick.{pick}
use Rattle.octets.specs.Octets.{be, num_at}
use Rattle.prune.specs.StepLaws.{zero_one}
use Rattle.dict_write.specs.Written.{without}
use Rattle.record.specs.Record.{rows_from, rows_of, lists}
use Rattle.cff.specs.Find.{work_size}
use Rattle.subset.specs.Kept.{is_in, those, keeps, fds_of, private_of}
use Rattle.subset.specs.Pruned.{local_set, global_set}
use Rattle.alike.specs.Alike.{without_all, SameFor, SamePrivate, in_use_lem, ListedAlike, AllAlike}
use Rattle.alike.specs.CountsLaws.{work_counts}
use Rattle.alike.proofs.Theorem.{no_trace, no_trace_copied}
use Rattle.alike_examples.specs.Fonts.{bare, bare_program, bare-reads, moved, moved_program, moved-reads, reach, keep, cut}

-- glyph 2 is not kept
glyphs-same : (u : ℕ) → SameFor (keeps keep) (bare_program 0x8d).charstrings (moved_program u).charstrings
unfolding is_in
glyphs-same u = record { many = refl; same = at }
  where
    at : (k : ℕ) → keeps keep k ≡ true → get_or (bare_program 0x8d).charstrings k [] ≡ get_or (moved_program u).charstrings k []
    at zero t = refl
    at (suc zero) t = refl
    at (suc (suc zero)) t = absurd (zero_one cc)
    at (suc (suc (suc k))) t = refl

-- of two subroutines the first is not asked
second-same : (asked : ℕ → Bool) (u : ℕ) → asked 0 ≡ false → SameFor asked ((0x0b ∷ []) ∷ (0x8d ∷ 0x16 ∷ 0x0b ∷ []) ∷ []) ((u ∷ []) ∷ (0x8d ∷ 0x16 ∷ 0x0b ∷ []) ∷ [])
second-same asked u none = record { many = refl; same = at }
  where
    at : (k : ℕ) → asked k ≡ true → get_or ((0x0b ∷ []) ∷ (0x8d ∷ 0x16 ∷ 0x0b ∷ []) ∷ []) k [] ≡ get_or ((u ∷ []) ∷ (0x8d ∷ 0x16 ∷ 0x0b ∷ []) ∷ []) k []
    at zero t = absurd (zero_one cc)
    at (suc zero) t = refl
    at (suc (suc k)) t = refl

-- the record lists neither first one
no_global : global_set (rows_of reach) 0 ≡ false
unfolding rows_of rows_from lists num_at be
no_global = refl

no_local : pick (in_use_lem (bare_program 0x8d) keep 0) (local_set (rows_of reach) 0 0) false ≡ false
unfolding rows_of rows_from lists num_at be is_in those fds_of
no_local = refl

pub listed-alike : (u : ℕ) → ListedAlike keep reach (bare_program 0x8d) (moved_program u)
unfolding without_all without
listed-alike u =
    record {
      top = refl;
      strings = refl;
      ids = refl;
      coding = refl;
      fds = refl;
      dicts = λ f. refl;
      charstrings = glyphs-same u;
      globals = second-same (global_set (rows_of reach)) u no_global;
      many_privates = refl;
      privates = at;
    }
  where
    at : (f : ℕ) → SamePrivate (λ k. pick (in_use_lem (bare_program 0x8d) keep f) (local_set (rows_of reach) f k) false) (private_of (bare_program 0x8d) f) (private_of (moved_program u) f)
    at zero = record { entries = refl; locals = second-same (λ k. pick (in_use_lem (bare_program 0x8d) keep 0) (local_set (rows_of reach) 0 k) false) u no_local }
    at (suc f) = record { entries = refl; locals = record { many = refl; same = λ k t. refl } }

-- flag 1
pub same_reply : (u : ℕ) → cut (bare 0x8d) reach 1 ≡ cut (moved u) reach 1
same_reply u =
    no_trace work_size work_counts (bare_program 0x8d) (moved_program u) keep reach 1 (omega arith) (listed-alike u)
    false false (bare 0x8d) (moved u) (0x4e ∷ []) 8192 32768 (bare-reads 0x8d) (moved-reads u)

-- flag 0: all bodies are asked, and are the same
pub all_alike : AllAlike keep (bare_program 0x8d) (moved_program 0x0b)
unfolding without_all without
all_alike =
    record {
      top = refl;
      strings = refl;
      ids = refl;
      coding = refl;
      fds = refl;
      dicts = λ f. refl;
      charstrings = glyphs-same 0x0b;
      globals = record { many = refl; same = λ k t. refl };
      many_privates = refl;
      privates = at;
    }
  where
    at : (f : ℕ) → SamePrivate (λ k. in_use_lem (bare_program 0x8d) keep f) (private_of (bare_program 0x8d) f) (private_of (moved_program 0x0b) f)
    at zero = record { entries = refl; locals = record { many = refl; same = λ k t. refl } }
    at (suc f) = record { entries = refl; locals = record { many = refl; same = λ k t. refl } }

pub same-copied : cut (bare 0x8d) [] 0 ≡ cut (moved 0x0b) [] 0
same-copied =
    no_trace_copied work_size work_counts (bare_program 0x8d) (moved_program 0x0b) keep [] all_alike
    false false (bare 0x8d) (moved 0x0b) (0x4e ∷ []) 8192 32768 (bare-reads 0x8d) (moved-reads 0x0b)
