-- Laws of ranking the locals of the FDs in use, FD by FD.
use Rattle.std.specs.Prelude.{ℕ, ◌+◌, ◌≤◌, ◌<◌, ◌≡◌, Bool, true, false, List, ◌++◌, eqb, length, set}
use Rattle.std.proofs.Math.Path.{refl, sym}
use Rattle.std.proofs.Common.{ap, ◌∙◌, subst, get_or-set_same, get_or-set_other}
use native.Mathlib.Omega.{arith}
use Rattle.octets.specs.Pick.{pick}
use Rattle.octets.specs.Octets.{put}
use Rattle.octets.specs.PutLaws.{put_nil, put-put, put-length}
use Rattle.unfold.specs.Unfold.{Row}
use Rattle.index.specs.IndexLaws.{items-length}
use Rattle.cff.specs.Font.{Private, Program}
use Rattle.cff.specs.Reads.{GoodPrivate, GoodFont, program_of}
use Rattle.cff.specs.Reads as reads
use Rattle.cff.specs.declared.font.Font.{Font}
use Rattle.cff.specs.declared.private.PrivateAt.{PrivateAt}
use Rattle.cff.specs.Find.{locals_words}
use Rattle.subset.specs.Kept.{those, locals_of}
use Rattle.bits.specs.Bits.{count_below, words_for, bits_of}
use Rattle.subset.specs.Pruned.{reached, local_set}
use Rattle.reach.specs.Reach.{ranked_of}
use Rattle.reach.specs.declared.ranks.Ranked.{Ranked}
use Rattle.reach.specs.Cases.{by_number}
use Rattle.renumber.specs.Ranks.{ranks_at}
use Rattle.renumber.specs.declared.Ranks.{Ranks}
use Rattle.bodies.specs.Ways.{no_ranks, ranks_in}
use Rattle.fds.specs.declared.RankedLocals.{RankedLocals}
use Rattle.fds.specs.Locals.{in_use_lem, used_below, locals_for, fd_bits, bits_for, numbered, all_numbered, fd_ranks, ranked_locals, RankedFd, RankedFds, RanksLocals}
use Rattle.fds.specs.UsedLaws.{used-next, unused_next, locals-last, bits_last, numbered-last, bits_length, locals-few, locals-within, unused_apart}

-- ---- one FD

-- how many locals a Private DICT has
pub locals-count : (b : List ℕ) (q : PrivateAt) (x : Private) → GoodPrivate b q × (reads.private_of b q ≡ x) → (q.locals.count ≡ length x.locals) × (q.locals.count < 65536)
locals-count b q x h = (sym (items-length b q.locals) ∙ ap (λ (y : Private). length y.locals) h.1, h.0.locals.few)

-- the locals of a font take few words
pub few_words : (b : List ℕ) (f : Font) → GoodFont b f → locals_words (program_of b f).privates ≤ 4294967296
few_words b f g = subst (λ (n : ℕ). n ≤ 4294967296) g.parts.words g.parts.few

abbrev answer : Ranks → Bool → RankedLocals
answer q t = record { own = q; all = t }

-- ranks by what ranking answers
abbrev pub ranks_by : ℕ → ℕ → Ranked → Ranks
ranks_by at count r = record { at = at; count = count; reached = r.reached; low = r.low; high = r.high }

pub fd-ranked : (p : Program) (rows : List Row) (fd count : ℕ) (words new : List ℕ) (at : ℕ) (r : Ranked) → count ≡ length (locals_of p fd)
    → (new ≡ put words at (bits_of (local_set rows fd) count)) × (r ≡ ranked_of (local_set rows fd) count)
    → (new ≡ put words at (fd_bits p rows fd)) × (answer (ranks_by at count r) r.all ≡ ranked_locals p rows at fd)
fd-ranked p rows fd count words new at r e h = (
  h.0 ∙ ap (λ (k : ℕ). put words at (bits_of (local_set rows fd) k)) e,
  ap (λ (x : Ranked). answer (ranks_by at count x) x.all) h.1
      ∙ ap (λ (k : ℕ). answer (ranks_at (local_set rows fd) at k) (eqb (reached (local_set rows fd)) (count_below (local_set rows fd) k))) e,
)

-- ---- FD by FD

module _ (p : Program) (rows : List Row) (used : List ℕ) (at : ℕ) (old : List ℕ) where
  -- the locals of the FDs in use below fd are ranked
  pub record Ranking (words : List ℕ) (table : List Ranks) (place : ℕ) (all : Bool) (fd : ℕ) : Type 0 where
    pub held : words ≡ put old at (bits_for p rows (used_below used fd))
    pub stands : place ≡ at + locals_for p (used_below used fd)
    pub tables : RankedFds p rows used at table fd
    pub told : all ≡ all_numbered p rows (used_below used fd)

  pub ranking_start : (table : List Ranks) → Ranking old table at true 0
  unfolding those bits_for locals_for all_numbered
  ranking_start table =
      record { held = sym (put_nil old at); stands = omega arith; tables = λ f h e. absurd (let y : ⊥ = omega arith in y); told = refl }

  module _ (room : at + locals_words p.privates ≤ length old) (words : List ℕ) (table : List Ranks) (place : ℕ) (all : Bool) (fd : ℕ)
      (h : Ranking words table place all fd) where
    pub ranking_length : length words ≡ length old
    ranking_length =
        ap length h.held
        ∙ put-length old at (bits_for p rows (used_below used fd)) (omega (arith, bits_length p rows (used_below used fd), locals-few p used fd))

    -- there is room for those of an FD in use
    pub ranking_room : in_use_lem used fd ≡ true → place + words_for (length (locals_of p fd)) ≤ length words
    ranking_room e = omega (arith, h.stands, ranking_length, locals-within p used fd e)

    pub ranking_small : in_use_lem used fd ≡ true → at < 4294967296 → locals_words p.privates ≤ 4294967296 → place + words_for (length (locals_of p fd)) < 8589934593
    ranking_small e a t = omega (arith, h.stands, locals-within p used fd e)

    -- an FD that is not in use
    pub ranking_pass : in_use_lem used fd ≡ false → Ranking words table place all (fd + 1)
    ranking_pass e =
        let u = unused_next used fd e in
        record {
          held = h.held ∙ ap (λ (l : List ℕ). put old at (bits_for p rows l)) (sym u);
          stands = h.stands ∙ ap (λ (l : List ℕ). at + locals_for p l) (sym u);
          tables = λ f k t. by_number f fd (λ s. absurd (unused_apart used f fd e s t)) (λ n. h.tables f (omega arith) t);
          told = h.told ∙ ap (all_numbered p rows) (sym u);
        }

    -- an FD in use
    module _ (e : in_use_lem used fd ≡ true) (long : 256 ≤ length table) (below : fd < 256)
        (r : RankedLocals) (is : r ≡ ranked_locals p rows place fd) (new : List ℕ) (w : new ≡ put words place (fd_bits p rows fd)) where
      here : RankedFd p rows used at (set table fd r.own) fd
      here =
          get_or-set_same table fd r.own no_ranks (omega arith) ∙ ap (λ (x : RankedLocals). x.own) is ∙ ap (λ (k : ℕ). fd_ranks p rows k fd) h.stands

      written : new ≡ put old at (bits_for p rows (used_below used fd) ++ fd_bits p rows fd)
      written =
          let n : place ≡ at + length (bits_for p rows (used_below used fd)) = omega (arith, h.stands, bits_length p rows (used_below used fd)) in
          let k : at ≤ length old = omega arith in
          w ∙ ap (λ (l : List ℕ). put l place (fd_bits p rows fd)) h.held
          ∙ ap (λ (i : ℕ). put (put old at (bits_for p rows (used_below used fd))) i (fd_bits p rows fd)) n
          ∙ put-put old at (bits_for p rows (used_below used fd)) (fd_bits p rows fd) k

      pub ranking_take : (both : Bool) → both ≡ pick all r.all false → (n : ℕ) → n ≡ words_for r.own.count → (after : List Ranks) → after ≡ set table fd r.own
          → Ranking new after (place + n) both (fd + 1)
      ranking_take both b n m after t =
          let u = used-next used fd e in
          let c : words_for r.own.count ≡ words_for (length (locals_of p fd)) = ap (λ (x : RankedLocals). words_for x.own.count) is in
          let a : r.all ≡ numbered p rows fd = ap (λ (x : RankedLocals). x.all) is in
          record {
            held = written ∙ ap (put old at) (sym (ap (bits_for p rows) u ∙ bits_last p rows (used_below used fd) fd));
            stands = omega (arith, h.stands, ap (locals_for p) u, locals-last p rows (used_below used fd) fd);
            tables = λ f k v. ap (λ (l : List Ranks). ranks_in l f) t
                ∙ by_number f fd (λ s. subst (λ (i : ℕ). RankedFd p rows used at (set table fd r.own) i) (sym s) here)
                (λ x. get_or-set_other table fd f r.own no_ranks x ∙ h.tables f (omega arith) v);
            told = b ∙ ap (λ (t : Bool). pick t r.all false) h.told ∙ ap (λ (t : Bool). pick (all_numbered p rows (used_below used fd)) t false) a
                ∙ sym (ap (all_numbered p rows) u ∙ numbered-last p rows (used_below used fd) fd);
          }

  -- all FDs were passed
  pub ranking_done : (words : List ℕ) (table : List Ranks) (place : ℕ) (all : Bool) (fd : ℕ) → Ranking words table place all fd → fd ≡ 256
      → RanksLocals p rows used at old words table all
  ranking_done words table place all fd h e =
      let g = subst (Ranking words table place all) e h in
      record { words = g.held; tables = g.tables; told = g.told }
