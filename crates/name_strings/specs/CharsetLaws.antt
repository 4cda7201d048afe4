-- Laws of a charset that a loop over all glyphs writes (TN5176, section 13): the format first, and then the id of each glyph but glyph 0, which is
-- passed.
use Rattle.std.specs.Prelude.{ℕ, ◌+◌, ◌≤◌, ◌<◌, ◌≡◌, refl, List, [], ◌∷◌, length, take, get_or}
use Rattle.std.proofs.Common.{sym, ap, ◌∙◌, arith}
use Rattle.octets.specs.Octets.{bytes_of, Wrote}
use Rattle.octets.specs.PutLaws.{wrote_as}
use Rattle.octets.specs.declared.out.Out.{Out}
use Rattle.octets.specs.Out.{Writes}
use Rattle.charset.specs.CharsetBytes.{id_bytes, charset_bytes}
use Rattle.charset.specs.CharsetBytesLaws.{charset-length, charset_begun, charset-more, charset-finished, charset-room}

-- the ids of i glyphs are written
pub record CharsetPut (old : Out) (ids : List ℕ) (new : Out) (i : ℕ) : Type 0 where
  pub same : new.bytes.ghost_name ≡ old.bytes.ghost_name
  pub size : length new.bytes.now ≡ length old.bytes.now
  pub wrote : Wrote old.bytes.now old.at (charset_bytes (take i ids)) new.bytes.now new.at

-- the charset of no glyph
none-put : (ids : List ℕ) → charset_bytes (take 0 ids) ≡ 0 ∷ []
unfolding charset_bytes id_bytes
none-put ids = refl

module _ (old : Out) (ids : List ℕ) (room : old.at + length (charset_bytes ids) ≤ length old.bytes.now) where
  -- there is room for the format
  pub format-room : old.at + 1 ≤ length old.bytes.now
  format-room = omega (arith, charset-length ids)

  -- it is written
  pub charset-start : {new : Out} → Writes old (0 ∷ []) new → CharsetPut old ids new 0
  charset-start w = record { same = w.same; size = w.size; wrote = wrote_as w.wrote (sym (none-put ids)) }

  module _ {mid : Out} {i : ℕ} (c : CharsetPut old ids mid i) where
    -- glyph 0 has no id there
    pub charset-pass : i ≤ 0 → (out : Out) → out ≡ mid → CharsetPut old ids out (i + 1)
    charset-pass h out a =
        let e : i ≡ 0 = omega arith in
        let z : charset_bytes (take i ids) ≡ 0 ∷ [] = ap (λ (k : ℕ). charset_bytes (take k ids)) e ∙ none-put ids in
        let w : Wrote old.bytes.now old.at (charset_bytes (take 1 ids)) mid.bytes.now mid.at = charset_begun ids (wrote_as c.wrote z) in
        rw a (record { same = c.same; size = c.size; wrote = wrote_as w (ap (λ (k : ℕ). charset_bytes (take (k + 1) ids)) (sym e)) })

    module _ (some : 0 < i) (h : i < length ids) where
      -- there is room for the next id
      pub charset-space : mid.at + 2 ≤ length mid.bytes.now
      charset-space = omega (arith, c.size, charset-room ids i (length old.bytes.now) some h room c.wrote)

      -- it is written
      pub charset-next : {new : Out} {id : ℕ} → id ≡ get_or ids i 0 → Writes mid (bytes_of 2 id) new → (out : Out) → out ≡ new → CharsetPut old ids out (i + 1)
      charset-next {new} {id} e w out a =
          rw a
          (record {
            same = w.same ∙ c.same;
            size = w.size ∙ c.size;
            wrote = charset-more ids i (omega arith) some h c.wrote (rw e at w.wrote);
          })

    -- all ids are written
    pub charset_done : length ids ≤ i → Writes old (charset_bytes ids) mid
    charset_done h = record { wrote = charset-finished ids i h c.wrote; same = c.same; size = c.size }
