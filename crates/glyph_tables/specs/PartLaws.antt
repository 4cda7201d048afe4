-- Laws of a charset that is written id by id (TN5176, section 13).
use Rattle.std.specs.Prelude.{ℕ, ◌+◌, ◌≤◌, ◌<◌, ◌≡◌, List, [], ◌∷◌, length, take, get_or}
use Rattle.std.proofs.Common.{◌∙◌, arith}
use Rattle.octets.specs.Octets.{bytes_of, Wrote}
use Rattle.octets.specs.declared.out.Out.{Out}
use Rattle.octets.specs.Out.{Writes}
use Rattle.charset.specs.CharsetBytes.{charset_bytes}
use Rattle.charset.specs.CharsetBytesLaws.{charset-length, charset_begun, charset-more, charset-finished, charset-room}

-- the ids of g glyphs are written
pub record CharsetPut (old : Out) (ids : List ℕ) (new : Out) (g : ℕ) : Type 0 where
  pub some : 0 < g
  pub same : new.bytes.ghost_name ≡ old.bytes.ghost_name
  pub size : length new.bytes.now ≡ length old.bytes.now
  pub wrote : Wrote old.bytes.now old.at (charset_bytes (take g ids)) new.bytes.now new.at

module _ (old : Out) (ids : List ℕ) (room : old.at + length (charset_bytes ids) ≤ length old.bytes.now) where
  -- there is room for the format
  pub charset-first : old.at + 1 ≤ length old.bytes.now
  charset-first = omega (arith, charset-length ids)

  -- the format is written
  pub charset-start : {new : Out} → Writes old (0 ∷ []) new → CharsetPut old ids new 1
  charset-start w = record { some = omega arith; same = w.same; size = w.size; wrote = charset_begun ids w.wrote }

  module _ {mid : Out} {g : ℕ} (c : CharsetPut old ids mid g) where
    module _ (h : g < length ids) where
      -- there is room for the next id
      pub charset-space : mid.at + 2 ≤ length mid.bytes.now
      charset-space = omega (arith, c.size, charset-room ids g (length old.bytes.now) c.some h room c.wrote)

      -- the next id is written
      pub charset-next : {new : Out} {id : ℕ} → id ≡ get_or ids g 0 → Writes mid (bytes_of 2 id) new → CharsetPut old ids new (g + 1)
      charset-next {new} {id} e w =
          record {
            some = omega arith;
            same = w.same ∙ c.same;
            size = w.size ∙ c.size;
            wrote = charset-more ids g (omega arith) c.some h c.wrote (rw e at w.wrote);
          }

    -- all ids are written
    pub charset_done : length ids ≤ g → Writes old (charset_bytes ids) mid
    charset_done h = record { wrote = charset-finished ids g h c.wrote; same = c.same; size = c.size }
