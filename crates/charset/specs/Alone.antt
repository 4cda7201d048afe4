-- That a charset is good, and that a cursor stands before glyphs, are one fact each, so that a type may hold it.
use Rattle.std.specs.Prelude.{ℕ, List}
use Rattle.std.proofs.Props.{props}
use Rattle.charset.specs.CharsetPlaces.{GoodCharset}
use Rattle.charset.specs.Ahead.{Ahead}
use Rattle.charset.specs.declared.Charset.{Charset}
use Rattle.charset.specs.declared.CharsetCursor.{CharsetCursor}

pub good_charset_prop : (b : List ℕ) (c : Charset) (n : ℕ) → IsProp (GoodCharset b c n)
good_charset_prop b c n = Prim.hlevel props

pub ahead_prop : (b : List ℕ) (u : CharsetCursor) (n : ℕ) → IsProp (Ahead b u n)
ahead_prop b u n = Prim.hlevel props
