-- That kept glyphs are gathered is one fact, so that a type may hold it.
use Rattle.std.specs.Prelude.{ℕ, List}
use Rattle.std.proofs.Props.{props}
use Rattle.index.specs.Alone.{good_prop}
use Rattle.cff.specs.Alone.{good_font_prop}
use Rattle.cff.specs.declared.font.Font.{Font}
use Rattle.order.specs.declared.Coming.{Coming}
use Rattle.order.specs.declared.Coming.TheVariants.{Glyph, Cid}
use Rattle.order.specs.Walks.{ToCome}
use Rattle.order_window.specs.declared.Order.{Order}
use Rattle.order_window.specs.Window.{Gathered}

to_come_prop : (b : List ℕ) (f : Font) (ws : List ℕ) (done : ℕ) (next : Coming) → IsProp (ToCome b f ws done next)
to_come_prop b f ws done (Glyph at cursor) = Prim.hlevel props
to_come_prop b f ws done (Cid at) = Prim.hlevel props

pub gathered_prop : (b ws window : List ℕ) (o : Order) → IsProp (Gathered b ws window o)
gathered_prop b ws window o = Prim.hlevel (props, good_prop, good_font_prop, to_come_prop)
