pub mod Glyph
pub mod GlyphLaws
pub mod Place
pub mod PlaceLaws
