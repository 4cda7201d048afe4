pub mod Stroked
pub mod Encoded
pub mod EncodedEdges
pub mod SmallCalls
pub mod GlyphCalls
