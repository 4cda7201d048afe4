pub mod Hexlines
pub mod Examples
pub mod HexlinesLaws
pub mod HexlinesRound
