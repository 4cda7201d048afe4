pub mod FoundLaws
pub mod IndexRound
