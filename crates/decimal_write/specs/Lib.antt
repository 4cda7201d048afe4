pub mod IntLaws
pub mod TextLaws
pub mod WrittenLaws
pub mod IntRound
pub mod WrittenRound
