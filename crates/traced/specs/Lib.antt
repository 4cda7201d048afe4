pub mod Traced
pub mod Parts
pub mod Has
pub mod HasLaws
pub mod RowLaws
pub mod BodyLaws
pub mod Theorem
