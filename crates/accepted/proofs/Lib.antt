pub mod Theorem
pub mod UsedExample
pub mod Examples
pub mod EnteredLaws
