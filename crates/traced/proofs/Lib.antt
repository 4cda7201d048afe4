pub mod Theorem
pub mod RowLaws
pub mod Examples
pub mod HeldExample
pub mod MetLaws
pub mod PartLaws
pub mod RunLaws
pub mod EightLaws
