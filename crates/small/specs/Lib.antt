pub mod Small
pub mod Theorem
