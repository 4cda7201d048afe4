pub mod Unfold
pub mod Sites
pub mod Examples
