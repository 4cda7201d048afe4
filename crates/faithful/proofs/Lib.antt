pub mod Theorem
pub mod Held
pub mod Examples
pub mod PrunedLaws
pub mod AskedExample
pub mod UnlistedExample
