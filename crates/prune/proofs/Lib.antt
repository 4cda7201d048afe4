pub mod BesideLaws
pub mod Examples
pub mod Unfolds
pub mod WalkLaws
