pub mod Listed
pub mod ListedLaws
