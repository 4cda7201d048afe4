pub mod Early
pub mod FitsLaws
pub mod EarlyLaws
