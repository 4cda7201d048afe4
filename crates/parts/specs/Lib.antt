pub mod Ready
pub mod PlannedLaws
pub mod CodeLaws
pub mod PrivateLaws
pub mod FlagLaws
