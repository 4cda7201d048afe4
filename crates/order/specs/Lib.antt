pub mod Order
pub mod Walks
pub mod BitLaws
pub mod RiseLaws
pub mod RangeLaws
pub mod WalkLaws
