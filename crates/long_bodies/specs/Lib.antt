pub mod Offsets
pub mod TwoLaws
pub mod PartLaws
pub mod WalkLaws
pub mod Examples
pub mod Alone
pub mod AnySites
