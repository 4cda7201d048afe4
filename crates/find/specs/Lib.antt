pub mod Find
pub mod FindLaws
