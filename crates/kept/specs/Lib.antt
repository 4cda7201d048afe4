pub mod Packed
pub mod MarkLaws
pub mod GatherLaws
pub mod SlotLaws
pub mod OrderLaws
