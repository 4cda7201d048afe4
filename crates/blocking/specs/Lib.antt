pub mod Search
pub mod Alone
pub mod Stays
pub mod StaysLaws
pub mod CutLaws
pub mod SearchLaws
pub mod EntryLaws
