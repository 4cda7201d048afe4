pub mod FlagLaws
pub mod EntryLaws
