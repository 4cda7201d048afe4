pub mod TableLaws
pub mod NamesLaws
pub mod SearchLaws
pub mod StringsLaws
