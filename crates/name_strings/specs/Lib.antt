pub mod Names
pub mod Alone
pub mod SlotCountLaws
pub mod NamingLaws
pub mod CharsetLaws
pub mod Strings
pub mod WriteLaws
pub mod NamesLaws
