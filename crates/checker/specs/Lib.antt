pub mod Checking
pub mod AskLaws
pub mod NumberLaws
pub mod KeyLaws
pub mod CheckLaws
