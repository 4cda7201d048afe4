pub mod Outcome
pub mod CidKeptLaws
pub mod Prepares
