pub mod Named
pub mod Alone
pub mod Subset
pub mod NamedPutLaws
