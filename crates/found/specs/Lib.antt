pub mod Flags
pub mod FlagsLaws
pub mod Hash
pub mod HashLaws
