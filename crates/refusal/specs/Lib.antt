pub mod HandedOn
pub mod Refusal
