pub mod NamedLaws
pub mod NamedPlanLaws
pub mod NamedKeptLaws
pub mod Prepares
pub mod PrepareLaws
