pub mod Cutting
pub mod CuttingLaws
