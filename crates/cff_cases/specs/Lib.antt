pub mod CffCases
pub mod CffCasesLaws
