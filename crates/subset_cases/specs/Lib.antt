pub mod Left
pub mod LeftLaws
pub mod SubsetCases
pub mod SubsetCasesLaws
