pub mod FormsExamples
pub mod FormsLaws
