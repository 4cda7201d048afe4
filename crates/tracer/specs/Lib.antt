pub mod Met
pub mod Tracing
pub mod FillLaws
pub mod WindowsLaws
pub mod AnswerLaws
