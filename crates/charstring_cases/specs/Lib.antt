pub mod Numbers
pub mod Streams
pub mod Answers
pub mod AnswersLaws
pub mod StreamLaws
