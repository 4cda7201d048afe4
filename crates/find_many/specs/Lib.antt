pub mod Many
pub mod ManyLaws
