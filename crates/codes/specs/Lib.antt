pub mod Filled
pub mod FilledLaws
pub mod FillLaws
pub mod StringLaws
