pub mod Call
pub mod Entry
pub mod Layout
pub mod OutcomeLaws
pub mod BothLaws
pub mod Walked
