pub mod Culprit
pub mod FewerLaws
pub mod NarrowLaws
