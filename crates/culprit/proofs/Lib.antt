pub mod NarrowLaws
pub mod Examples
pub mod NarrowExample
pub mod Theorem
pub mod CulpritLaws
