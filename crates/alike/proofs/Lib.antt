pub mod Calls
pub mod PartsLaws
pub mod Small
pub mod Theorem
pub mod BodiesLaws
pub mod TopLaws
