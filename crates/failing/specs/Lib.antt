pub mod Failing
pub mod Alone
pub mod FailingLaws
