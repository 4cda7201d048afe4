pub mod Accepted
pub mod RowsLaws
pub mod StubLaws
