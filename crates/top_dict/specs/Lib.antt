pub mod Alone
pub mod Top
pub mod Writing
pub mod Sent
pub mod TopParts
pub mod TopLaws
pub mod Slotted
pub mod Examples
