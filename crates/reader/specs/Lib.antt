pub mod Moved
pub mod Header
