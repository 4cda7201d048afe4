pub mod Table
pub mod Text
pub mod Strings
pub mod TableTest
pub mod Examples
pub mod TextLaws
