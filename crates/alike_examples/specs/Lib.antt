pub mod Fonts
pub mod Same
pub mod Differs
