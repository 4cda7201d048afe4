pub mod Window
pub mod Alone
pub mod Stays
pub mod WindowLaws
pub mod OrderLaws
pub mod GatheredLaws
pub mod LoopLaws
