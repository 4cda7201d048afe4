pub mod Privates
pub mod PrivatesLaws
pub mod MatrixLaws
pub mod DictsLaws
pub mod Alone
pub mod Held
