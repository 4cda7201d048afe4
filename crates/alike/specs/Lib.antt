pub mod Alike
pub mod CountsLaws
