pub mod CidExample
pub mod NameExample
pub mod TextsLaws
pub mod AlikeLaws
