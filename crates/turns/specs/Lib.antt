pub mod Turns
pub mod TargetLaws
pub mod TurnLaws
