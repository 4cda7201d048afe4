pub mod Slots
pub mod Ready
pub mod SlotTexts
pub mod OwnLaws
pub mod SlotLaws
pub mod TurnLaws
pub mod StageLaws
pub mod IdsLaws
