pub mod Room
pub mod RoomLaws
pub mod MeasureLaws
