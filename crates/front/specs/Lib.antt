pub mod Front
pub mod ApartLaws
pub mod SlotLaws
pub mod PrepareLaws
pub mod FrontLaws
pub mod ByNameLaws
pub mod ByCidLaws
pub mod Examples
