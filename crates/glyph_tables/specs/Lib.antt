pub mod Tables
pub mod Examples
pub mod PartLaws
pub mod MarkLaws
pub mod SelectLaws
pub mod ReadLaws
pub mod ThoseLaws
pub mod UsedTableLaws
