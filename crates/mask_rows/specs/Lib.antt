pub mod MaskRows
pub mod SameLaws
pub mod KeyLaws
pub mod FillLaws
pub mod Alone
pub mod SameRoom
