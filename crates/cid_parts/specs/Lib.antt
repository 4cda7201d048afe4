pub mod Cid
pub mod Alone
pub mod Subset
pub mod CidPlacesLaws
pub mod CidPutLaws
