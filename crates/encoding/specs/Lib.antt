pub mod Encoded
pub mod Examples
pub mod Numbered
pub mod IdLaws
pub mod PairLaws
pub mod EncodedLaws
pub mod PutLaws
