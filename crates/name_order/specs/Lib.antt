pub mod Sorted
pub mod SortedLaws
pub mod MergeLaws
pub mod HalvesLaws
