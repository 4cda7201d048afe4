pub mod LookupLaws
pub mod NotedLaws
pub mod WalkLaws
pub mod EntriesLaws
pub mod ProperLaws
