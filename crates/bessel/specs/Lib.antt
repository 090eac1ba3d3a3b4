-- The definitions, by topic.
pub mod Arguments
pub mod Checks
pub mod Outcome
pub mod Series
pub mod I
pub mod K
