-- The definitions, by topic.
pub mod Answer
pub mod Checks
pub mod Limits
