-- The definitions, by topic.
pub mod Points
pub mod Checks
pub mod Sweep
pub mod Line
pub mod ReadBack
