-- The definitions, by topic.
pub mod Ahead
pub mod Tally
pub mod Turn
pub mod Rows
