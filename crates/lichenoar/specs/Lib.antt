-- The definitions, by topic.
pub mod Feed
pub mod Feeding
pub mod Turn
