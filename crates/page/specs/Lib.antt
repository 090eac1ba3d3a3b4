-- The definitions, by topic.
pub mod Layout
pub mod Saying
pub mod Parts
pub mod Joining
pub mod Steps
