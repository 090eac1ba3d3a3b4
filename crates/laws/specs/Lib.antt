-- The definitions that other crates cite, by topic.
pub mod Iterate
pub mod Operators
pub mod Run
