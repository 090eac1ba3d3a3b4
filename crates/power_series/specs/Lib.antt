-- The definitions that other crates cite, by topic.
pub mod Entries
pub mod Visit
pub mod Tiny
pub mod Series
pub mod shapes
