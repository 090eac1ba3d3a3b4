-- The definitions that other crates cite, by topic.
pub mod Sum
pub mod shapes
