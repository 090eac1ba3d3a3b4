-- The definitions that other crates cite, by topic. What stands in shapes is how a thing is computed, not what.
pub mod Difference
pub mod Gammas
pub mod Sum
pub mod Seeds
pub mod Begun
pub mod shapes
