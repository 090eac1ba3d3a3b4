-- The definitions, by topic. What stands in shapes is how a thing is computed, not what.
pub mod Whole
pub mod Point
pub mod Trials
pub mod Search
pub mod NoStart
pub mod Backward
pub mod Seeds
pub mod shapes
