-- The definitions, by topic.
pub mod Arithmetic
pub mod Functions
pub mod Lost
pub mod Power
