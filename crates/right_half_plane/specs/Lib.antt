-- The definitions, by topic.
pub mod ByMiller
pub mod ByTemme
pub mod Ground
pub mod Kernel
pub mod Lead
pub mod Reach
pub mod Recover
pub mod Refusals
pub mod Seeds
pub mod shapes
