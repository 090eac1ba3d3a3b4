pub mod Seed
pub mod Sqrt
pub mod Hypot
pub mod Close
