-- The theorems, by topic.
pub mod Size
pub mod Parts
pub mod Symmetry
pub mod Rest
pub mod Finite
pub mod Whole
pub mod Zeros
pub mod Examples
pub mod RemainderFacts
