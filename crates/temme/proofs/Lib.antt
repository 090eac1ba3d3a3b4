-- The theorems, by topic.
pub mod BegunEnds
pub mod Counted
pub mod DifferenceBound
pub mod GammasAtZero
pub mod Magnitudes
pub mod StartAtZero
pub mod TemmeBound
pub mod WholeShares
