-- The theorems, by topic.
pub mod SumRun
pub mod SumBound
pub mod SumEnds
