-- The theorems, by topic.
pub mod Tests
pub mod Reduction
pub mod Signs
pub mod Entries
pub mod Ranges
pub mod Rest
pub mod ExpFacts
pub mod Magnitudes
pub mod SinhFacts
pub mod CoshFacts
