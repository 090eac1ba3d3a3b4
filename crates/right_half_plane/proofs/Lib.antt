-- The theorems, by topic.
pub mod Answers
pub mod CellFacts
pub mod Counts
pub mod GrowthFacts
pub mod LeadFacts
pub mod LeadingDigits
pub mod LedFacts
pub mod ModulusBound
pub mod OffHalf
pub mod OrderFacts
pub mod RefusalFacts
pub mod RotationAtZero
pub mod RotationOffHalf
pub mod SeedFacts
pub mod SumsEnd
pub mod Delivered
pub mod WithinTwo
