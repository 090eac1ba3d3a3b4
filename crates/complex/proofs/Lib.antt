-- The theorems, by topic.
pub mod AtZero
pub mod LnFacts
pub mod LostFacts
