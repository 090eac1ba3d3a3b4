-- The theorems, by topic.
pub mod SquareLimit
pub mod StepFacts
pub mod MarkFacts
