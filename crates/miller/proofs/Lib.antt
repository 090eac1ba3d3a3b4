-- The theorems, by topic: Outcome and RealPath say what a caller gets, the others are what they and the contracts stand on.
pub mod StartFacts
pub mod TrialFacts
pub mod StepFacts
pub mod RatioFacts
pub mod BackwardFacts
pub mod NoStartFacts
pub mod Outcome
pub mod RealPath
pub mod Examples
