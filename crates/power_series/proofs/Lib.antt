-- The theorems, by topic.
pub mod WalkFacts
pub mod PairFacts
pub mod VisitFacts
pub mod SeriesFacts
pub mod VisitBound
pub mod VisitSums
pub mod UnitFacts
pub mod AloneFacts
