-- The theorems, by topic.
pub mod ClimbFacts
pub mod FillFacts
pub mod FirstFacts
pub mod LimitFacts
pub mod OffScaleFacts
pub mod RungFacts
pub mod SearchFacts
pub mod StateFacts
pub mod StretchFacts
