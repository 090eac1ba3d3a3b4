-- What the functions rest on.
pub mod AheadFacts
pub mod TallyFacts
pub mod PassedFacts
pub mod ServeFacts
pub mod RowFacts
