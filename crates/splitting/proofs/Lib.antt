-- What the functions rest on, and what an input comes to.
pub mod CutFacts
pub mod CountFacts
pub mod KeepFacts
pub mod EndedFacts
pub mod StateFacts
