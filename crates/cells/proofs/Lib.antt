-- What filling a slice and looking through it rest on.
pub mod AllFiniteFacts
pub mod FillFacts
pub mod NoughtFacts
