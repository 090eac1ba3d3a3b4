-- What the functions rest on, and what the program comes to.
pub mod TextFacts
pub mod TurnFacts
pub mod ChunkFacts
pub mod ServeFacts
