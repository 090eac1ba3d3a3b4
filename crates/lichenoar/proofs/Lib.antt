-- What the functions rest on, and what the program comes to.
pub mod BufferFacts
pub mod TurnFacts
pub mod ServeFacts
pub mod FrameFacts
