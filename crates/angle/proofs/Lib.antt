pub mod AngleFacts
pub mod Arc
pub mod Ends
pub mod Literals
pub mod Magnitude
pub mod Sides
pub mod Step
pub mod Tests
