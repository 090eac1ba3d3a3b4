-- What the functions rest on, and what a page comes to.
pub mod CellFacts
pub mod PartFacts
pub mod SaidFacts
pub mod StepFacts
pub mod ListFacts
pub mod SumFacts
pub mod JoinFacts
pub mod BoundFacts
pub mod PageFacts
