-- What the functions rest on, and what is shown of the outcomes besides.
pub mod CallFacts
pub mod CheckFacts
pub mod ArgumentFacts
pub mod SeriesFacts
pub mod SeriesOutcome
pub mod SumsEnd
pub mod LogGammas
pub mod KernelFacts
pub mod KernelOutcome
pub mod KernelSums
pub mod CountBounds
pub mod OffHalf
pub mod ZeroSigns
pub mod Rows
