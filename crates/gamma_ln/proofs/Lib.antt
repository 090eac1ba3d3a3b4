-- What the functions rest on, and what is shown of log-gamma besides.
pub mod Arguments
pub mod AtOne
pub mod LogGammaFacts
pub mod LowerEnd
pub mod OneWay
pub mod SeriesEnds
pub mod Counts
pub mod Nearest
