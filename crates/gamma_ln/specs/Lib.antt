-- The definitions that other crates cite, by topic.
pub mod Coefficients
pub mod Series
pub mod Factors
pub mod GammaLn
pub mod LogGamma
