-- The claims, and the rows of calls to try that are proved.
pub mod Determined
pub mod Routines
pub mod Complexes
pub mod Steps
pub mod Numbers
pub mod LogGammaNumbers
pub mod Rows
pub mod Lines
pub mod Sweeps
pub mod Pages
pub mod Claims
pub mod Whole
