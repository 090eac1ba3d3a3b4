-- How it is computed, not what: forms that only the code's speed needs, each proved equal to what the definitions beside this folder say.
pub mod Correction
pub mod Operations
pub mod Ratio
pub mod Steps
