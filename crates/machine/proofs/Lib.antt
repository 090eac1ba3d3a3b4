-- What tells a not-a-number, of a value and of a pattern, what the test of finiteness rests on, and magnitudes.
pub mod Difference
pub mod MagnitudeFacts
pub mod NotANumber
