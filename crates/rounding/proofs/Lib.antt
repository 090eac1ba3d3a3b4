-- The nearest whole number of a fraction, that of a value by its fields, what follows of `round_of`, and what it leaves over.
pub mod Halves
pub mod Fields
pub mod RoundFacts
pub mod Rest
