-- What the functions rest on, and that a number has one text.
pub mod DecimalFacts
