-- The width of a subnormal, the patterns that the code reads, what `ln_of` is by cases, the tables' columns, and what follows of `ln_of`.
pub mod Width
pub mod Cases
pub mod Column
pub mod LnFacts
