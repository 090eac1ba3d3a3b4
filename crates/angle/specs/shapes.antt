-- How it is computed, not what: what the parts of the code ask of each other.
pub mod Range
