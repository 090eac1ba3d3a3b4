-- What follows of any list of checks, and of the limits.
pub mod FirstFacts
pub mod LimitFacts
pub mod WhichLimit
