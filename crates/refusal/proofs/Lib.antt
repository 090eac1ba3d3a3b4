-- What the numbers rest on.
pub mod Distinct
