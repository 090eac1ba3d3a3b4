-- The definition. What stands in shapes is how it is computed, not what.
pub mod Angle
pub mod shapes
