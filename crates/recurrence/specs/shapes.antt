-- How it is computed, not what: the shapes that only the code's speed asks for.
pub mod Course
pub mod Held
pub mod Stretch
