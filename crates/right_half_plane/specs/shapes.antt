-- How it is computed, not what: the shapes that only the code's speed asks for.
pub mod Growth
pub mod Led
