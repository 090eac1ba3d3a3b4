-- The definitions, by topic.
pub mod Layout
pub mod Digits
pub mod Over
pub mod Asking
pub mod Writing
pub mod Reading
