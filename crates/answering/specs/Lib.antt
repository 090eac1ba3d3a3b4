-- The definitions, by topic.
pub mod Called
pub mod Line
pub mod Fields
pub mod Lines
pub mod Feed
