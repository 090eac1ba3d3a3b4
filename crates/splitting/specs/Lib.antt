-- The definitions, by topic.
pub mod Lines
pub mod Cut
pub mod Count
pub mod State
pub mod Serving
