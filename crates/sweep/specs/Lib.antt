-- The definitions, by topic.
pub mod Text
pub mod Turn
