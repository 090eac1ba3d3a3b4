-- The definitions, by topic.
pub mod Climb
pub mod Fill
pub mod First
pub mod Rule
pub mod Rung
pub mod Search
pub mod State
pub mod Trial
pub mod shapes
