-- The definitions that other crates cite, by topic.
pub mod Setting
pub mod Descent
pub mod Leading
pub mod Mark
pub mod Seed
pub mod Recurred
pub mod Step
