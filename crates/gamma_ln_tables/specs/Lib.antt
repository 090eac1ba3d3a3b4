-- The tables.
pub mod Tables
