pub mod Letters
pub mod Levels
