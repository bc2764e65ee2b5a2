pub mod Meaning
pub mod Levels
pub mod Words
pub mod Recursion
