pub mod Moves
pub mod Words
pub mod Digits
pub mod Encodings
pub mod Completions
pub mod Reading
pub mod Runs
