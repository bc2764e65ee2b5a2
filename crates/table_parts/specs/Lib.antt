pub mod TableParts
pub mod Columns
pub mod Held
