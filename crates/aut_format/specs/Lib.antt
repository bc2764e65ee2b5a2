pub mod Fields
pub mod Rows
pub mod Counts
pub mod Memos
