pub mod Columns
pub mod Drafted
pub mod Faultless
pub mod Passed
pub mod Read
