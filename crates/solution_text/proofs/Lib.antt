pub mod GoodNames
pub mod Solved
