pub mod Accepted
pub mod Marks
pub mod Rounds
