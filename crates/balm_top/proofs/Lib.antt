pub mod Stopped
pub mod Reading
pub mod Solving
pub mod Answered
