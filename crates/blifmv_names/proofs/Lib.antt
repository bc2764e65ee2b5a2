mod Agreeing
pub mod Backward
pub mod Faultless
pub mod Gathered
pub mod Given
pub mod Keyed
pub mod Mentions
pub mod Placed
pub mod Taken
pub mod Within
