pub mod Agreeing
pub mod Backward
pub mod Counted
pub mod Faultless
pub mod Knowing
pub mod Marking
pub mod Passing
pub mod Rounds
