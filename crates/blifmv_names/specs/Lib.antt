pub mod Limits
pub mod Signals
pub mod LineFaults
