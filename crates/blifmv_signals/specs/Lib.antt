pub mod Marked
pub mod SignalFaults
