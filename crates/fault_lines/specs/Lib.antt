pub mod Lines
pub mod Statuses
pub mod Stops
pub mod Told
