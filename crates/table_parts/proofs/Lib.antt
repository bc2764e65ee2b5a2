pub mod Spelled
pub mod Sides
pub mod Known
pub mod Kept
