pub mod Frames
pub mod Placing
pub mod Making
