pub mod Relations
pub mod Tables
pub mod Subsets
pub mod Preparing
pub mod Placing
