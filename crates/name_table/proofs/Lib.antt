pub mod Apart
pub mod Chosen
pub mod Copied
pub mod Found
pub mod Numbered
pub mod Ordered
pub mod Powers
pub mod Shown
