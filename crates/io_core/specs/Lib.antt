pub mod Causes
pub mod Files
pub mod Gained
pub mod Memory
