pub mod Products
pub mod Codes
pub mod Files
pub mod Safe
pub mod Composed
