pub mod Free
pub mod Orders
pub mod Early
pub mod Ends
pub mod Turns
