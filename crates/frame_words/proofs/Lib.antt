pub mod Named
pub mod Order
pub mod Parted
pub mod Spelt
