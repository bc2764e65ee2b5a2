pub mod Layouts
pub mod Sets
pub mod Spots
pub mod Fields
