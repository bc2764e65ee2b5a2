pub mod Nodes
pub mod Canonical
pub mod Growth
pub mod Keys
pub mod Ends
