pub mod Lines
pub mod PrintedNets
