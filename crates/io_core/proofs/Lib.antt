pub mod Gained
pub mod Pieces
pub mod Places
