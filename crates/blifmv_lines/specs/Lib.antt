pub mod InsOuts
pub mod Places
pub mod Said
