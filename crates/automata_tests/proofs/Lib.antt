pub mod Asking
pub mod Ruling
