pub mod Closure
pub mod Listed
pub mod Marking
pub mod Named
pub mod Tabled
