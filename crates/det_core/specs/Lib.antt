pub mod Faults
pub mod Automata
pub mod Languages
pub mod Codes
pub mod Filling
