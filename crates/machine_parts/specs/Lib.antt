pub mod MachineParts
pub mod Coded
