pub mod Fronts
pub mod Limited
