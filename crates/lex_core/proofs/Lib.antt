mod Fronts
mod Standing
mod Agreement
pub mod Made
