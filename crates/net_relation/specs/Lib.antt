pub mod Relations
pub mod Projections
pub mod States
