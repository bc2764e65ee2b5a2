pub mod Cuts
pub mod Least
pub mod Lending
pub mod Paths
pub mod Splits
pub mod Splitting
pub mod Walk
