pub mod Largest
pub mod Letters
pub mod OneFile
pub mod OneNet
pub mod Computed
pub mod Taken
pub mod Outlined
pub mod Counting
