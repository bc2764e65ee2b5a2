pub mod NameLists
pub mod Seven
