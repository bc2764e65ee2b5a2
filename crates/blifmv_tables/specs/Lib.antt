pub mod Drafts
pub mod Reading
pub mod RowFaults
pub mod Saying
