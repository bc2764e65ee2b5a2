pub mod Names
pub mod Solutions
