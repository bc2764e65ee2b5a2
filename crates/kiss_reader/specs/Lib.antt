pub mod Above
pub mod Columns
pub mod Header
pub mod KissFaults
pub mod Read
pub mod Said
pub mod SecondPass
