pub mod LogicalLines
pub mod Signs
pub mod Tokens
pub mod Forward
pub mod Spans
pub mod InOrder
pub mod TextWords
