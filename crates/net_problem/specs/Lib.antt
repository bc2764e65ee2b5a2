pub mod Building
pub mod ProblemBits
