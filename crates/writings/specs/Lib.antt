pub mod Writings
pub mod Named
pub mod Answers
