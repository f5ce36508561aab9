pub mod Readings
pub mod Course
pub mod Answers
pub mod Prepares
pub mod Complete
