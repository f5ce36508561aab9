pub mod Filling
pub mod Living
pub mod Writing
mod ExampleFacts
mod ReportFacts
