pub mod Counting
pub mod Writing
pub mod Meanings
pub mod ExampleFacts
