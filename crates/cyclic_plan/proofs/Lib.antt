pub mod Rounds
pub mod Wraps
pub mod Tables
mod ExampleFacts
