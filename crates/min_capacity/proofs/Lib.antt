pub mod Halvings
pub mod Narrowing
pub mod Counting
pub mod ExampleFacts
mod NarrowFacts
