mod Concluding
pub mod ExampleFacts
pub mod CoreFacts
