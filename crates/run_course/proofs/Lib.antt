pub mod Since
mod TwoWrites
mod Performing
pub mod Silently
pub mod Concluding
mod ExampleFacts
mod LeftFacts
mod ReadingFacts
mod PreparedFacts
