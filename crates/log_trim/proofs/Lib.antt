pub mod Marked
pub mod Keeping
pub mod Ended
mod ExampleFacts
