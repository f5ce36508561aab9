pub mod Picked
pub mod Needed
pub mod Trims
pub mod ExampleFacts
