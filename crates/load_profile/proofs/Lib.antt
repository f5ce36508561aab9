pub mod Peaks
mod ExampleFacts
