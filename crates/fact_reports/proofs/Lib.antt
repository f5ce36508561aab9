pub mod Shown
mod ExampleFacts
