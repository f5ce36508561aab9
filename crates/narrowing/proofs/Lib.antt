pub mod Narrowing
mod ExampleFacts
