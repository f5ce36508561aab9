pub mod Climbs
pub mod Stacked
mod ExampleFacts
