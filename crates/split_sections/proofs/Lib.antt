pub mod Kept
pub mod Cuts
pub mod Sweeping
pub mod Order
pub mod Beginnings
pub mod Grouping
pub mod ExampleFacts
mod OrderFacts
