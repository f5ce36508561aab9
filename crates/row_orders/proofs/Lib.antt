pub mod Once
pub mod Moved
pub mod CarriedBack
pub mod Meeting
pub mod Sorting
mod ExampleFacts
