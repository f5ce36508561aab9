mod DraftFacts
pub mod ExampleFacts
pub mod FileMaps
pub mod Lookups
mod StateFacts
pub mod Untold
pub mod Written
