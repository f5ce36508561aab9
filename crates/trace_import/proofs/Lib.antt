pub mod Events
pub mod Splits
pub mod Words
pub mod Holders
pub mod FoundLemmas
pub mod TraceLemmas
pub mod ReadLemmas
pub mod EndLemmas
pub mod RowLemmas
pub mod Held
pub mod Refusals
pub mod Imported
pub mod Parses
pub mod Accepted
pub mod ShortText
pub mod ExampleFacts
mod LineFacts
mod KeptFacts
mod HeldFacts
