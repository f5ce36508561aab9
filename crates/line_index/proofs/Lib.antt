pub mod Meeting
pub mod Looking
pub mod Rising
pub mod Finding
pub mod WatchLemmas
mod ItemLemmas
mod WatchRows
mod RowSearch
pub mod WatchFacts
mod RowFacts
mod WatchingFacts
mod ExampleFacts
