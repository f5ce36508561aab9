pub mod Placing
pub mod Claims
pub mod Complete
mod Choices
pub mod Moves
pub mod Weights
pub mod First
pub mod Packing
pub mod Logs
pub mod Search
pub mod Cuts
pub mod Uncut
pub mod Rising
pub mod InTime
pub mod ByTime
pub mod Members
pub mod Parts
pub mod PartLists
pub mod Totals
pub mod Plans
pub mod LineTests
mod ExampleClaimFacts
mod ExampleLogFacts
mod ExampleLowFacts
mod ExampleLeanFacts
mod PlacementFacts
mod SearchFacts
mod PartsByTimeFacts
