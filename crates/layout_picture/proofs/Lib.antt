pub mod Turns
pub mod Escaping
pub mod Runs
pub mod Summing
pub mod Putting
pub mod Whole
pub mod Showing
pub mod Apart
pub mod Colouring
pub mod Parting
pub mod SideOrder
pub mod SideLists
pub mod Meeting
pub mod Stacking
pub mod Following
pub mod PairLemmas
pub mod ExampleFacts
pub mod SideFacts
mod ShownFacts
mod MetFacts
mod TextFacts
