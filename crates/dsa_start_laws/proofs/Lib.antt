pub mod Piles
pub mod OverLines
pub mod Stacks
pub mod BoundModuli
pub mod Bounds
pub mod Loads
pub mod Places
pub mod Fits
pub mod Orders
pub mod Ranges
pub mod Tightest
pub mod Planned
pub mod Peaks
mod ExampleFacts
mod PlanFacts
mod FittingFacts
mod ReachingFacts
