pub mod Piles
pub mod Orders
pub mod Tallest
pub mod Tallying
pub mod AllTallies
pub mod Whole
pub mod CrudeBounds
pub mod Candidates
pub mod Raising
pub mod SoFar
pub mod Reaching
pub mod FirstSection
pub mod Lines
pub mod StackFacts
pub mod MomentFacts
mod BoundFacts
