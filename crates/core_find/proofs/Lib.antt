pub mod Renamed
pub mod Within
pub mod Some
pub mod Left
pub mod Removed
pub mod Looked
pub mod LeftOut
pub mod Steps
pub mod Named
pub mod Without
pub mod Carried
pub mod Carrying
pub mod Alone
mod CarriedFacts
mod ExampleFacts
mod FoundFacts
mod StackFacts
mod LookingFacts
pub mod Bounding
