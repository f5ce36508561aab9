pub mod SectionFacts
pub mod Standing
pub mod Places
pub mod Tops
pub mod Carrying
pub mod Lefts
pub mod Steps
pub mod Marks
pub mod Loads
pub mod LoadSteps
pub mod Overloads
pub mod ExampleFacts
pub mod LowsBy
pub mod Bounds
pub mod Turns
mod ClaimFacts
mod StackFacts
