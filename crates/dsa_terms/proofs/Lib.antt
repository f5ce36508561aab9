pub mod Numbers
pub mod NumberTests
pub mod Lists
pub mod Places
pub mod Ranges
pub mod Moments
pub mod Examples
mod ExampleFacts
mod ExampleSearchFacts
mod ExampleBoundFacts
pub mod ExampleLowFacts
mod ExampleStartFacts
mod LayoutFacts
pub mod ClaimFacts
mod PartFacts
pub mod FitFacts
mod SearchFacts
mod LogFacts
pub mod ExamplePlanFacts
