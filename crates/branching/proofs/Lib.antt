pub mod AllBranches
pub mod Along
pub mod CasesLines
pub mod ChoiceEntries
mod CiteFacts
pub mod Computing
pub mod Descent
mod EndingFacts
pub mod Ends
pub mod FirstChoice
pub mod FullSections
pub mod Growing
pub mod KnownFacts
pub mod Least
pub mod LeftEntries
pub mod LiftedClaims
mod LogFacts
pub mod Noted
pub mod Order
pub mod OverFacts
pub mod Searching
pub mod TallLevels
pub mod TallLines
pub mod TryFacts
mod TwinFacts
pub mod TwinMarking
pub mod TwinWalks
pub mod Uncovered
pub mod Words
pub mod Working
