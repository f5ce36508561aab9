pub mod Opening
pub mod AfterInput
pub mod JudgedLayouts
pub mod CheckedLogs
mod Faulty
pub mod ExampleFacts
pub mod SampleFacts
pub mod LogFacts
mod GivenFacts
mod RefusedFacts
