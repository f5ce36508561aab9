mod LogOutcomes
mod TrimmedLogs
mod UpgradedLogs
mod ExampleFacts
