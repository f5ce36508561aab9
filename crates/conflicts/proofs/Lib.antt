pub mod Stacking
pub mod Looking
pub mod ListSteps
pub mod LowerClaims
pub mod LeastBounds
pub mod OwnCites
pub mod Walking
pub mod Easings
pub mod OverLines
pub mod CasesLines
pub mod ExampleFacts
mod LowerCasesFacts
