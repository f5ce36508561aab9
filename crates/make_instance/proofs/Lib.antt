pub mod DrawLemmas
pub mod LineLemmas
pub mod MadeRows
pub mod RowFaults
pub mod TextLemmas
pub mod Growth
pub mod ParseLaw
pub mod ExampleFacts
