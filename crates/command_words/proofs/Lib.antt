mod CommandFacts
mod ExampleFacts
pub mod FileLemmas
mod FaultFacts
pub mod NameLemmas
pub mod PairLemmas
pub mod RequestLemmas
mod TextFacts
