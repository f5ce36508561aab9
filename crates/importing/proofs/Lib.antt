mod Importing
mod Unrolling
mod ExampleFacts
mod UnrollFacts
