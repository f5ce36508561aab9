mod Shares
mod ExampleFacts
