mod Drawn
mod ExampleFacts
