mod ExampleFacts
