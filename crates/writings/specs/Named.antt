-- The names that the program holds.
use Rattle.writings.specs.Writings as words
use Rattle.writings.specs.declared.names.Names.{Names}

-- what they stand for
abbrev pub names_of : Names → words.Names
names_of n = record { input = n.input.now; output = n.output.now; log = n.log.now }
