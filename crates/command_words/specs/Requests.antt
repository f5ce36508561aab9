-- What the words of a command line ask for, or their first fault.
use Rattle.std.specs.Prelude.{List, [], ◌∷◌, map, Option, Result, Ok, Err}
use Rattle.std.specs.List.{filter_map}
use Rattle.std.specs.Option.{option_map_or}
use Rattle.dsa_terms.specs.Firsts.{when, first_fault}
use Rattle.command_words.specs.Options.{Word}
use Rattle.command_words.specs.Forms.{file_of, form_of, verb_of}
use Rattle.command_words.specs.Pairs.{Pair, pairs_of, pairs_fault, missing_fault, has_equal, name_in}
use Rattle.command_words.specs.declared.verb.Verb.{Verb}
use Rattle.command_words.specs.declared.fault.UsageFault.{UsageFault}
use Rattle.command_words.specs.declared.fault.UsageFault.TheVariants as fault

-- a command with the pairs of its options and their values
pub record Request : Type 0 where
  pub verb : Verb
  pub pairs : List Pair

-- the names of its files
abbrev pub names_of : Request → List Word
names_of r = map (name_in r.pairs) (filter_map file_of (form_of r.verb).needed)

-- its first fault: in a pair, then an option that is missing, then two equal names
abbrev pub request_fault : Request → Option UsageFault
request_fault r = first_fault (pairs_fault r.verb [] r.pairs ∷ missing_fault r.verb r.pairs
    ∷ when (has_equal (names_of r)) fault.SameName ∷ [])

-- the request, or its first fault
abbrev pub request_or_fault : Request → Result Request UsageFault
request_or_fault r = option_map_or Err (request_fault r) (Ok r)

-- the command that words ask for, or their first fault
abbrev pub request_of : List Word → Result Request UsageFault
request_of [] = Err fault.NoCommand
request_of (word ∷ words) = option_map_or (λ verb. request_or_fault (record { verb = verb; pairs = pairs_of words }))
    (verb_of word) (Err fault.UnknownCommand)
