-- A request that has no fault.
use Rattle.std.proofs.Common.{◌≡◌, false, List, [], ◌∷◌, map, find, Some, None, is_none, Ok, refl}
use Rattle.std.specs.List.{filter_map}
use Rattle.command_words.specs.Options.{Word}
use Rattle.command_words.specs.Forms.{file_of, form_of, option_of, verb_of}
use Rattle.command_words.specs.Pairs.{has_equal, pairs_fault, pairs_of, value_of, name_in}
use Rattle.command_words.specs.Requests.{request_of}
use Rattle.command_words.specs.declared.verb.Verb.{Verb}

pub request_without_fault : (word : Word) (words : List Word) (verb : Verb) → Some verb ≡ verb_of word
    → None ≡ pairs_fault verb [] (pairs_of words)
    → None ≡ find (λ o. is_none (value_of (pairs_of words) o)) (map option_of (form_of verb).needed)
    → false ≡ has_equal (map (name_in (pairs_of words)) (filter_map file_of (form_of verb).needed))
    → request_of (word ∷ words) ≡ Ok (record { verb = verb; pairs = pairs_of words })
request_without_fault word words verb v pairs missing apart = rw (← v, ← pairs, ← missing, ← apart) refl
