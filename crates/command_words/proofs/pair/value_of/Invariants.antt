use Rattle.std.proofs.Common.{◌≡◌, length, map, string_bytes}
use Rattle.command_words.specs.Pairs.{pairs_of, value_of}
use Rattle.command_words.proofs.pair.value_of.Given as goal

-- the words that are left give the option what all give it
abbrev pub invariant-loop-pair : goal.invariant-loop-pair
invariant-loop-pair l = value_of (pairs_of (map string_bytes l.fn.words)) l.fn.option
    ≡ value_of (pairs_of (map string_bytes l.rest)) l.fn.option

abbrev pub decreases-loop-pair : goal.decreases-loop-pair
decreases-loop-pair l = length l.rest
