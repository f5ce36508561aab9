use Rattle.std.proofs.Common.{◌≡◌, ◌-◌, take, map, string_bytes}
use Rattle.std.specs.List.{list_any}
use Rattle.std.specs.Str.{bytes_eq}
use Rattle.command_words.specs.Pairs.{Pair, pairs_of}
use Rattle.command_words.proofs.pair.has_option.Given as goal

-- the option is among the pairs that are left, where it is among them all
abbrev pub invariant-loop : goal.invariant-loop
invariant-loop l =
    list_any (λ (p : Pair). bytes_eq p.option l.option) (take l.fn.pairs (pairs_of (map string_bytes l.fn.words)))
    ≡ list_any (λ (p : Pair). bytes_eq p.option l.option)
    (take (l.pairs - l.counter) (pairs_of (map string_bytes l.rest)))
