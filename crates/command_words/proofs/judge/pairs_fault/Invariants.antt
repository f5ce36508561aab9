use Rattle.std.proofs.Common.{◌≡◌, ◌+◌, ◌≤◌, [], take, drop, length, map, string_bytes}
use Rattle.command_words.specs.Pairs.{pairs_of, pairs_fault}
use Rattle.command_words.proofs.judge.pairs_fault.Given as goal

-- the fault is that of the pairs that are left, after the earlier ones
abbrev pub invariant-loop-pair : goal.invariant-loop-pair
invariant-loop-pair l =
    let pairs = pairs_of (map string_bytes l.words) in
    (pairs_of (map string_bytes l.rest) ≡ drop l.earlier pairs)
    × (pairs_fault l.verb [] pairs ≡ pairs_fault l.verb (take l.earlier pairs) (drop l.earlier pairs))
    × (l.earlier + length l.rest ≤ length l.words)

abbrev pub decreases-loop-pair : goal.decreases-loop-pair
decreases-loop-pair l = length l.rest
