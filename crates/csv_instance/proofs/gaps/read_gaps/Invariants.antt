use Rattle.std.proofs.Common.{◌≡◌, ◌++◌, ◌≤◌, length, drop, map, option_map}
use Rattle.csv_instance.specs.Gaps.{all_some, gap_of, gaps_of}
use Rattle.csv_instance.proofs.gaps.read_gaps.Given as goal

-- the gaps so far, and those of the pieces that are left
abbrev pub invariant-loop-piece : goal.invariant-loop-piece
invariant-loop-piece l =
    (gaps_of l.fn.field ≡ option_map (λ more. l.gaps.items ++ more)
    (all_some (map (λ piece. gap_of piece.now) (drop l.piece-index l.piece-items))))
    × (length l.gaps.items ≤ l.piece-index)
