use Rattle.std.proofs.Common.{◌≡◌, ◌++◌, List}
use Rattle.std.specs.List.{All}
use Rattle.csv_instance.specs.Records.{HasShortFields, Record}
use Rattle.csv_instance.specs.Gives.{Gives}
use Rattle.csv_instance.proofs.growing.fill.Given as goal

abbrev pub invariant-loop-row : goal.invariant-loop-row
invariant-loop-row g l = (left : List Record) × Gives l.row-iterator left × All HasShortFields left
    × ((all : List Record) → Gives l.fn.records all →
    g.G.Grows.records l.fn.start ++ all ≡ g.G.Grows.records l.grown ++ left)
