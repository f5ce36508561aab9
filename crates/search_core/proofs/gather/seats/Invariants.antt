use Rattle.std.proofs.Common.{List, length}
use Rattle.search_core.proofs.Words.{Line}
use Rattle.search_core.specs.Descents.{sky_root}
use Rattle.search_core.proofs.Gathering.{IsGathering}
use Rattle.search_core.proofs.gather.seats.Given as goal

abbrev pub decreases-loop-kept : goal.decreases-loop-kept
decreases-loop-kept l = length l.path.frames

abbrev pub invariant-loop-kept : goal.invariant-loop-kept
invariant-loop-kept l = (lines : List Line) ×
    IsGathering l.task.instance.now l.task.capacity lines (sky_root l.fn.path.sky) l.path l.offsets.items
