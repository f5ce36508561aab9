use Rattle.std.proofs.Common.{length}
use Rattle.log_text.specs.RawTexts.{cite_text}
use Rattle.log_text.specs.Reading.{capped_cite}
use Rattle.log_text.proofs.ListLemmas.{IsReadSoFar}
use Rattle.log_text.proofs.items.read_cites.Given as goal

abbrev pub invariant-loop-cursor : goal.invariant-loop-cursor
invariant-loop-cursor l = IsReadSoFar cite_text capped_cite l.fn.cursor l.room.items l.cursor

abbrev pub decreases-loop-cursor : goal.decreases-loop-cursor
decreases-loop-cursor l = length l.cursor
