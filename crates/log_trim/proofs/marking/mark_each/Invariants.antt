use Rattle.std.proofs.Common.{map, take}
use Rattle.std.specs.List.{flat_map}
use Rattle.dsa_trim_laws.specs.Trimmed.{cited_line}
use Rattle.refute_log.specs.Lines.{cite_value}
use Rattle.log_trim.specs.Marks.{AreMarkedToo}
use Rattle.log_trim.proofs.marking.mark_each.Given as goal

abbrev pub invariant-loop-cite : goal.invariant-loop-cite
invariant-loop-cite l = AreMarkedToo (flat_map cited_line (map cite_value (take l.cite-index l.cites))) l.initial.marks
    l.marks
