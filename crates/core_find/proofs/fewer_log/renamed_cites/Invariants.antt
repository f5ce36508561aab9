use Rattle.std.proofs.Common.{◌≡◌, map, take, slice_index}
use Rattle.refute_log.specs.Lines.{cite_value}
use Rattle.core_find.specs.Carried.{renamed_cite}
use Rattle.core_find.proofs.fewer_log.renamed_cites.Given as goal

abbrev pub invariant-loop-cite : goal.invariant-loop-cite
invariant-loop-cite l =
    map cite_value l.renamed.items
    ≡ map (renamed_cite (slice_index l.numbers)) (map cite_value (take l.cite-index l.cites))
