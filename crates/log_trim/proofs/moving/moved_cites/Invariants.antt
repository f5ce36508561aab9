use Rattle.std.proofs.Common.{◌≡◌, map, take, slice_index}
use Rattle.dsa_terms.specs.Trims.{moved_cite}
use Rattle.refute_log.specs.Lines.{cite_value}
use Rattle.log_trim.proofs.moving.moved_cites.Given as goal

abbrev pub invariant-loop-cite : goal.invariant-loop-cite
invariant-loop-cite l =
    map cite_value l.moved.items ≡ map (moved_cite (slice_index l.numbers)) (map cite_value (take l.cite-index l.cites))
