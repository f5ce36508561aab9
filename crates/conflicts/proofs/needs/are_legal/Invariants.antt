use Rattle.std.proofs.Common.{map, drop}
use Rattle.std.specs.List.{AllZip}
use Rattle.dsa_terms.specs.Logs.{IsLegalCite}
use Rattle.refute_log.specs.Lines.{cite_value}
use Rattle.conflicts.proofs.needs.are_legal.Given as goal

abbrev pub invariant-loop-place : goal.invariant-loop-place
invariant-loop-place l =
    let I = l.lows.instance.now in
    let k = l.lows.claim.now in
    AllZip (IsLegalCite I l.log.lines k) (drop l.place k) (drop l.place (map cite_value l.cites)) →
    AllZip (IsLegalCite I l.log.lines k) k (map cite_value l.cites)
