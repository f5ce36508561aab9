use Rattle.std.proofs.Common.{List, map}
use Rattle.std.specs.List.{AllZip}
use Rattle.dsa_terms.specs.Lean.{CitesOwn}
use Rattle.dsa_terms.specs.Logs.{IsLegalCite, Line}
use Rattle.refute_log.specs.Lines.{cite_value}
use Rattle.conflicts.proofs.ListSteps.{Grows}
use Rattle.conflicts.proofs.cites.eased_cites.Given as goal

abbrev pub invariant-loop-place : goal.invariant-loop-place
invariant-loop-place l =
    let I = l.lows.instance.now in
    let k = l.lows.claim.now in
    record {
      own : Grows (CitesOwn I k) k l.place (map cite_value l.eased.items);
      legal : (earlier : List Line) → AllZip (IsLegalCite I earlier k) k (map cite_value l.cites) →
          Grows (IsLegalCite I earlier k) k l.place (map cite_value l.eased.items);
    }
