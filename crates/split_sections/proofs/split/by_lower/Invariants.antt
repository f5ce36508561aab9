use Rattle.std.proofs.Common.{◌≡◌, map}
use Rattle.dsa_terms.specs.Parts.{numbers}
use Rattle.split_sections.specs.Sweep.{lower_entry}
use Rattle.split_sections.proofs.split.by_lower.Given as goal

abbrev pub invariant-loop-b : goal.invariant-loop-b
invariant-loop-b l = l.order.items ≡ map (lower_entry l.instance) (numbers l.b)
