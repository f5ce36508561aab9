use Rattle.std.proofs.Common.{◌≡◌}
use Rattle.std.specs.List.{filter}
use Rattle.dsa_terms.specs.Parts.{numbers}
use Rattle.lower_bounds.specs.Stacks.{counts_at}
use Rattle.lower_bounds.proofs.Lines.{lifted}
use Rattle.lower_bounds.proofs.one_line.lifted.Given as goal

abbrev pub invariant-loop-b : goal.invariant-loop-b
invariant-loop-b l =
    l.pairs.items
    ≡ lifted l.height (filter (counts_at l.instance l.bound.moment l.bound.height l.bound.modulus) (numbers l.b))
