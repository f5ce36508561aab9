use Rattle.std.proofs.Common.{◌≡◌, drop, max}
use Rattle.dsa_terms.specs.Logs.{greatest}
use Rattle.layout_picture.proofs.frame.greatest.Given as goal

abbrev pub invariant-loop-n : goal.invariant-loop-n
invariant-loop-n l = max l.most (greatest (drop l.n-index l.numbers)) ≡ greatest l.numbers
