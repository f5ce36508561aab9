use Rattle.std.proofs.Common.{◌≡◌, count_by, nat_lt, not, take}
use Rattle.dsa_terms.specs.Buffers.{Buffer}
use Rattle.dsa_terms.specs.Parts.{is_empty}
use Rattle.column_report.proofs.counts.counts_of.Given as goal

abbrev pub invariant-loop-b : goal.invariant-loop-b
invariant-loop-b l = record {
  aligned : l.aligned ≡ count_by (λ (x : Buffer). nat_lt 1 x.alignment) (take l.b l.instance);
  gaps : l.gaps ≡ count_by (λ (x : Buffer). not (is_empty x.gaps)) (take l.b l.instance);
  lowest : l.lowest ≡ count_by (λ (x : Buffer). nat_lt 0 x.lowest) (take l.b l.instance);
}
