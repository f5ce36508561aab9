use Rattle.std.proofs.Common.{◌≡◌, ◌-◌, length, map}
use Rattle.std.specs.List.{range_with_len}
use Rattle.dsa_terms.specs.Firsts.{first_fault}
use Rattle.dsa_plan.specs.Arrays.{arrays_of, buffer_at, gaps_before}
use Rattle.dsa_plan.specs.Faults.{buffers_fault, fault_at}
use Rattle.dsa_plan.proofs.building.buffers.Given as goal

-- the first buffers are built, and none of them has a fault
abbrev pub invariant-loop-b : goal.invariant-loop-b
invariant-loop-b l = let a = arrays_of l.arrays in record {
  built : l.instance ≡ map (buffer_at a) (range_with_len 0 l.b);
  gaps : l.first ≡ gaps_before a l.b;
  sound : buffers_fault a ≡ first_fault (map (fault_at a) (range_with_len l.b (length a.lower - l.b)));
}
