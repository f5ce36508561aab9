use Rattle.std.proofs.Common.{◌≡◌, ◌*◌, ◌≤◌, ◌^◌, take, slice_index_or, false}
use Rattle.std.specs.List.{filter, sum_by}
use Rattle.dsa_terms.specs.Buffers.{buffer}
use Rattle.skyline.proofs.rooms.load_of.Given as goal

abbrev pub invariant-loop-i : goal.invariant-loop-i
invariant-loop-i l = record {
  sum : l.load ≡ sum_by (λ b. (buffer l.instance b).size) (filter (λ b. slice_index_or l.free b false)
      (take l.i l.members));
  small : l.load ≤ l.i * 2 ^ 40;
}
