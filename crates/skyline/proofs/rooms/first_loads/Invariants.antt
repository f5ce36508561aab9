use Rattle.std.proofs.Common.{◌≡◌, ◌<◌, ℕ, length, slice_index, slice_index_or, false}
use Rattle.std.specs.List.{filter, sum_by}
use Rattle.dsa_terms.specs.Buffers.{buffer}
use Rattle.lifetime.specs.SectionList.{members_of}
use Rattle.skyline.proofs.rooms.first_loads.Given as goal

abbrev pub invariant-loop-s : goal.invariant-loop-s
invariant-loop-s l = record {
  count : length l.loads.items ≡ l.s;
  loads : (s : ℕ) → s < l.s → slice_index l.loads.items s ≡ sum_by (λ b. (buffer l.instance b).size)
      (filter (λ b. slice_index_or l.free b false) (members_of l.sections s));
}
