use Rattle.std.proofs.Common.{◌≡◌, ◌<◌, ℕ, true, false, length, slice_index_or, vec_len}
use Rattle.lifetime.specs.SectionList.{sections_of}
use Rattle.skyline.proofs.rooms.make_rows.Given as goal

abbrev pub invariant-loop-b : goal.invariant-loop-b
invariant-loop-b l = record {
  count : length l.rows.items ≡ l.b;
  rooms : (b : ℕ) (d : _) → b < l.b → slice_index_or l.members b false ≡ true →
      vec_len (slice_index_or l.rows.items b d) ≡ length (sections_of l.sections b);
}
