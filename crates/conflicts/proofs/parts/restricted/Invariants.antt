use Rattle.std.proofs.Common.{◌≡◌, ◌++◌, drop, filter, length, slice_index_or, false}
use Rattle.dsa_terms.specs.Claims.{Entry}
use Rattle.conflicts.proofs.parts.restricted.Given as goal

abbrev pub invariant-loop-place : goal.invariant-loop-place
invariant-loop-place l =
    let k = l.lows.claim.now in
    let p = λ (e : Entry). slice_index_or l.marks e.0 false in
    record {
      left : l.pairs.items ++ filter p (drop l.place k) ≡ filter p k;
      each : length l.kept.items ≡ length l.pairs.items;
    }
