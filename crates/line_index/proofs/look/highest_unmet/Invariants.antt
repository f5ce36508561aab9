use Rattle.std.proofs.Common.{◌≡◌, ◌<◌, IfNone, IfSome, slice_index, take}
use Rattle.dsa_terms.specs.Claims.{Entry, IsIn}
use Rattle.line_index.specs.Looks.{IsUnmet}
use Rattle.line_index.proofs.look.highest_unmet.Given as goal

abbrev pub invariant-loop-pair : goal.invariant-loop-pair
invariant-loop-pair l = record {
  some : IfSome l.highest (IsUnmet l.k l.levels);
  none : (e : Entry) → IsIn e (take l.pair-index l.k) → 0 < slice_index l.levels e.0 →
      IfNone l.highest (e.1 < slice_index l.levels e.0);
  most : IfNone l.highest (l.most ≡ 0);
}
