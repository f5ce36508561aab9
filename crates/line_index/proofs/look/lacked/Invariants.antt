use Rattle.std.proofs.Common.{◌<◌, slice_index, take}
use Rattle.dsa_terms.specs.Claims.{Entry, IsIn}
use Rattle.line_index.proofs.look.lacked.Given as goal

abbrev pub invariant-loop-pair : goal.invariant-loop-pair
invariant-loop-pair l = (e : Entry) → IsIn e (take l.pair-index l.k) → 0 < slice_index l.levels e.0
