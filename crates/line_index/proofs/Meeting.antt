-- What the levels of a claim say of bounds: the claim meets a bound exactly where it is below the buffer's level.
use Rattle.std.proofs.Common.{◌≡◌, ℕ, ◌+◌, ◌<◌, ◌≤◌, List, slice_index, arith}
use Rattle.dsa_terms.specs.Buffers.{Instance}
use Rattle.dsa_terms.specs.Claims.{Claim, Entry, up}
use Rattle.canonical_order.specs.Claims.{CoversEntry, HasBuffer, entry_of}
use Rattle.canonical_order.specs.Levels.{AreLevels}
use Rattle.canonical_order.proofs.CoverLemmas.{covers_entry, from_covered}
use Rattle.canonical_order.proofs.LevelLemmas.{has_level, level_inside}

module _ (I : Instance) (l : Claim) (levels : List ℕ) (h : AreLevels I l levels) where
  pub meets : (e : Entry) → e.1 < slice_index levels e.0 → CoversEntry I l e
  meets e lt =
      let i : HasBuffer l e.0 = has_level I l levels h e.0 (omega arith) in
      covers_entry I l e i
      (let k : slice_index levels e.0 ≡ up I (entry_of l e.0) + 1 = level_inside I l _ h e.0 i in omega arith)

  pub is_met : (e : Entry) → CoversEntry I l e → e.1 < slice_index levels e.0
  is_met e c =
      let r = from_covered I l e h.claim.rises c in
      let k : slice_index levels e.0 ≡ up I (entry_of l e.0) + 1 = level_inside I l _ h e.0 r.0 in
      let q : e.1 ≤ up I (entry_of l e.0) = r.1 in
      omega arith
