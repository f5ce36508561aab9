-- A search takes units for its lines.
use Rattle.std.proofs.Common.{◌≡◌, ℕ, ◌+◌, ◌≤◌, [], ◌∷◌, ◌++◌, length, length-append, List, Option, Some, None, ap, arith}
use Rattle.search_core.proofs.Words.{Line}
use Rattle.branching.specs.Tries.{Tried}
use Rattle.search_core.specs.Meters.{AreCounted, AreMore, AreMoreBy, Units, units_counted}
use Rattle.search_core.specs.Walks.{due_lines}
use Rattle.search_core.specs.Ways.{Way}

counted_nothing : (most : Option ℕ) → units_counted most 0 ≡ 0
counted_nothing None = omega arith
counted_nothing (Some k) = omega arith

pub more_by_nothing : (units : Units) (n : ℕ) → n ≡ 0 → AreMoreBy n units units
more_by_nothing units n z =
    let a = ap (units_counted units.most) z in
    let b = counted_nothing units.most in
    omega (arith, a, b)

-- a count goes on
pub more_by_along : (before between after : Units) (m n : ℕ) → between.most ≡ before.most → AreMoreBy m before between →
    AreCounted between after m n → AreMoreBy n before after
more_by_along before between after m n e h k =
    let a = ap (λ o. units_counted o m) e in
    let b = ap (λ o. units_counted o n) e in
    omega (arith, a, b, h, k)

-- units that are used before or after take nothing away
pub more_by_after : (before between after : Units) (n : ℕ) → between.most ≡ before.most → before.used ≤ between.used →
    AreMoreBy n between after → AreMoreBy n before after
more_by_after before between after n e le h =
    let a = ap (λ o. units_counted o n) e in
    omega (arith, a, le, h)

pub more_still : (before between after : Units) → AreMore before between → between.used ≤ after.used →
    AreMore before after
more_still before between after h le = omega (arith, h, le)

-- there is one claim more, and the frame of the one above it
pub one_claim_more : (lines : List Line) (before after : Way) (f : Tried) → after.frames ≡ before.frames ++ f ∷ [] →
    due_lines lines after ≤ due_lines lines before + 1
one_claim_more lines before after f q =
    let n = ap length q in let m = length-append before.frames (f ∷ []) in omega (arith, n, m)
