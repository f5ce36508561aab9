-- The bounds of a child, from the levels of the claim above it.
use Rattle.std.proofs.Common.{◌≡◌, ◌≢◌, ℕ, ◌+◌, ◌<◌, ◌≤◌, List, max, slice_index, ap, sym, ◌∙◌, arith}
use Rattle.std.specs.Int.{next_multiple_of}
use Rattle.dsa_terms.specs.Buffers.{Instance, IsInstance, buffer}
use Rattle.dsa_terms.specs.Claims.{Claim, Entry, child, step, up}
use Rattle.dsa_search_laws.proofs.Placing.{up_at_or_above}
use Rattle.canonical_order.specs.Claims.{CoversEntry, HasBuffer, entry_of}
use Rattle.canonical_order.specs.Levels.{AreLevels}
use Rattle.canonical_order.proofs.CoverLemmas.{covers_entry, entry_of_child, from_child, in_child_by}
use Rattle.canonical_order.proofs.LevelLemmas.{has_level, level_inside}
use Rattle.line_index.specs.Watches.{AreRaised}

-- the up in the child is the raised bound at the next multiple
pub low_of_child : (I : Instance) (l : Claim) (levels : List ℕ) (b c bound low : ℕ) → AreLevels I l levels →
    0 < slice_index levels c → c ≢ b →
    bound ≡ max (up I (entry_of l c)) (up I (entry_of l b) + step I b c) →
    low ≡ next_multiple_of bound (buffer I c).alignment → low ≡ up I (entry_of (child I l (entry_of l b)) c)
unfolding up
low_of_child I l levels b c bound low h lt ne m q =
    let e = entry_of_child I l b c h.claim.rises (has_level I l levels h c lt) ne in
    let f : up I (c, bound) ≡ up I (entry_of (child I l (entry_of l b)) c) =
    ap (up I) (ap (λ (n : ℕ). let e : Entry = (c, n) in e) m ∙ sym e) in
    q ∙ f

-- a bound that is no higher than the low of its buffer in the child is met there
pub meets_child : (I : Instance) (l : Claim) (levels : List ℕ) (b c bound low : ℕ) → AreLevels I l levels →
    0 < slice_index levels c → c ≢ b → low ≡ up I (entry_of (child I l (entry_of l b)) c) → bound ≤ low →
    CoversEntry I (child I l (entry_of l b)) (c, bound)
meets_child I l levels b c bound low h lt ne q le =
    covers_entry I (child I l (entry_of l b)) (c, bound) (in_child_by I l b c (has_level I l levels h c lt) ne)
    (omega arith)

-- no low falls in the child
pub child_raised : (I : Instance) (l : Claim) (b : ℕ) (before now : List ℕ) → IsInstance I → AreLevels I l before →
    AreLevels I (child I l (entry_of l b)) now → AreRaised before now
child_raised I l b before now s h k c lt =
    let i : HasBuffer (child I l (entry_of l b)) c = has_level I (child I l (entry_of l b)) now k c lt in
    let r = from_child I l b c i in
    let p : slice_index before c ≡ up I (entry_of l c) + 1 = level_inside I l _ h c r.0 in
    let q : slice_index now c ≡ up I (entry_of (child I l (entry_of l b)) c) + 1 =
    level_inside I _ _ k c i in
    let m : (entry_of (child I l (entry_of l b)) c).1 ≡ max (up I (entry_of l c)) (up I (entry_of l b) + step I b c) =
    ap (λ (e : Entry). e.1) (entry_of_child I l b c h.claim.rises r.0 r.1) in
    let n : (entry_of (child I l (entry_of l b)) c).1 ≤ up I (entry_of (child I l (entry_of l b)) c) =
    up_at_or_above I (entry_of (child I l (entry_of l b)) c) s in
    (omega arith, omega arith)
