-- The level of a buffer in a child, by the one that is placed.
use Rattle.std.proofs.Common.{◌≡◌, ◌≢◌, ℕ, ◌+◌, ◌-◌, ◌<◌, ◌≤◌, ◌^◌, List, max, All, length, slice_index, slice_index_or, ap, sym, ◌∙◌, subst, arith}
use Rattle.std.proofs.lemmas.Grind.{get_or_default_zero}
use Rattle.std.specs.Int.{next_multiple_of}
use Rattle.claim_levels.proofs.Words.{Instance, IsInstance, buffer, IsBuffer, buffer_limit, Claim, Entry, Rises, buffers_of, HasBuffer, child, step, up, sound, claim-child, entry_of, AreLevels, IsLevel, entry_of_child, from_child, in_child_by, has_level, level_in_range, level_inside}
use Rattle.dsa_terms.proofs.Numbers.{next_at_or_above}
use Rattle.claim_levels.specs.declared.placed.Placed.{Placed}
use Rattle.claim_levels.specs.Levels.{HasLowChild}
use Rattle.claim_levels.specs.Placings.{IsPlaced}
use Rattle.claim_levels.proofs.Grounding.{some_within}
use Rattle.claim_levels.proofs.RaisingSteps.{under_each}
use Rattle.claim_levels.proofs.ChildLevels.{child_low, level_of_first, level_rises, level_stays, low_rises}

pub in_instance : (I : Instance) (levels : List ℕ) (b c : ℕ) → HasLowChild I levels b → 0 < slice_index levels c →
    c < length I
in_instance I levels b c low more = level_in_range I low.above levels low.are c
    (has_level I low.above levels low.are c more)

-- ---- the buffer that is placed
pub has_placed : (I : Instance) (levels : List ℕ) (b : ℕ) → HasLowChild I levels b → 0 < slice_index levels b
has_placed I levels b low = let k = level_inside I low.above levels low.are b low.has in omega (arith, k)

module _ (I : Instance) (levels : List ℕ) (b n : ℕ) (low : HasLowChild I levels b)
    (q : n ≡ slice_index_or levels b n) where
  pub read_level : n ≡ slice_index levels b
  read_level = q ∙ get_or_default_zero levels b n (some_within levels b (has_placed I levels b low))

  pub read_some : 1 ≤ n
  read_some = let k = has_placed I levels b low in let e = read_level in omega (arith, k, e)

  pub placed_is : (top size : ℕ) → size ≡ (buffer I b).size → All (λ level. level ≤ top) levels → top ≤ 2 ^ 55 →
      IsPlaced I levels (record { buffer = b; offset = n - 1; end = n - 1 + size })
  placed_is top size e under limit =
      let k = read_some in
      let m = read_level in
      let u = under_each levels top under b in
      record {
        offset = omega (arith, k, m);
        end = ap (λ (size : ℕ). n - 1 + size) e;
        limit = omega (arith, m, u, limit);
      }

-- it has no level in the child
pub none_of_placed : (I : Instance) (l : Claim) (levels : List ℕ) (b c : ℕ) → AreLevels I l levels → c ≡ b →
    IsLevel I (child I l (entry_of l b)) c 0
none_of_placed I l levels b c h q =
    subst (λ (n : ℕ). IsLevel I (child I l (entry_of l b)) n 0) (sym q) (level_of_first I l levels b h)

pub no_level_again : (I : Instance) (l : Claim) (b c level : ℕ) → c ≡ b → IsLevel I (child I l (entry_of l b)) c level →
    0 ≡ level
no_level_again I l b c level q i = sym (i.outside (λ j. (from_child I l b c j).1 q))

-- no other buffer of the child is as low as the one that is placed and the step from it to that
at_or_above : (I : Instance) (e : Entry) → 1 ≤ (buffer I e.0).alignment → e.1 ≤ up I e
unfolding up
at_or_above I e pos = next_at_or_above e.1 (buffer I e.0).alignment pos

at_child : (I : Instance) (l : Claim) (b c : ℕ) → 1 ≤ (buffer I c).alignment → Rises (buffers_of l) → HasBuffer l c →
    c ≢ b → up I (entry_of l b) + step I b c ≤ up I (entry_of (child I l (entry_of l b)) c)
at_child I l b c pos r h ne =
    let n : ℕ = max (up I (entry_of l c)) (up I (entry_of l b) + step I b c) in
    let k : n ≤ up I (c, n) = at_or_above I (c, n) pos in
    let e : up I (entry_of (child I l (entry_of l b)) c) ≡ up I (c, n) = ap (up I) (entry_of_child I l b c r h ne) in
    omega (arith, k, e)

module _ (I : Instance) (levels : List ℕ) (p : Placed) (c level least : ℕ) (placed : IsPlaced I levels p)
    (low : HasLowChild I levels p.buffer) (s : IsInstance I) (more : 0 < slice_index levels c) (ne : c ≢ p.buffer)
    (q : least ≡ p.offset + step I p.buffer c) where
  by_level : least ≡ slice_index levels p.buffer - 1 + step I p.buffer c
  by_level = let k = placed.offset in omega (arith, k, q)

  pub level_high : least < level → (l : Claim) → AreLevels I l levels → level ≡ slice_index levels c →
      IsLevel I (child I l (entry_of l p.buffer)) c level
  level_high lt l h e = subst (IsLevel I (child I l (entry_of l p.buffer)) c) (sym e)
      (level_stays I l levels p.buffer h c least s
      (has_level I l levels h p.buffer (has_placed I levels p.buffer low)) more ne by_level
      (omega (arith, lt, e)))

  module _ (n : ℕ) (r : n ≡ next_multiple_of least (buffer I c).alignment) (le : level ≤ least) where
    pub level_low : (l : Claim) → AreLevels I l levels → level ≡ slice_index levels c →
        IsLevel I (child I l (entry_of l p.buffer)) c (n + 1)
    level_low l h e = level_rises I l levels p.buffer h c least n
        (has_level I l levels h p.buffer (has_placed I levels p.buffer low)) more ne by_level
        (omega (arith, le, e)) r

    pub limit_low : All IsBuffer I → length I ≤ buffer_limit → level ≡ slice_index levels c → n + 1 ≤ 2 ^ 55
    limit_low buffers few e = child_low I (child I low.above (entry_of low.above p.buffer)) c n buffers few
        (claim-child I low.above (entry_of low.above p.buffer) low.are.claim) low.low
        (in_child_by I low.above p.buffer c (has_level I low.above levels low.are c more) ne)
        (low_rises I low.above levels p.buffer low.are c least n low.has more ne by_level (omega (arith, le, e)) r)

  -- one that it has in the child already is not as low
  pub level_again : level ≤ least → (l : Claim) → AreLevels I l levels →
      IsLevel I (child I l (entry_of l p.buffer)) c level → ⊥
  level_again le l h i = absurd (omega (arith, le, is, above, b, e))
    where
      is : level ≡ up I (entry_of (child I l (entry_of l p.buffer)) c) + 1
      is = i.inside (in_child_by I l p.buffer c (has_level I l levels h c more) ne)

      b : slice_index levels p.buffer ≡ up I (entry_of l p.buffer) + 1
      b = level_inside I l levels h p.buffer (has_level I l levels h p.buffer (has_placed I levels p.buffer low))

      e : least ≡ slice_index levels p.buffer - 1 + step I p.buffer c
      e = by_level

      above : up I (entry_of l p.buffer) + step I p.buffer c ≤ up I (entry_of (child I l (entry_of l p.buffer)) c)
      above = at_child I l p.buffer c (sound I c s).1 h.claim.rises (has_level I l levels h c more) ne
