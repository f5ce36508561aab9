-- The levels of a child, from those of the claim above it.
use Rattle.std.proofs.Common.{◌≡◌, ◌≢◌, ℕ, ◌+◌, ◌-◌, ◌<◌, ◌≤◌, ◌^◌, ◌⊎◌, inl, inr, List, slice_set, All, max, length, slice_index, ap, ◌∙◌, refl, arith, get_or-set_other, get_or-set_same}
use Rattle.std.specs.Int.{next_multiple_of}
use Rattle.claim_levels.proofs.Words.{Instance, IsInstance, buffer, IsBuffer, buffer_limit, Claim, Entry, IsClaim, child, step, up, below_or_from, claim-child, HasBuffer, IsBoundedBy, entry_of, Stands, up_limit, AreLevels, IsLevel, entry_of_child, from_child, in_child_by, has_level, level_inside, same_or_not}
use Rattle.line_index.proofs.Rising.{low_of_child}
use Rattle.claim_levels.proofs.Lifting.{up_of_lift}

module _ (I : Instance) (l : Claim) (levels : List ℕ) (b : ℕ) (h : AreLevels I l levels) where
  -- the buffer itself is not in the child
  pub level_of_first : IsLevel I (child I l (entry_of l b)) b 0
  level_of_first = record { inside = λ i. absurd ((from_child I l b b i).1 refl); outside = λ out. refl }

  level_of_other : (c level : ℕ) → 0 < slice_index levels c → c ≢ b →
      level ≡ up I (entry_of (child I l (entry_of l b)) c) + 1 → IsLevel I (child I l (entry_of l b)) c level
  level_of_other c level lt ne q = record {
    inside = λ i. q;
    outside = λ out. absurd (out (in_child_by I l b c (has_level I l levels h c lt) ne));
  }

  -- one that is high enough stays
  pub level_stays : (c least : ℕ) → IsInstance I → HasBuffer l b → 0 < slice_index levels c → c ≢ b →
      least ≡ slice_index levels b - 1 + step I b c → least < slice_index levels c →
      IsLevel I (child I l (entry_of l b)) c (slice_index levels c)
  level_stays c least s has lt ne q le =
      let p : slice_index levels b ≡ up I (entry_of l b) + 1 = level_inside I l _ h b has in
      let i : HasBuffer l c = has_level I l levels h c lt in
      let r : slice_index levels c ≡ up I (entry_of l c) + 1 = level_inside I l _ h c i in
      let m : max (up I (entry_of l c)) (up I (entry_of l b) + step I b c) ≡ up I (entry_of l c) = omega arith in
      let e = entry_of_child I l b c h.claim.rises i ne in
      let u : up I (entry_of (child I l (entry_of l b)) c) ≡ up I (entry_of l c) =
      ap (up I) (e ∙ ap (λ (n : ℕ). let f : Entry = (c, n) in f) m) ∙ up_of_lift I (entry_of l c) s in
      level_of_other c (slice_index levels c) lt ne (omega arith)

  -- any other one rises to the next multiple
  pub low_rises : (c least low : ℕ) → HasBuffer l b → 0 < slice_index levels c → c ≢ b →
      least ≡ slice_index levels b - 1 + step I b c → slice_index levels c ≤ least →
      low ≡ next_multiple_of least (buffer I c).alignment → low ≡ up I (entry_of (child I l (entry_of l b)) c)
  low_rises c least low has lt ne q le n =
      let p : slice_index levels b ≡ up I (entry_of l b) + 1 = level_inside I l _ h b has in
      let r : slice_index levels c ≡ up I (entry_of l c) + 1 =
      level_inside I l _ h c (has_level I l levels h c lt) in
      let m : least ≡ max (up I (entry_of l c)) (up I (entry_of l b) + step I b c) = omega arith in
      low_of_child I l _ b c least low h lt ne m n

  pub level_rises : (c least low : ℕ) → HasBuffer l b → 0 < slice_index levels c → c ≢ b →
      least ≡ slice_index levels b - 1 + step I b c → slice_index levels c ≤ least →
      low ≡ next_multiple_of least (buffer I c).alignment → IsLevel I (child I l (entry_of l b)) c (low + 1)
  level_rises c least low has lt ne q le n =
      let e = low_rises c least low has lt ne q le n in
      level_of_other c (low + 1) lt ne (omega arith)

  -- ---- all of them
  pub child_levels : (numbers : List ℕ) → length numbers ≡ length levels →
      ((c : ℕ) → slice_index levels c ≡ 0 → slice_index numbers c ≡ 0) →
      ((c : ℕ) → 0 < slice_index levels c → IsLevel I (child I l (entry_of l b)) c (slice_index numbers c)) →
      AreLevels I (child I l (entry_of l b)) numbers
  child_levels numbers count outside inside = record {
    claim = claim-child I l (entry_of l b) h.claim;
    count = count ∙ h.count;
    each = λ c lt. elim (below_or_from 0 (slice_index levels c)) [
      | inl more ↦ inside c more
      | inr none ↦ (let z : slice_index levels c ≡ 0 = omega arith in record {
        inside = λ i. absurd (let q : slice_index levels c ≡ up I (entry_of l c) + 1 =
            level_inside I l _ h c (from_child I l b c i).0 in omega arith);
        outside = λ out. outside c z;
      })
    ];
  }

-- ---- a low of a child whose bounds are low
pub child_low : (I : Instance) (l : Claim) (c n : ℕ) → All IsBuffer I → length I ≤ buffer_limit → IsClaim I l →
    IsBoundedBy (2 ^ 54) l → HasBuffer l c → n ≡ up I (entry_of l c) → n + 1 ≤ 2 ^ 55
child_low I l c n buffers count claim low has q =
    let s : Stands I l = record {
      claim = claim;
      bounds = λ e i. (let k = low e i in omega arith);
      buffers = buffers;
      count = count;
    } in
    let k = up_limit I l c (2 ^ 54) s low has in
    omega arith

-- ---- one level after another
pub set_cases : (xs : List ℕ) (j v c : ℕ) → j < length xs →
    ((c ≡ j) × (slice_index (slice_set xs j v) c ≡ v))
    ⊎ ((c ≢ j) × (slice_index (slice_set xs j v) c ≡ slice_index xs c))
set_cases xs j v c lt = elim (same_or_not c j) [
  | inl q ↦ inl (q, ap (slice_index (slice_set xs j v)) q ∙ get_or-set_same xs j v 0 lt)
  | inr ne ↦ inr (ne, get_or-set_other xs j c v 0 ne)
]
