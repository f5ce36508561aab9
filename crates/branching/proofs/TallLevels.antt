-- Tall buffers by the levels of a claim.
use Rattle.std.proofs.Common.{◌≡◌, ◌⊎◌, ℕ, ◌+◌, ◌-◌, ◌<◌, ◌≤◌, inl, inr, List, [], ◌∷◌, All, true, false, length, slice_index, Some, None, ap, subst, arith}
use Rattle.branching.proofs.Words.{Instance, buffer, Claim, Entry, IsIn, Rises, up, is_tall, is_below, not_below, in_buffers, entry_of, least_buffer, AreLevels, first_passes, none_passes_all, is_entry, has_level, level_inside}
use Rattle.claim_levels.specs.Levels.{AreLeft}
use Rattle.claim_levels.proofs.RaisingSteps.{under_each}
use Rattle.branching.specs.Overs.{AreSizesWithin}

module _ (I : Instance) (C : ℕ) (l : Claim) (levels : List ℕ) (h : AreLevels I l levels) where
  fits_is : (e : Entry) → up I e + (buffer I e.0).size ≤ C → is_tall I C e ≡ false
  unfolding is_tall
  fits_is e le = not_below C (up I e + (buffer I e.0).size) le

  ends_is : (e : Entry) → C < up I e + (buffer I e.0).size → is_tall I C e ≡ true
  unfolding is_tall
  ends_is e lt = is_below C (up I e + (buffer I e.0).size) lt

  -- none is where one of the greatest size fits at the greatest low
  pub all_fit : (top most : ℕ) → All (λ level. level ≤ top) levels → AreSizesWithin I most → top + most ≤ C + 1 →
      None ≡ least_buffer (is_tall I C) l
  all_fit top most under sizes fits = none_passes_all (is_tall I C) l (length I) h.claim.in_range (λ e i lt.
      let q : up I e ≡ up I (entry_of l e.0) = ap (up I) (is_entry l e h.claim.rises i) in
      let p = level_inside I l _ h e.0 (in_buffers l e i) in
      let u = under_each levels top under e.0 in
      let s = sizes e.0 lt in
      fits_is e (omega (arith, q, p, u, s, fits)))

-- the rest rises, and of a claim of the levels no other buffer is tall
pub record NoneAmong (I : Instance) (C : ℕ) (levels rest : List ℕ) : Type 0 where
  pub rises : Rises rest
  pub none : (l : Claim) → AreLevels I l levels → (e : Entry) → IsIn e l → IsIn e.0 rest ⊎ (is_tall I C e ≡ false)

module _ (I : Instance) (C : ℕ) (levels : List ℕ) where
  pub none_at_first : (left : List ℕ) → AreLeft levels left → NoneAmong I C levels left
  none_at_first left a = record {
    rises = a.rises;
    none = λ l h e i. inl (a.all e.0 (let p = level_inside I l _ h e.0 (in_buffers l e i) in omega (arith, p)));
  }

  module _ (rest more : List ℕ) (b level : ℕ) (q : rest ≡ b ∷ more) (is : level ≡ slice_index levels b)
      (some : 0 < level) where
    -- one more buffer that is not
    pub next_fits : level - 1 + (buffer I b).size ≤ C → NoneAmong I C levels rest → NoneAmong I C levels more
    next_fits fits h = record {
      rises = (subst (λ (bs : List ℕ). Rises bs) q h.rises).1;
      none = λ l a e i. elim (h.none l a e i) [
        | inl j ↦ elim (subst (IsIn e.0) q j) [ inl p ↦ inr (here l a e i p) | inr k ↦ inl k ]
        | inr f ↦ inr f
      ];
    }
      where
        here : (l : Claim) → AreLevels I l levels → (e : Entry) → IsIn e l → e.0 ≡ b → is_tall I C e ≡ false
        here l a e i p =
            let u : up I e ≡ up I (entry_of l e.0) = ap (up I) (is_entry l e a.claim.rises i) in
            let m = level_inside I l _ a e.0 (in_buffers l e i) in
            let z : slice_index levels e.0 ≡ slice_index levels b = ap (slice_index levels) p in
            let s : (buffer I e.0).size ≡ (buffer I b).size = ap (λ (n : ℕ). (buffer I n).size) p in
            fits_is I C l levels a e (omega (arith, u, m, z, s, is, fits))

    -- the first one that is
    pub first_ends : C < level - 1 + (buffer I b).size → NoneAmong I C levels rest → (l : Claim) →
        AreLevels I l levels → Some b ≡ least_buffer (is_tall I C) l
    first_ends ends h l a =
        let has = has_level I l levels a b (omega (arith, is, some)) in
        let rising = subst (λ (bs : List ℕ). Rises bs) q h.rises in
        first_passes (is_tall I C) l b a.claim.rises has
        (ends_is I C l levels a (entry_of l b)
        (let p = level_inside I l _ a b has in omega (arith, p, is, ends)))
        (λ e i lt. elim (h.none l a e i) [
          | inl j ↦ absurd (elim (subst (IsIn e.0) q j) [
            | inl p ↦ omega (arith, p, lt)
            | inr k ↦ (let m = rising.0 e.0 k in omega (arith, m, lt))
          ])
          | inr f ↦ f
        ])

  pub none_ends : (rest : List ℕ) → rest ≡ [] → NoneAmong I C levels rest → (l : Claim) → AreLevels I l levels →
      None ≡ least_buffer (is_tall I C) l
  none_ends rest q h l a = none_passes_all (is_tall I C) l (length I) a.claim.in_range
      (λ e i lt. elim (h.none l a e i) [ inl j ↦ absurd (subst (IsIn e.0) q j) | inr f ↦ f ])
