-- A table of lows that is filled entry by entry.
use Rattle.std.proofs.Common.{◌≡◌, ◌≢◌, ℕ, ◌+◌, ◌<◌, ◌≤◌, ◌==◌, Bool, true, false, cond, List, [], ◌∷◌, drop, length, replicate, slice_index_or, slice_set, inl, inr, sym, refl, ◌∙◌, arith}
use Rattle.std.proofs.lemmas.Bool.Decides.{nat_tests}
use Rattle.std.proofs.lemmas.List.{drop_all, get_or-replicate, get_or_past, get_or-set_other, get_or-set_same, length-replicate, length-set}
use Rattle.std.specs.Int.{next_multiple_of}
use Rattle.dsa_terms.specs.Buffers.{Buffer, Instance, buffer}
use Rattle.dsa_terms.specs.Claims.{Claim, Entry, IsClaim, Rises, buffers_of, number_of, up}
use Rattle.canonical_order.specs.Claims.{HasBuffer, entry_of}
use Rattle.canonical_order.specs.Levels.{AreLevels}
use Rattle.dsa_terms.proofs.NumberTests.{below_or_from}

-- the levels with one more than the up of each entry at the place of its buffer
abbrev pub filled : Instance → Claim → List ℕ → List ℕ
filled I [] levels = levels
filled I (e ∷ es) levels = filled I es (slice_set levels e.0 (up I e + 1))

module _ (I : Instance) where
  filled_length : (l : Claim) (levels : List ℕ) → length (filled I l levels) ≡ length levels
  filled_length [] levels = refl
  filled_length (e ∷ es) levels = filled_length es (slice_set levels e.0 (up I e + 1)) ∙ length-set levels e.0 _

  filled_other : (l : Claim) (levels : List ℕ) (b : ℕ) → (HasBuffer l b → ⊥) →
      slice_index_or (filled I l levels) b 0 ≡ slice_index_or levels b 0
  filled_other [] levels b n = refl
  filled_other (e ∷ es) levels b n =
      filled_other es (slice_set levels e.0 (up I e + 1)) b (λ h. n (inr h))
      ∙ get_or-set_other levels e.0 b (up I e + 1) 0 (λ q. n (inl q))

  filled_free : (l : Claim) (levels : List ℕ) (b : ℕ) → Rises (buffers_of l) → b < length levels → HasBuffer l b →
      slice_index_or (filled I l levels) b 0 ≡ up I (entry_of l b) + 1
  filled_free [] levels b r lt h = absurd h
  filled_free (e ∷ es) levels b r lt h = go (e.0 == b) refl h
      (filled_free es (slice_set levels e.0 (up I e + 1)) b r.1 (rw (length-set levels e.0 (up I e + 1)) lt))
    where
      go : (t : Bool) → (e.0 == b) ≡ t → HasBuffer (e ∷ es) b →
          (HasBuffer es b → slice_index_or (filled I (e ∷ es) levels) b 0 ≡ up I (entry_of es b) + 1) →
          slice_index_or (filled I (e ∷ es) levels) b 0 ≡ up I (b, cond t e.1 (number_of es b)) + 1
      go true q h ih =
          let k : e.0 ≡ b = (grind (arith, nat_tests)) in
          filled_other es (slice_set levels e.0 (up I e + 1)) b (λ i. let lt = r.0 b i in absurd (omega arith))
          ∙ rw k (get_or-set_same levels b (up I (b, e.1) + 1) 0 lt)
      go false q (inl i) ih = absurd (let k : e.0 ≢ b = (grind (arith, nat_tests)) in k (sym i))
      go false q (inr i) ih = ih i

-- ---- the table
abbrev pub zeros : ℕ → List ℕ
zeros n = replicate n 0

zeros_length : (n : ℕ) → length (zeros n) ≡ n
zeros_length n = length-replicate {A = ℕ} n 0

zeros_at : (n b : ℕ) → slice_index_or (zeros n) b 0 ≡ 0
zeros_at n b = elim (below_or_from b n) [
  | inl lt ↦ get_or-replicate {A = ℕ} n b 0 0 lt
  | inr le ↦ get_or_past (zeros n) b 0 (rw (zeros_length n) le)
]

-- the levels of a claim of the instance
pub filled_levels : (I : Instance) (l : Claim) (levels : List ℕ) → IsClaim I l →
    levels ≡ filled I l (zeros (length I)) → AreLevels I l levels
filled_levels I l levels claim h = record {
  claim = claim;
  count = rw h (filled_length I l (zeros (length I)) ∙ zeros_length (length I));
  each = λ b lt. record {
    inside = λ i. rw h (filled_free I l (zeros (length I)) b claim.rises (rw (zeros_length (length I)) lt) i);
    outside = λ out. rw h (filled_other I l (zeros (length I)) b out ∙ zeros_at (length I) b);
  };
}

-- ---- one entry more
pub filled_next : (I : Instance) (l : Claim) (n : ℕ) (e : Entry) (levels after start : List ℕ) (level : ℕ) →
    drop n l ≡ e ∷ drop (n + 1) l → level ≡ up I e + 1 → after ≡ slice_set levels e.0 level →
    filled I (drop n l) levels ≡ filled I l start → filled I (drop (n + 1) l) after ≡ filled I l start
filled_next I l n e levels after start level at q r h = rw (r, q) (rw at at h)

pub filled_all : (I : Instance) (l : Claim) (n : ℕ) (levels start : List ℕ) → length l ≤ n →
    filled I (drop n l) levels ≡ filled I l start → levels ≡ filled I l start
filled_all I l n levels start le h = rw (drop_all n l le) at h

-- ---- one level, as the code makes it
pub level_is : (I : Instance) (e : Entry) (b : Buffer) (low : ℕ) → b ≡ buffer I e.0 →
    low ≡ next_multiple_of e.1 b.alignment → low + 1 ≡ up I e + 1
unfolding up
level_is I e b low q p = rw (p, q) refl
